use Rattle.std.proofs.Common.{ℕ, List, [], ◌∷◌, inl}
use Rattle.ym_delay.specs.TimedLine.{AnsweredAt, BeginsSilent, HearsEachTime, NoneMeet, SpokeAt, Times}
use Rattle.ym_delay.proofs.Timed.{Why, pairs}
use Rattle.ym_delay.proofs.laws.timed_deliveries_pair_up.Goals as goal

silent : (times : Times) (from : ℕ) (spoke : List SpokeAt) (answered : List AnsweredAt) → BeginsSilent spoke → Why times from spoke answered
silent times from [] answered begins = tt
silent times from (s ∷ spoke) answered begins = inl begins

pub returns-clause-paired : goal.returns-clause-paired
returns-clause-paired c times start begun spoke last answered prompt begins timed none =
    pairs times prompt answered start begun spoke last (record {
      speaks = timed.speaks;
      answers = timed.answers;
      there = timed.there;
      back = timed.back;
      none_meet = none;
      why = silent times begun spoke answered begins;
    })

none-meet : (times : Times) (spoke : List SpokeAt) (answered : List AnsweredAt) → HearsEachTime spoke → NoneMeet times spoke answered
none-meet times [] answered hears = tt
none-meet times (s ∷ []) answered hears = tt
none-meet times (s ∷ next ∷ spoke) answered hears = (λ vain. absurd (hears.0 vain.nothing), none-meet times (next ∷ spoke) answered hears.1)

pub returns-clause-heard : goal.returns-clause-heard
returns-clause-heard c times spoke answered hears = none-meet times spoke answered hears
