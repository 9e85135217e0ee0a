use Rattle.std.proofs.Common.{inl, inr, ℕ, List, [], ◌∷◌, refl, arith}
use Rattle.ym_delay.specs.Cleared.{AnswersAlike, ClearsFrom, HandsLeft, LetsClear, SaysAgain}
use Rattle.ym_delay.specs.TimedLine.{AnsweredAt, IsTimed, SpokeAt, Times, WroteAt, answers_of, spoken, wrote, written}
use Rattle.ym_delay.proofs.Ahead.{Begins, Within}
use Rattle.ym_delay.proofs.Cleared.{alone, there-at}
use Rattle.ym_delay.proofs.ClearedCopies.{in-order}
use Rattle.ym_delay.proofs.ClearedGoes.{solved-here}
use Rattle.ym_delay.proofs.ClearedPairs.{solve}
use Rattle.ym_delay.proofs.Timed.{Pairs}
use Rattle.ym_delay.proofs.laws.cleared_deliveries_pair_up.Goals as goal

module _ (begins : Begins) (within : Within) (times : Times) (start begun : ℕ) (last : WroteAt) (answered : List AnsweredAt) (alike : AnswersAlike (answers_of answered)) where
  by-drops : (drops : List ℕ) (spoke : List SpokeAt) → IsTimed times start begun spoke last answered → SaysAgain (spoken spoke) last.bytes → HandsLeft times drops answered spoke → ClearsFrom times 0 0 drops spoke → Pairs spoke last answered
  by-drops drops [] timed again back clears = alone times last.at last.bytes last.at (last ∷ []) answered ((refl, omega arith), tt) (there-at times last.at (last ∷ []) answered timed.there)
  by-drops drops (s ∷ spoke) timed again back clears =
      solved-here times answered (solve times begins within answered) (s ∷ spoke) last 0 drops 0 start begun (wrote s ∷ []) (record {
        speaks = timed.speaks;
        answers = timed.answers;
        are = ((refl, omega arith), tt);
        led_is = omega arith;
        there = there-at times s.at (written (s ∷ spoke) last) answered timed.there;
        back = back;
        again = again;
        clears = clears;
        few = inr (omega arith);
        alike = alike;
      })

  pairs : (spoke : List SpokeAt) → IsTimed times start begun spoke last answered → SaysAgain (spoken spoke) last.bytes → LetsClear times spoke answered → Pairs spoke last answered
  pairs spoke timed again (inl clears) = by-drops [] spoke timed again (in-order times answered spoke timed.back) clears
  pairs spoke timed again (inr counts) = by-drops counts.drops spoke timed again counts.back counts.clears

pub returns : goal.returns
returns c times start begun spoke last answered timed again alike clears =
    pairs c.a_delivery_brings_its_frame.ensures.heard c.what_came_back_is_of_the_reply.ensures.damaged times start begun last answered alike spoke timed again clears
