use Rattle.std.proofs.Common.{◌≡◌, ℕ, List, [], ◌∷◌, ◌++◌, refl, sym, ap, subst}
use Rattle.ym_core.specs.declared.standing.Standing.{Standing}
use Rattle.ym_link.specs.History.{SenderHears, sender_none, sender_more}
use Rattle.ym_link.specs.Sender.{SenderParts}
use Rattle.ym_link.specs.Sender as sender
use Rattle.ym_link.specs.SendOver.{written_for}
use Rattle.ym_pair.specs.Logs.{Spoke, spoke_along, answered_along}
use Rattle.ym_delay.specs.TimedLine.{BeginsSilent, SpokeAt, answers_of, spoken}
use Rattle.ym_delay.proofs.Cleared.{moved}
use Rattle.ym_delay.proofs.laws.timed_calls_pair_up.Goals as goal

abbrev Silent : List Spoke → Type 0
Silent [] = Unit {0}
Silent (one ∷ more) = one.wrote ≡ []

silent-more : (prefix : List Spoke) (one : Spoke) → Silent prefix → (prefix ≡ [] → one.wrote ≡ []) → Silent (prefix ++ one ∷ [])
silent-more [] one silent then = then refl
silent-more (first ∷ prefix) one silent then = silent

never-none : (prefix : List Spoke) (one : Spoke) → prefix ++ one ∷ [] ≡ [] → ⊥
never-none [] one none = cc
never-none (first ∷ prefix) one none = cc

-- a sender that has heard nothing is the first
unheard : (s : SenderParts) (deliveries : List (List ℕ)) (progress : ℕ) (new : SenderParts) (hears : SenderHears s deliveries progress new) → spoke_along s deliveries progress new hears ≡ [] → new ≡ s
unheard s deliveries progress new (sender_none _) none = refl
unheard s deliveries progress new (sender_more _ before steps between bytes _ hears is on short gives) none = absurd (never-none (spoke_along s before steps between hears) _ none)

begins : (s : SenderParts) (deliveries : List (List ℕ)) (progress : ℕ) (new : SenderParts) (hears : SenderHears s deliveries progress new) → written_for (sender.spoken s) ≡ [] → Silent (spoke_along s deliveries progress new hears)
begins s deliveries progress new (sender_none _) nothing = tt
begins s deliveries progress new (sender_more _ before steps between bytes _ hears is on short gives) nothing =
    silent-more (spoke_along s before steps between hears) _ (begins s before steps between hears nothing)
    (λ none. subst (λ x. written_for (sender.spoken x) ≡ []) (sym (unheard s before steps between hears none)) nothing)

first-silent : (spoke : List SpokeAt) → Silent (spoken spoke) → BeginsSilent spoke
first-silent [] silent = tt
first-silent (s ∷ spoke) silent = silent

pub returns-clause-apart : goal.returns-clause-apart
returns-clause-apart c times s new r end calls timed prompt fresh none =
    let nothing : written_for (sender.spoken s) ≡ [] = ap (λ (x : Standing). written_for (sender.spoken_in x.state x.mode x.cancel_pending s.frame)) fresh.sender in
    let silent = subst Silent (sym timed.spoke_is) (begins s calls.deliveries calls.progress new calls.speaks nothing) in
    let pairs = c.timed_deliveries_pair_up.ensures.paired times timed.start timed.begun timed.spoke timed.last timed.answered prompt (first-silent timed.spoke silent) timed.timed none in (
      pairs.0,
      moved (spoken timed.spoke) (spoke_along s calls.deliveries calls.progress new calls.speaks) timed.last.bytes (written_for (sender.spoken new)) (answers_of timed.answered)
          (answered_along r calls.heard calls.steps end calls.hears) pairs.0 timed.spoke_is timed.last_is timed.answered_is pairs.1,
    )

pub returns-clause-heard : goal.returns-clause-heard
returns-clause-heard c times s new r end calls timed prompt fresh hears =
    returns-clause-apart c times s new r end calls timed prompt fresh (c.timed_deliveries_pair_up.ensures.heard times timed.spoke timed.answered hears)
