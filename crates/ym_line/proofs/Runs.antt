-- What is seen of a round, and runs one round more.
use Rattle.std.proofs.Common.{◌≡◌, ℕ, ◌+◌, ◌<◌, suc, zero, List, [], ◌∷◌, ◌++◌, length, take, get_or, Result, Ok, Err, IfOk, IfErr, refl, subst, inl, inr, ◌⊎◌, arith}
use Rattle.ym_line.proofs.Names.{Reply, SenderParts, IsSender, Round, LineFault, Memory, Seen, what_of, Trace, Pair, Goes, GoOn, IsTrace, RunGives, Stops, StopsIn, sent_by}
use Rattle.ym_line.specs.declared.trace.How.{How}
use Rattle.ym_line.specs.declared.trace.What.{What}
use Rattle.ym_line.specs.Damage.{how_of}
use Rattle.ym_line.specs.Rounds.{RoundGives, seen_of}
use Rattle.ym_line.proofs.Turns.{FrameFound, sent-shown}

-- what is seen, part by part
pub seen-parts : FrameFound → (round : Round) (sender : SenderParts) (reply : Reply) (what : What) (there back : How) (sent : List ℕ) →
    what ≡ what_of sent → sent ≡ sent_by sender → IsSender sender → there ≡ how_of round.there → back ≡ how_of round.back →
    record { what = what; there = there; reply = reply; back = back } ≡ seen_of round sender reply
seen-parts found round sender reply what there back sent what_is sent_is is there_is back_is =
    rw (what_is, sent_is, sent-shown found sender is, there_is, back_is) refl

-- a round behind those that went
pub GoOn-append : (rounds : List Round) (round : Round) (old between new : Pair) (all : List Seen) (seen : Seen) →
    GoOn rounds old all between → Goes round between seen new → GoOn (rounds ++ round ∷ []) old (all ++ seen ∷ []) new
GoOn-append [] round old between new [] seen went goes = (new, subst (λ p. Goes round p seen new) went goes, refl)
GoOn-append (first ∷ rounds) round old between new (x ∷ all) seen went goes =
    (went.0, went.1, GoOn-append rounds round went.0 between new all seen went.2 goes)
GoOn-append _ round old between new _ seen went goes = absurd went

-- a round does not come to its end: it met a fault, or there was no memory for its entry in the trace
abbrev pub StopsAt : ℕ → Round → Pair → LineFault → Pair → Type 0
StopsAt n round old fault new = ((fault ≡ Memory) × (new ≡ old)) ⊎ Stops n round old fault new

-- a run stops at a round where those before it went
pub StopsIn-at : (rounds : List Round) (n i : ℕ) (round : Round) (old between new : Pair) (all : List Seen) (fault : LineFault) →
    i < length rounds → round ≡ get_or rounds i round → GoOn (take i rounds) old all between →
    StopsAt (n + i) round between fault new → StopsIn n rounds old fault new
StopsIn-at [] n i round old between new all fault below at went stops = absurd (omega arith)
StopsIn-at (first ∷ rounds) n zero round old between new [] fault below at went stops =
    let number : n + 0 ≡ n = omega arith in
    let first_stops : StopsAt n first old fault new = subst (λ m. StopsAt m first old fault new) number (subst (λ r. StopsAt (n + 0) r old fault new) at (subst (λ p. StopsAt (n + 0) round p fault new) went stops)) in
    elim first_stops [ inl no_memory ↦ inl no_memory | inr stopped ↦ inr (inl stopped) ]
StopsIn-at (first ∷ rounds) n (suc i) round old between new (x ∷ all) fault below at went stops =
    let number : n + suc i ≡ n + 1 + i = omega arith in
    inr (inr (x, went.0, went.1, StopsIn-at rounds (n + 1) i round went.0 between new all fault (omega arith) at went.2 (subst (λ m. StopsAt m round between fault new) number stops)))
StopsIn-at (first ∷ rounds) n _ round old between new _ fault below at went stops = absurd went

-- what holds of each trace of a run holds of the one that it answers
pub trace-gives : (rounds : List Round) (old new : Pair) (result : Result Trace LineFault) (P : Trace → Type 0) →
    RunGives rounds old result new → ((trace : Trace) → IsTrace rounds old trace new → P trace) → IfOk result P
trace-gives rounds old new (Ok trace) P gives each = each trace gives
trace-gives rounds old new (Err fault) P gives each = tt

-- and of each fault of the fault that it answers
pub fault-gives : (rounds : List Round) (old new : Pair) (result : Result Trace LineFault) (P : LineFault → Type 0) →
    RunGives rounds old result new → ((fault : LineFault) → StopsIn 1 rounds old fault new → P fault) → IfErr result P
fault-gives rounds old new (Ok trace) P gives each = tt
fault-gives rounds old new (Err fault) P gives each = each fault gives

-- so with one round
pub round-gives : (round : Round) (old new : Pair) (result : Result Seen LineFault) (P : Seen → Type 0) →
    RoundGives 1 round old result new → ((seen : Seen) → Goes round old seen new → P seen) → IfOk result P
round-gives round old new (Ok seen) P gives each = each seen gives
round-gives round old new (Err fault) P gives each = tt

pub round-stops-in : (round : Round) (old new : Pair) (result : Result Seen LineFault) (P : LineFault → Type 0) →
    RoundGives 1 round old result new → ((fault : LineFault) → StopsIn 1 (round ∷ []) old fault new → P fault) → IfErr result P
round-stops-in round old new (Ok seen) P gives each = tt
round-stops-in round old new (Err fault) P gives each = each fault (inr (inl gives))
