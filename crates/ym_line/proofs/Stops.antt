-- A run that met a fault: the rounds before are turns, and of the round with the fault at most the receiver step was taken.
use Rattle.std.proofs.Common.{◌≡◌, inl, inr, ℕ, ◌+◌, List, [], ◌∷◌, refl, sym, subst}
use Rattle.ym_line.proofs.Names.{Confirm, frames_of, State, after_turn, Batch, Round, LineFault, Memory, arrives, Pair, sent_by, Stops, StopsIn, PairRefines}
use Rattle.ym_line.specs.declared.delivery.Way.TheVariants.{There}
use Rattle.ym_line.specs.declared.fault.LineFault.TheVariants.{Carrier}
use Rattle.ym_line.specs.Rounds.{handed, StopsHalf}
use Rattle.ym_line.specs.Turns.{StopsAsMachine, StopsInTurn}
use Rattle.ym_line.proofs.HalfSteps.{Laws, goes-turn, receiver-step}

-- ---- What a half leaves where no end has heard

-- all but the line's failures is as it was
abbrev pub Same : Pair → Pair → Type 0
Same old new = new ≡ record old { failures = new.failures }

pub unchanged : (old new : Pair) → new ≡ old → Same old new
unchanged old new same = subst (λ (p : Pair). p ≡ record old { failures = p.failures }) (sym same) refl

pub half-same : (n : ℕ) (shows short : Type 0) (old : Pair) (fault : LineFault) (new : Pair) → StopsHalf n shows short old fault new → Same old new
half-same n shows short old Carrier new stops = stops.3
half-same n shows short old Memory new stops = unchanged old new stops.2
half-same n shows short old _ new stops = unchanged old new stops.1

-- ---- The line's failures

-- the line's failures are no part of the state that a pair refines
pub failures-refine : (confirm : Confirm) (files : Batch) (st : State) (old new : Pair) → Same old new → PairRefines confirm files st old → PairRefines confirm files st new
failures-refine confirm files st old new same refines =
    let counted : PairRefines confirm files st (record old { failures = new.failures }) = assumption in
    subst (PairRefines confirm files st) (sym same) counted

-- ---- The round with the fault

round-stops : Laws → (confirm : Confirm) (files : Batch) (st : State) (n : ℕ) (round : Round) (old new : Pair) (fault : LineFault) →
    PairRefines confirm files st old → Stops n round old fault new → StopsInTurn confirm files st n round old fault new
round-stops laws confirm files st n round old new fault refines (inl (inl stopped)) = StopsInTurn.nothing stopped
round-stops laws confirm files st n round old new fault refines (inl (inr wanted)) =
    StopsInTurn.unheard wanted.0 (laws.says files st old.sender refines.sender wanted.3 refines.told) wanted.4
round-stops laws confirm files st n round old new fault refines (inr stopped) =
    StopsInTurn.half stopped.0 stopped.1 (receiver-step laws confirm files st round.there old stopped.1 stopped.0 refines stopped.2) stopped.3

-- ---- A run

pub run-stops : Laws → (confirm : Confirm) (files : Batch) (rounds : List Round) (n : ℕ) (st : State) (old new : Pair) (fault : LineFault) →
    PairRefines confirm files st old → StopsIn n rounds old fault new → StopsAsMachine confirm files st n rounds old fault new
run-stops laws confirm files [] n st old new fault refines stops = absurd stops
run-stops laws confirm files (round ∷ rounds) n st old new fault refines (inl no_memory) = inl (StopsInTurn.unseen no_memory.0 no_memory.1)
run-stops laws confirm files (round ∷ rounds) n st old new fault refines (inr (inl stopped)) = inl (round-stops laws confirm files st n round old new fault refines stopped)
run-stops laws confirm files (round ∷ rounds) n st old new fault refines (inr (inr went)) =
    let first = goes-turn laws confirm files st round old went.1 went.0 refines went.2 in
    inr (first.0, went.0, went.1, first.1, run-stops laws confirm files rounds (n + 1) (after_turn (frames_of files) confirm first.0 st) went.1 new fault first.1.refines went.3)

-- where it left the pair
turn-refines : (confirm : Confirm) (files : Batch) (st : State) (n : ℕ) (round : Round) (old : Pair) (fault : LineFault) (new : Pair) →
    PairRefines confirm files st old → StopsInTurn confirm files st n round old fault new → (last : State) × PairRefines confirm files last new
turn-refines confirm files st n round old fault new refines (StopsInTurn.unseen memory same) = (st, subst (PairRefines confirm files st) (sym same) refines)
turn-refines confirm files st n round old fault new refines (StopsInTurn.nothing stopped) = (st, failures-refine confirm files st old new (half-same n _ _ old fault new stopped) refines)
turn-refines confirm files st n round old fault new refines (StopsInTurn.unheard memory says told) =
    let there_told : PairRefines confirm files st (handed There (arrives round.there (sent_by old.sender)) old) = assumption in (st, rw told there_told)
turn-refines confirm files st n round old fault new refines (StopsInTurn.half between reply half stopped) =
    (_, failures-refine confirm files _ between new (half-same n _ _ between fault new stopped) half.refines)

pub stopped-refines : (confirm : Confirm) (files : Batch) (rounds : List Round) (n : ℕ) (st : State) (old new : Pair) (fault : LineFault) →
    PairRefines confirm files st old → StopsAsMachine confirm files st n rounds old fault new → (last : State) × PairRefines confirm files last new
stopped-refines confirm files [] n st old new fault refines stops = absurd stops
stopped-refines confirm files (round ∷ rounds) n st old new fault refines (inl stops) = turn-refines confirm files st n round old fault new refines stops
stopped-refines confirm files (round ∷ rounds) n st old new fault refines (inr went) =
    stopped-refines confirm files rounds (n + 1) (after_turn (frames_of files) confirm went.0 st) went.2 new fault went.3.refines went.4
