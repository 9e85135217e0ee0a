-- What a pair that refines a state of the machine has committed, in words of the two ends.
use Rattle.std.proofs.Common.{◌≡◌, ◌∙◌, ◌⊎◌, ℕ, min, List, [], ◌∷◌, length, map, take, Option, None, Some, All, Result, Ok, Err, refl, ap, subst, inl, inr, arith}
use Rattle.std.proofs.lemmas.List.{length-map, length-take}
use Rattle.ym_line.proofs.Names.{Shape, Confirm, frames_of, State, Turn, after_turns, done_at, Batch, AllTold, batch_of, FileParts, IsFile, Round, LineFault, Seen, Trace, AreNew, ReportsCommitted, Pair, GoOn, StopsIn, IsTrace, RunGives, AreTurns, CommitsFirst, FollowsMachine, PairRefines, RunsAsMachine, StopsWithMachine}
use Rattle.ym_file.specs.Kept.{Told, TellsNone}
use Rattle.ym_machine.specs.Machine.{start}
use Rattle.ym_line.specs.Promise.{CommitsAPrefix, first_position}
use Rattle.ym_line.proofs.Stops.{Same, half-same, stopped-refines, unchanged}

-- ---- What the laws say

pub record Laws : Type 0 where
  pub go_on : (rounds : List Round) (old new : Pair) (trace : Trace) → IsTrace rounds old trace new → FollowsMachine rounds old trace new
  pub stop : (n : ℕ) (rounds : List Round) (old new : Pair) (fault : LineFault) → StopsIn n rounds old fault new → StopsWithMachine n rounds old fault new
  pub stand : (confirm : Confirm) (files : Batch) (st : State) (rounds : List Round) (turns : List Turn) (old new : Pair) (all : List Seen) →
      AreTurns confirm files st rounds turns old all new → PairRefines confirm files st old → PairRefines confirm files (after_turns (frames_of files) confirm turns st) new
  pub first : (confirm : Confirm) (files : Batch) (st : State) (pair : Pair) → PairRefines confirm files st pair → CommitsFirst files st pair
  pub prefix : (shape : Shape) (sources : List FileParts) (st : State) (pair : Pair) → All IsFile sources → AllTold sources → CommitsFirst (batch_of shape sources) st pair → CommitsAPrefix sources pair
  pub new_stand : (pair : Pair) → AreNew pair → All IsFile pair.sender.files → PairRefines pair.receiver.receiver.confirm (batch_of pair.sender.shape pair.sender.files) start pair

-- ---- New ends

abbrev pub batch_to_send : Pair → Batch
batch_to_send pair = batch_of pair.sender.shape pair.sender.files

abbrev pub confirm_of : Pair → Confirm
confirm_of pair = pair.receiver.receiver.confirm

-- ---- A run that no end heard anything in

-- both ends are as they were
pub record SameEnds (old new : Pair) : Type 0 where
  pub sender : new.sender ≡ old.sender
  pub receiver : new.receiver ≡ old.receiver

same-ends : (old new : Pair) → Same old new → SameEnds old new
same-ends old new same = record { sender = ap (λ (p : Pair). p.sender) same; receiver = ap (λ (p : Pair). p.receiver) same }

-- each sender keeps files that are within their limits; a run without rounds tells nothing of it
pub trace-heard : (rounds : List Round) (old new : Pair) (all : List Seen) → GoOn rounds old all new → ((rounds ≡ []) × SameEnds old new) ⊎ All IsFile old.sender.files
trace-heard [] old new [] went = inl (refl, same-ends old new (unchanged old new went))
trace-heard (round ∷ rounds) old new (seen ∷ all) went = inr went.1.there.keeps.files
trace-heard _ old new _ went = absurd went

fault-heard : (n : ℕ) (rounds : List Round) (old new : Pair) (fault : LineFault) → StopsIn n rounds old fault new → SameEnds old new ⊎ All IsFile old.sender.files
fault-heard n [] old new fault stops = absurd stops
fault-heard n (round ∷ rounds) old new fault (inl no_memory) = inl (same-ends old new (unchanged old new no_memory.1))
fault-heard n (round ∷ rounds) old new fault (inr (inl (inl (inl stopped)))) = inl (same-ends old new (half-same n _ _ old fault new stopped))
fault-heard n (round ∷ rounds) old new fault (inr (inl (inl (inr wanted)))) = inr wanted.3.files
fault-heard n (round ∷ rounds) old new fault (inr (inl (inr stopped))) = inr stopped.2.keeps.files
fault-heard n (round ∷ rounds) old new fault (inr (inr went)) = inr went.2.there.keeps.files

-- new ends that are as they were have committed nothing, and report nothing
none-done : (sources : List FileParts) → done_at (length sources) (first_position sources) ≡ 0
none-done [] = refl
none-done (source ∷ sources) = refl

none-told : (told : Option Told) (t : Told) → TellsNone told → told ≡ Some t → t.files ≡ []
none-told None t none is = absurd (cc)
none-told (Some all) t none is = let same : all ≡ t = cc in subst (λ (x : Told). x.files ≡ []) same none.1

same-commits : (old new : Pair) → AreNew old → SameEnds old new → CommitsAPrefix old.sender.files new
same-commits old new fresh same =
    record {
      number = 0;
      within = omega arith;
      headers = rw same.receiver fresh.sink.headers;
      bytes = λ told is. ap (map (λ (bytes : List ℕ). Some bytes)) (none-told old.receiver.kept.told told fresh.sink.told (rw same.receiver at is));
      files_is = rw (same.receiver, fresh.receiver) refl;
      done = rw (same.sender, fresh.sender) (let none = none-done old.sender.files in omega (arith, none));
    }

-- ---- What was committed

pub run-of : Laws → (rounds : List Round) (old new : Pair) (trace : Trace) → IsTrace rounds old trace new → AreNew old → All IsFile old.sender.files →
    RunsAsMachine (confirm_of old) (batch_to_send old) start rounds old trace new
run-of laws rounds old new trace gives fresh files = laws.go_on rounds old new trace gives (confirm_of old) (batch_to_send old) start (laws.new_stand old fresh files)

pub run-refines : Laws → (rounds : List Round) (old new : Pair) (trace : Trace) (fresh : AreNew old) (files : All IsFile old.sender.files) →
    (runs : RunsAsMachine (confirm_of old) (batch_to_send old) start rounds old trace new) →
    PairRefines (confirm_of old) (batch_to_send old) (after_turns (frames_of (batch_to_send old)) (confirm_of old) runs.turns start) new
run-refines laws rounds old new trace fresh files runs =
    laws.stand (confirm_of old) (batch_to_send old) start rounds runs.turns old new trace.rounds.items runs.are_turns (laws.new_stand old fresh files)

-- a pair that refines some state
standing-commits : Laws → (old new : Pair) (st : State) → AreNew old → All IsFile old.sender.files → PairRefines (confirm_of old) (batch_to_send old) st new → CommitsAPrefix old.sender.files new
standing-commits laws old new st fresh files refines =
    laws.prefix old.sender.shape old.sender.files st new files fresh.tells (laws.first (confirm_of old) (batch_to_send old) st new refines)

pub run-commits : Laws → (rounds : List Round) (old new : Pair) (result : Result Trace LineFault) → RunGives rounds old result new → AreNew old → CommitsAPrefix old.sender.files new
run-commits laws rounds old new (Ok trace) gives fresh = elim (trace-heard rounds old new trace.rounds.items gives.goes_on) [
  | inl same ↦ same-commits old new fresh same.1
  | inr files ↦
      let runs = run-of laws rounds old new trace gives fresh files in
      standing-commits laws old new _ fresh files (run-refines laws rounds old new trace fresh files runs)
]
run-commits laws rounds old new (Err fault) gives fresh = elim (fault-heard 1 rounds old new fault gives) [
  | inl same ↦ same-commits old new fresh same
  | inr files ↦
      let begins = laws.new_stand old fresh files in
      let last = stopped-refines (confirm_of old) (batch_to_send old) rounds 1 start old new fault begins (laws.stop 1 rounds old new fault gives (confirm_of old) (batch_to_send old) start begins) in
      standing-commits laws old new last.0 fresh files last.1
]

pub run-reports : Laws → (rounds : List Round) (old new : Pair) (trace : Trace) → IsTrace rounds old trace new → AreNew old → ReportsCommitted trace new
run-reports laws rounds old new trace gives fresh =
    let commits = run-commits laws rounds old new (Ok trace) gives fresh in
    let headers_long : length new.receiver.kept.headers ≡ min commits.number (length old.sender.files) =
    ap length commits.headers ∙ (length-map (take commits.number old.sender.files) (λ (f : FileParts). f.header) ∙ length-take commits.number old.sender.files) in
    record {
      files_is = omega (arith, headers_long, gives.files, commits.files_is, commits.within);
      done = omega (arith, headers_long, gives.done, commits.done, commits.within);
    }
