-- Runs of new ends in which damage comes in short bursts, by the laws of the machine.
use Rattle.std.proofs.Common.{◌≡◌, ◌≢◌, ◌∙◌, ◌≤◌, ◌<◌, ◌⊎◌, ℕ, ◌+◌, suc, List, [], ◌∷◌, length, map, take, Option, None, Some, IfSome, IsSome, All, sum_by, refl, sym, ap, subst, inl, inr, arith}
use Rattle.std.proofs.lemmas.List.{length-map, take_all}
use Rattle.std.proofs.lemmas.List.Sums.{sum_by-cons}
use Rattle.ym_line.proofs.Names.{pieces_of, Shape, Confirm, frames_of, Turn, NoFailure, IsDamage, after_turns, Batch, AllTold, file_of, told_pieces, FileParts, IsFile, SendState, Round, Seen, Trace, AllWhole, AreGoing, HaveFinished, NoneCounted, whole_rounds, AreNew, Pair, IsTrace, AreTurns, CommitsFirst, PairRefines, Reports}
use Rattle.ym_file.specs.Plan.{count_of}
use Rattle.ym_machine.specs.declared.limits.TheConstants.{BURST}
use Rattle.ym_machine.specs.RoundsRemaining.{SenderGoes, ReceiverGoes, IsGoing, CountsWithin, IsComplete, needed_by, rounds_needed}
use Rattle.ym_machine.specs.Run as machine
use Rattle.ym_machine.specs.State.{SenderEnd, ReceiverEnd, State, start, committed}
use Rattle.ym_link.specs.ReceiverRefines as receiver
use Rattle.ym_link.specs.SenderRefines as sender
use Rattle.ym_file.specs.SourceFile.{blocks_of}
use Rattle.ym_core.specs.declared.state.SendState.TheVariants as send_state
use Rattle.ym_core.specs.declared.state.RecvState.{RecvState}
use Rattle.ym_core.specs.declared.state.RecvState.TheVariants as recv_state
use Rattle.ym_line.specs.Completion.{BringsShortBadRuns, rounds_for}
use Rattle.ym_line.specs.Needed.{others_of}
use Rattle.ym_line.specs.Promise.{CommitsAPrefix}
use Rattle.ym_line.proofs.Promised.{Laws, SameEnds, batch_to_send, confirm_of, run-of, run-refines, trace-heard}
use Rattle.ym_line.proofs.Truths.{SameTurns, same-turns, no-failure}

-- ---- What the laws say

pub record Completion : Type 0 where
  pub damage : (confirm : Confirm) (files : Batch) (st : State) (rounds : List Round) (turns : List Turn) (old new : Pair) (all : List Seen) →
      AreTurns confirm files st rounds turns old all new → IsDamage (frames_of files) confirm turns st
  pub count : (shape : Shape) (file : List ℕ) → length (pieces_of shape file) ≡ count_of shape (length file)
  pub going : (files : Batch) (confirm : Confirm) (turns : List Turn) → IsDamage (frames_of files) confirm turns start → NoFailure turns →
      machine.longest_bad_run 0 turns ≤ BURST → IsGoing (after_turns (frames_of files) confirm turns start)
  pub counts : (files : Batch) (confirm : Confirm) (turns : List Turn) → IsDamage (frames_of files) confirm turns start → NoFailure turns →
      machine.longest_bad_run 0 turns ≤ BURST → CountsWithin (BURST + 1 + BURST) (after_turns (frames_of files) confirm turns start)
  pub complete : (files : Batch) (confirm : Confirm) (turns : List Turn) → IsDamage (frames_of files) confirm turns start → NoFailure turns →
      machine.longest_bad_run 0 turns ≤ BURST → rounds_needed confirm files ≤ machine.whole_turns turns → IsComplete files (after_turns (frames_of files) confirm turns start)
  pub running : (files : Batch) (confirm : Confirm) (turns : List Turn) → machine.AllWhole turns → NoFailure turns → length turns < rounds_needed confirm files →
      (after_turns (frames_of files) confirm turns start).sender ≢ SenderEnd.Finished

-- ---- The rounds needed are the machine's

pieces-count : Completion → (shape : Shape) (size : ℕ) (bytes : Option (List ℕ)) → IfSome bytes (λ all. length all ≡ size) → IsSome bytes →
    length (told_pieces shape (count_of shape size) bytes) ≡ count_of shape size
pieces-count laws shape size None sized told = absurd (cc)
pieces-count laws shape size (Some all) sized told = laws.count shape all ∙ ap (count_of shape) sized

needed-file : Completion → (confirm : Confirm) (shape : Shape) (source : FileParts) → IsFile source → IsSome source.bytes →
    needed_by confirm (file_of shape source) ≡ blocks_of shape source + others_of confirm
needed-file laws confirm shape source file told = let x = pieces-count laws shape source.header.length source.bytes file.bytes told in grind (arith, x)

abbrev blocks_and_others : Confirm → Shape → FileParts → ℕ
blocks_and_others confirm shape source = blocks_of shape source + others_of confirm

needed-files : Completion → (confirm : Confirm) (shape : Shape) (sources : List FileParts) → All IsFile sources → AllTold sources →
    sum_by (needed_by confirm) (map (file_of shape) sources) ≡ sum_by (blocks_and_others confirm shape) sources
needed-files laws confirm shape [] files tells = refl
needed-files laws confirm shape (source ∷ sources) files tells =
    let file : IsFile source = files 0 source (omega arith) in
    let tell : IsSome source.bytes = tells 0 source (omega arith) in
    let here : needed_by confirm (file_of shape source) ≡ blocks_and_others confirm shape source = needed-file laws confirm shape source file tell in
    let others = needed-files laws confirm shape sources (λ k d below. files (suc k) d (omega (arith, below))) (λ k d below. tells (suc k) d (omega (arith, below))) in
    let both = sum_by-cons (needed_by confirm) (file_of shape source) (map (file_of shape) sources) in
    let each = sum_by-cons (blocks_and_others confirm shape) source sources in
    omega (arith, both, each, here, others)

needed-is : Completion → (pair : Pair) → AreNew pair → All IsFile pair.sender.files → rounds_needed (confirm_of pair) (batch_to_send pair) ≡ rounds_for pair
needed-is laws pair fresh files = ap (λ n. 2 + n) (needed-files laws (confirm_of pair) pair.sender.shape pair.sender.files files fresh.tells)

-- ---- How the ends stand

pub sender-going : (end : SenderEnd) (s : SendState) → s ≡ sender.state_of end → SenderGoes end → (s ≡ send_state.Running) ⊎ (s ≡ send_state.Finished)
sender-going end s is goes = grind (arith, is, goes)

pub receiver-going : (end : ReceiverEnd) (s : RecvState) → s ≡ receiver.state_of end → ReceiverGoes end → (s ≡ recv_state.Running) ⊎ (s ≡ recv_state.Finished)
receiver-going end s is goes = grind (arith, is, goes)

pub sender-runs : (end : SenderEnd) → sender.state_of end ≡ send_state.Running → end ≡ SenderEnd.Running
sender-runs end is = grind (arith, is)

pub sender-finished : (end : SenderEnd) → sender.state_of end ≡ send_state.Finished → end ≡ SenderEnd.Finished
sender-finished end is = grind (arith, is)

receiver-runs : (end : ReceiverEnd) → receiver.state_of end ≡ recv_state.Running → end ≡ ReceiverEnd.Running
receiver-runs end is = grind (arith, is)

-- ---- A run

abbrev after : (old : Pair) → List Turn → State
after old turns = after_turns (frames_of (batch_to_send old)) (confirm_of old) turns start

-- a run of new ends as turns without a failure, with what is whole and bad in it, where its ends stand, and what they have committed and report
record Ran (rounds : List Round) (old : Pair) (trace : Trace) (new : Pair) : Type 0 where
  turns : List Turn
  damage : IsDamage (frames_of (batch_to_send old)) (confirm_of old) turns start
  same : SameTurns rounds turns
  none : NoFailure turns
  refines : PairRefines (confirm_of old) (batch_to_send old) (after old turns) new
  commits : CommitsFirst (batch_to_send old) (after old turns) new
  reports : Reports (batch_to_send old) (after old turns) trace

ran : Laws → Completion → (rounds : List Round) (old new : Pair) (trace : Trace) → IsTrace rounds old trace new → AreNew old → All IsFile old.sender.files → NoneCounted old new → Ran rounds old trace new
ran laws completion rounds old new trace gives fresh files none =
    let runs = run-of laws rounds old new trace gives fresh files in
    let refines : PairRefines (confirm_of old) (batch_to_send old) (after old runs.turns) new = run-refines laws rounds old new trace fresh files runs in
    record {
      turns = runs.turns;
      damage = completion.damage (confirm_of old) (batch_to_send old) start rounds runs.turns old new trace.rounds.items runs.are_turns;
      same = same-turns (confirm_of old) (batch_to_send old) rounds runs.turns start old new trace.rounds.items runs.are_turns;
      none = no-failure (confirm_of old) (batch_to_send old) rounds runs.turns start old new trace.rounds.items runs.are_turns none;
      refines = refines;
      commits = laws.first (confirm_of old) (batch_to_send old) (after old runs.turns) new refines;
      reports = runs.reports;
    }

-- ---- Without a round

-- new ends that are as they were run
still-send : (rounds : List Round) (old new : Pair) (trace : Trace) → IsTrace rounds old trace new → AreNew old → SameEnds old new → trace.send ≡ send_state.Running
still-send rounds old new trace gives fresh same = rw (gives.send, same.sender, fresh.sender) refl

still-going : (rounds : List Round) (old new : Pair) (trace : Trace) → IsTrace rounds old trace new → AreNew old → SameEnds old new → AreGoing trace new
still-going rounds old new trace gives fresh same =
    record {
      send = inl (still-send rounds old new trace gives fresh same);
      recv = inl (rw (gives.recv, same.receiver, fresh.receiver) refl);
      sender_retries = λ _. rw (same.sender, fresh.sender) (omega arith);
      receiver_retries = λ _. rw (same.receiver, fresh.receiver) (omega arith);
    }

-- and every batch needs some
needs-some : (rounds : List Round) (old : Pair) → rounds ≡ [] → rounds_for old ≤ whole_rounds rounds → ⊥
needs-some rounds old none enough = let few = rw none at enough in omega (arith, few)

-- ---- What is promised

pub run-going : Laws → Completion → (rounds : List Round) (old new : Pair) (trace : Trace) → IsTrace rounds old trace new → BringsShortBadRuns rounds old new → AreGoing trace new
run-going laws completion rounds old new trace gives brings = elim (trace-heard rounds old new trace.rounds.items gives.goes_on) [
  | inl same ↦ still-going rounds old new trace gives brings.fresh same.1
  | inr files ↦
      let ran_so : Ran rounds old trace new = ran laws completion rounds old new trace gives brings.fresh files brings.none in
      let st : State = after old ran_so.turns in
      let brief : machine.longest_bad_run 0 ran_so.turns ≤ BURST = subst (λ n. n ≤ BURST) (sym (ran_so.same.longest 0)) brings.short in
      let goes : IsGoing st = completion.going (batch_to_send old) (confirm_of old) ran_so.turns ran_so.damage ran_so.none brief in
      let counts : CountsWithin (BURST + 1 + BURST) st = completion.counts (batch_to_send old) (confirm_of old) ran_so.turns ran_so.damage ran_so.none brief in
      record {
        send = sender-going st.sender trace.send ran_so.reports.send goes.0;
        recv = receiver-going st.receiver trace.recv ran_so.reports.recv goes.1;
        sender_retries = λ running. let runs = sender-runs st.sender (sym ran_so.reports.send ∙ running) in rw (ran_so.refines.sender.standing.retries runs) (counts.sender_retries runs);
        receiver_retries = λ running. let runs = receiver-runs st.receiver (sym ran_so.reports.recv ∙ running) in rw (ran_so.refines.receiver.running runs) (counts.receiver_retries runs);
      }
]

pub run-complete : Laws → Completion → (rounds : List Round) (old new : Pair) (trace : Trace) → IsTrace rounds old trace new → BringsShortBadRuns rounds old new →
    rounds_for old ≤ whole_rounds rounds → HaveFinished old.sender.files trace new
run-complete laws completion rounds old new trace gives brings enough = elim (trace-heard rounds old new trace.rounds.items gives.goes_on) [
  | inl same ↦ absurd (needs-some rounds old same.0 enough)
  | inr files ↦
      let ran_so : Ran rounds old trace new = ran laws completion rounds old new trace gives brings.fresh files brings.none in
      let st : State = after old ran_so.turns in
      let shape : Shape = old.sender.shape in
      let sources : List FileParts = old.sender.files in
      let brief : machine.longest_bad_run 0 ran_so.turns ≤ BURST = subst (λ n. n ≤ BURST) (sym (ran_so.same.longest 0)) brings.short in
      let many : rounds_needed (confirm_of old) (batch_to_send old) ≤ machine.whole_turns ran_so.turns = rw (needed-is completion old brings.fresh files, ran_so.same.whole) enough in
      let complete : IsComplete (batch_to_send old) st = completion.complete (batch_to_send old) (confirm_of old) ran_so.turns ran_so.damage ran_so.none brief many in
      let first : CommitsAPrefix sources new = laws.prefix shape sources st new files brings.fresh.tells ran_so.commits in
      let counted : length (committed (batch_to_send old) st) ≡ length sources = ap length complete.committed ∙ length-map sources (file_of shape) in
      let all : take first.number sources ≡ sources = take_all first.number sources (let n = first.files_is in let m = ran_so.commits.files_is in omega (arith, n, m, counted)) in
      record {
        send = ran_so.reports.send ∙ ap sender.state_of complete.sender;
        recv = ran_so.reports.recv ∙ ap receiver.state_of complete.receiver;
        done = ran_so.reports.done ∙ (ap length complete.reported ∙ length-map sources (file_of shape));
        files = ran_so.reports.files_is ∙ counted;
        headers = first.headers ∙ ap (map (λ (f : FileParts). f.header)) all;
        bytes = λ told told_is. first.bytes told told_is ∙ ap (map (λ (f : FileParts). f.bytes)) all;
      }
]

pub run-sooner : Laws → Completion → (rounds : List Round) (old new : Pair) (trace : Trace) → IsTrace rounds old trace new → AreNew old → NoneCounted old new →
    AllWhole rounds → length rounds < rounds_for old → trace.send ≢ send_state.Finished
run-sooner laws completion rounds old new trace gives fresh none whole fewer = elim (trace-heard rounds old new trace.rounds.items gives.goes_on) [
  | inl same ↦ λ finished. let runs : trace.send ≡ send_state.Running = still-send rounds old new trace gives fresh same.1 in cc
  | inr files ↦
      let ran_so : Ran rounds old trace new = ran laws completion rounds old new trace gives fresh files none in
      let st : State = after old ran_so.turns in
      let few : length ran_so.turns < rounds_needed (confirm_of old) (batch_to_send old) = rw (needed-is completion old fresh files, ran_so.same.long) fewer in
      λ finished. completion.running (batch_to_send old) (confirm_of old) ran_so.turns (ran_so.same.all_whole whole) ran_so.none few (sender-finished st.sender (sym ran_so.reports.send ∙ finished))
]
