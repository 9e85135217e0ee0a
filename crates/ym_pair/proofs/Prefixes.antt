-- Where no bad run is longer than a burst, and no failure count rises, each round of a pair that has not given up leads to one that has not.
use Rattle.std.proofs.Common.{◌≡◌, ◌≢◌, ◌∙◌, ◌≤◌, ◌<◌, ◌+◌, ◌⊎◌, inl, inr, ℕ, Bool, true, false, List, [], ◌∷◌, length, Option, refl, sym, ap, subst, arith, All}
use Rattle.ym_pair.proofs.Names.{Control, Shape, Confirm, BURST, frames_of, State, start, after_turn, SendState, ReceiverParts, SenderParts, IsSender, IsFilled, Batch, FileParts, IsFile, file_at, Position, longest_bad_run, AreNew, Pair, Goes, CommitsFirst, PairRefines, Lost, Round, Spoke, Answered, ends, IsStep, counts, hears}
use Rattle.ym_file.specs.Counts.{Counted}
use Rattle.ym_machine.specs.Machine.{Invariant, KeepsReceiver, sender_step}
use Rattle.ym_machine.specs.RoundsRemaining.{SenderGoes}
use Rattle.ym_machine.specs.Run.{Turn, IsDamage}
use Rattle.ym_machine.specs.Run as machine
use Rattle.ym_machine.specs.State.{SenderEnd}
use Rattle.ym_machine.specs.ShortBursts.{IsFine}
use Rattle.ym_core.specs.declared.state.SendState.TheVariants as send_state
use Rattle.ym_link.specs.ReceiverInto.{Tells}
use Rattle.ym_link.specs.SenderRefines.{AllTold, SenderRefines, batch_of}
use Rattle.ym_link.specs.SenderRefines as sender
use Rattle.ym_line.specs.Completion.{both_whole}
use Rattle.ym_line.specs.Promise.{CommitsAPrefix}
use Rattle.ym_line.specs.Turns.{AreTurns, IsTurn, IsSourceTruth, TakesATurn, turn_of}
use Rattle.ym_line.specs.declared.trace.Seen.{Seen}
use Rattle.ym_pair.proofs.Ghosts.{Comes, ghost}
use Rattle.ym_pair.proofs.Paired.{Computed, SpeaksTo, AnswersTo, receiver-stays}

-- ---- What the laws say

pub record TurnLaws : Type 0 where
  pub computed : Computed
  pub go : (round : Round) (old new : Pair) (seen : Seen) → Goes round old seen new → TakesATurn round old seen new
  pub damage : (confirm : Confirm) (files : Batch) (st : State) (rounds : List Round) (turns : List Turn) (old new : Pair) (all : List Seen) →
      AreTurns confirm files st rounds turns old all new → IsDamage (frames_of files) confirm turns st
  pub goes_on : (files : Batch) (confirm : Confirm) (turn : Turn) (turns : List Turn) (bad : ℕ) (st : State) →
      IsFine confirm (frames_of files) bad st → machine.longest_bad_run bad (turn ∷ turns) ≤ BURST → turn.sink_failed ≡ false → turn.source_failed ≡ false →
      machine.IsTurnDamage (frames_of files) confirm turn st →
      (next : ℕ) × IsFine confirm (frames_of files) next (after_turn (frames_of files) confirm turn st) × (machine.longest_bad_run next turns ≤ BURST)
  pub whole : (round : Round) (sink_failed source_failed : Bool) → machine.is_whole (turn_of round sink_failed source_failed) ≡ both_whole round
  pub first : (confirm : Confirm) (files : Batch) (st : State) (pair : Pair) → PairRefines confirm files st pair → CommitsFirst files st pair
  pub prefix : (shape : Shape) (sources : List FileParts) (st : State) (pair : Pair) → All IsFile sources → AllTold sources → CommitsFirst (batch_of shape sources) st pair → CommitsAPrefix sources pair
  pub new_stand : (pair : Pair) → AreNew pair → All IsFile pair.sender.files → PairRefines pair.receiver.receiver.confirm (batch_of pair.sender.shape pair.sender.files) start pair
  pub alone : (confirm : Confirm) (files : Batch) (st : State) (old new : SenderParts) (failed : Bool) → Invariant confirm (frames_of files) st → AllTold old.files →
      SenderRefines files st old → IsStep old (hears (counts old) old.standing []) failed new →
      Invariant confirm (frames_of files) (sender_step (frames_of files) failed [] st) × AllTold new.files
      × SenderRefines files (sender_step (frames_of files) failed [] st) new × KeepsReceiver st (sender_step (frames_of files) failed [] st)
  pub alone_fine : (confirm : Confirm) (files : Batch) (before next : ℕ) (st : State) (failed : Bool) → IsFine confirm (frames_of files) before st →
      IsFine confirm (frames_of files) next (after_turn (frames_of files) confirm (record machine.lost { source_failed = failed }) st) →
      IsFine confirm (frames_of files) next (sender_step (frames_of files) failed [] st)
  -- of failure counts
  pub filled : (failed : Bool) (fills : Option Position) (old new : List FileParts) → IsFilled failed fills old new → IsSourceTruth failed old new
  pub long : (failed : Bool) (old new : List FileParts) → IsSourceTruth failed old new → length new ≡ length old
  pub grow : (failed : Bool) (old new : List FileParts) → IsSourceTruth failed old new → (i : ℕ) → (file_at old i).failures ≤ (file_at new i).failures
  pub source : (failed : Bool) (old between new : List FileParts) → IsSourceTruth failed old between → ((i : ℕ) → (file_at between i).failures ≤ (file_at new i).failures) →
      ((i : ℕ) → i < length old → ¬ Counted (file_at old i).failures (file_at new i).failures) → failed ≡ false
  pub sink : (failed : Bool) (a b c : ℕ) → Tells failed a b → b ≤ c → ¬ Counted a c → failed ≡ false

-- ---- Rounds as turns without a failure

abbrev pub turns_of : List Round → List Turn
turns_of [] = []
turns_of (round ∷ rounds) = turn_of round false false ∷ turns_of rounds

-- so many bad rounds went before, and no bad run of these is longer than a burst
abbrev pub IsShort : ℕ → List Round → Type 0
IsShort before rounds = machine.longest_bad_run before (turns_of rounds) ≤ BURST

pub turns-longest : TurnLaws → (rounds : List Round) (before : ℕ) → machine.longest_bad_run before (turns_of rounds) ≡ longest_bad_run before rounds
turns-longest laws [] before = refl
turns-longest laws (round ∷ rounds) before = rw (laws.whole round false false, turns-longest laws rounds 0, turns-longest laws rounds (before + 1)) refl

-- ---- A pair that has not given up

-- The pair refines a state of the machine, with a sender that may have more retries than this one, and neither has given up.
pub record Prefix (confirm : Confirm) (files : Batch) (before : ℕ) (s : SenderParts) (r : ReceiverParts) : Type 0 where
  pub st : State
  pub retries : ℕ
  pub few : s.standing.retries ≤ retries
  pub refines : PairRefines confirm files st (ends (ghost retries s) r)
  pub fine : IsFine confirm (frames_of files) before st

-- and so it is behind a round, before the others
pub record Onward (confirm : Confirm) (files : Batch) (rounds : List Round) (s : SenderParts) (r : ReceiverParts) : Type 0 where
  pub before : ℕ
  pub prefix : Prefix confirm files before s r
  pub short : IsShort before rounds

-- the failure counts tell of no failure
abbrev pub CalmSink : ReceiverParts → ReceiverParts → Type 0
CalmSink old new = (failed : Bool) → Tells failed old.failures new.failures → failed ≡ false

abbrev pub CalmSources : List FileParts → List FileParts → Type 0
CalmSources old new = (failed : Bool) → IsSourceTruth failed old new → failed ≡ false

-- how a sender that has not given up stands
pub sender-going : (end : SenderEnd) (s : SendState) → s ≡ sender.state_of end → SenderGoes end → (s ≡ send_state.Running) ⊎ (s ≡ send_state.Finished)
sender-going end s is goes = grind (arith, is, goes)

pub sender-finished : (end : SenderEnd) → sender.state_of end ≡ send_state.Finished → end ≡ SenderEnd.Finished
sender-finished end is = grind (arith, is)

still-replies : (s : SendState) → (s ≡ send_state.Running) ⊎ (s ≡ send_state.Finished) → s ≢ send_state.NoReply
still-replies s (inl runs) = λ gone. absurd (cc)
still-replies s (inr done) = λ gone. absurd (cc)

pub prefix-goes : TurnLaws → (confirm : Confirm) (files : Batch) (before : ℕ) (round : Round) (rounds : List Round) (s next : SenderParts) (r after : ReceiverParts) (cs : List Control) (seen : Seen) →
    (prefix : Prefix confirm files before s r) → (comes : Comes prefix.retries s cs next) → Goes round (ends (ghost prefix.retries s) r) seen (ends comes.new after) →
    CalmSink r after → CalmSources s.files next.files → IsShort before (round ∷ rounds) → Onward confirm files rounds next after
prefix-goes laws confirm files before round rounds s next r after cs seen prefix comes goes sink sources short =
    let old : Pair = ends (ghost prefix.retries s) r in
    let new : Pair = ends comes.new after in
    let turned = laws.go round old new seen goes confirm files prefix.st prefix.refines in
    let turn : Turn = turned.0 in
    let is_turn : IsTurn confirm files prefix.st round turn old seen new = turned.1 in
    let no_sink : turn.sink_failed ≡ false = sink turn.sink_failed is_turn.sink in
    let no_source : turn.source_failed ≡ false = sources turn.source_failed (subst (λ all. IsSourceTruth turn.source_failed s.files all) comes.files is_turn.source) in
    let turn_is : turn ≡ turn_of round false false = is_turn.turn_is ∙ (ap (λ f. turn_of round f turn.source_failed) no_sink ∙ ap (turn_of round false) no_source) in
    let brief : machine.longest_bad_run before (turn ∷ turns_of rounds) ≤ BURST = subst (λ t. machine.longest_bad_run before (t ∷ turns_of rounds) ≤ BURST) (sym turn_is) short in
    let damage = (laws.damage confirm files prefix.st (round ∷ []) (turn ∷ []) old new (seen ∷ []) (new, is_turn, refl)).0 in
    let one = laws.goes_on files confirm turn (turns_of rounds) before prefix.st prefix.fine brief no_sink no_source damage in
    let st : State = after_turn (frames_of files) confirm turn prefix.st in
    let refines : PairRefines confirm files st new = is_turn.refines in
    let like = comes.goes_on (still-replies comes.new.standing.state (sender-going st.sender comes.new.standing.state refines.sender.standing.state one.1.going.0)) in
    record {
      before = one.0;
      prefix = record {
        st = st;
        retries = like.0;
        few = like.1;
        refines = subst (λ x. PairRefines confirm files st (ends x after)) like.2 refines;
        fine = one.1;
      };
      short = one.2;
    }

-- a wait in vain leads to such a pair too, as a round does in which both deliveries are lost
pub prefix-vain : TurnLaws → (confirm : Confirm) (files : Batch) (before : ℕ) (round : Round) (rounds : List Round) (s next : SenderParts) (r : ReceiverParts) →
    (prefix : Prefix confirm files before s r) → (comes : Comes prefix.retries s [] next) → round.there ≡ Lost → round.back ≡ Lost →
    CalmSources s.files next.files → IsShort before (round ∷ rounds) → Onward confirm files rounds next r
prefix-vain laws confirm files before round rounds s next r prefix comes there back sources short =
    let failed : Bool = comes.heard.0 in
    let goes = laws.alone confirm files prefix.st (ghost prefix.retries s) comes.new failed prefix.refines.machine prefix.refines.told prefix.refines.sender comes.heard.1 in
    let no_source : failed ≡ false = sources failed (subst (λ all. IsSourceTruth failed s.files all) comes.files (laws.filled failed _ s.files comes.new.files comes.heard.1.files)) in
    let turn : Turn = record machine.lost { source_failed = failed } in
    let turn_is : turn ≡ turn_of round false false = ap (λ f. record machine.lost { source_failed = f }) no_source ∙ rw (there, back) refl in
    let brief : machine.longest_bad_run before (turn ∷ turns_of rounds) ≤ BURST = subst (λ t. machine.longest_bad_run before (t ∷ turns_of rounds) ≤ BURST) (sym turn_is) short in
    let one = laws.goes_on files confirm turn (turns_of rounds) before prefix.st prefix.fine brief refl no_source refl in
    let st : State = sender_step (frames_of files) failed [] prefix.st in
    let fine : IsFine confirm (frames_of files) one.0 st = laws.alone_fine confirm files before one.0 prefix.st failed prefix.fine one.1 in
    let refines : PairRefines confirm files st (ends comes.new r) = record {
      machine = goes.0;
      batch = prefix.refines.batch;
      told = goes.1;
      sender = goes.2;
      receiver = receiver-stays confirm files prefix.st st r.receiver r.kept goes.3 prefix.refines.receiver;
    } in
    let like = comes.goes_on (still-replies comes.new.standing.state (sender-going st.sender comes.new.standing.state refines.sender.standing.state fine.going.0)) in
    record {
      before = one.0;
      prefix = record {
        st = st;
        retries = like.0;
        few = like.1;
        refines = subst (λ x. PairRefines confirm files st (ends x r)) like.2 refines;
        fine = fine;
      };
      short = one.2;
    }

-- the sender that has more retries keeps to what each sender keeps to
pub prefix-is : (confirm : Confirm) (files : Batch) (before : ℕ) (s : SenderParts) (r : ReceiverParts) → (prefix : Prefix confirm files before s r) → IsSender s → IsSender (ghost prefix.retries s)
prefix-is confirm files before s r prefix is = record {
  files = is.files;
  position = is.position;
  retries = λ on.
      let at = prefix.refines.sender.standing in
      let state = sym at.state ∙ on in
      let runs : prefix.st.sender ≡ SenderEnd.Running = grind (arith, state) in
      let retries = at.retries runs in
      let below = prefix.fine.machine.counters.sender_retries runs in
      omega (arith, retries, below);
  frame = is.frame;
}

-- ---- Failure counts never fall

tells-grew : (failed : Bool) (a b : ℕ) → Tells failed a b → a ≤ b
tells-grew failed a b tells = grind (arith, tells)

counted-behind : (a b c : ℕ) → a ≤ b → Counted b c → Counted a c
counted-behind a b c grew counted_failure = grind (arith, grew, counted_failure)

pub answers-grew : (r end : ReceiverParts) (answered : List Answered) → AnswersTo true r answered end → r.failures ≤ end.failures
answers-grew r end [] answers = let same : end.failures ≡ r.failures = ap (λ (x : ReceiverParts). x.failures) answers in omega (arith, same)
answers-grew r end (one ∷ answered) answers =
    let first = tells-grew answers.3.2.0 r.failures answers.0.failures answers.3.2.1.truth in
    let others = answers-grew answers.0 end answered answers.5 in
    omega (arith, first, others)

pub speaks-grew : TurnLaws → (s new : SenderParts) (spoke : List Spoke) → SpeaksTo s spoke new → (i : ℕ) → (file_at s.files i).failures ≤ (file_at new.files i).failures
speaks-grew laws s new [] speaks i = let same : (file_at new.files i).failures ≡ (file_at s.files i).failures = ap (λ (x : SenderParts). (file_at x.files i).failures) speaks in omega (arith, same)
speaks-grew laws s new (one ∷ spoke) speaks i =
    let first = laws.grow speaks.4.0 s.files speaks.0.files (laws.filled speaks.4.0 _ s.files speaks.0.files speaks.4.1.files) i in
    let others = speaks-grew laws speaks.0 new spoke speaks.5 i in
    omega (arith, first, others)

-- no failure count rises from here to the end
pub record IsCalm (s new : SenderParts) (r end : ReceiverParts) : Type 0 where
  pub sink : ¬ Counted r.failures end.failures
  pub sources : (i : ℕ) → i < length s.files → ¬ Counted (file_at s.files i).failures (file_at new.files i).failures

-- so it is behind a delivery to the receiver, and behind one to the sender
pub calm-there : (s new : SenderParts) (r after end : ReceiverParts) (failed : Bool) → IsCalm s new r end → Tells failed r.failures after.failures → IsCalm s new after end
calm-there s new r after end failed calm tells = record {
  sink = λ counted_failure. calm.sink (counted-behind r.failures after.failures end.failures (tells-grew failed r.failures after.failures tells) counted_failure);
  sources = calm.sources;
}

pub calm-back : TurnLaws → (s next new : SenderParts) (r end : ReceiverParts) (failed : Bool) → IsCalm s new r end → IsSourceTruth failed s.files next.files → IsCalm next new r end
calm-back laws s next new r end failed calm truth = record {
  sink = calm.sink;
  sources = λ i below counted_failure.
      calm.sources i (subst (λ n. i < n) (laws.long failed s.files next.files truth) below) (counted-behind _ _ _ (laws.grow failed s.files next.files truth i) counted_failure);
}
