-- Two ends that refine a state of the machine of two counters, and rounds as turns of that machine.
use Rattle.std.specs.Prelude.{◌≡◌, ◌⊎◌, map, length, ◌+◌, ℕ, Bool, true, false, List, [], ◌∷◌, Option, None, Some}
use Rattle.ym_frame.specs.declared.control.Control.{Control}
use Rattle.ym_frame.specs.Control.{reply_bytes}
use Rattle.ym_frame.specs.declared.control.Reply.{Reply}
use Rattle.ym_machine.specs.declared.confirm.Confirm.{Confirm}
use Rattle.ym_machine.specs.Frames.{File, frames_of, IsPrefix}
use Rattle.ym_machine.specs.Machine.{State, Invariant, said, receiver_step, committed, reported}
use Rattle.ym_machine.specs.Run.{Turn, answer_of, after_turn, after_turns}
use Rattle.ym_header.specs.Header.{HeaderParts}
use Rattle.ym_core.specs.Scan.{controls_in}
use Rattle.ym_link.specs.ReceiverInto.{Tells}
use Rattle.ym_link.specs.ReceiverRefines.{IsBatch, ReceiverRefines, bytes_of}
use Rattle.ym_link.specs.ReceiverRefines as receiver
use Rattle.ym_link.specs.SenderRefines as sender
use Rattle.ym_core.specs.Position.{done_at}
use Rattle.ym_file.specs.Kept.{Told}
use Rattle.ym_link.specs.Sender.{FilledAt, FailedAt, spoken}
use Rattle.ym_file.specs.SourceFile.{FileParts}
use Rattle.ym_link.specs.SenderRefines.{Batch, SenderRefines, AllTold, IsSaid}
use Rattle.ym_line.specs.declared.delivery.Delivery.{Delivery}
use Rattle.ym_line.specs.declared.delivery.Delivery.TheVariants.{Whole, Lost, Damaged}
use Rattle.ym_line.specs.declared.delivery.Round.{Round}
use Rattle.ym_line.specs.declared.fault.LineFault.{LineFault}
use Rattle.ym_line.specs.declared.fault.LineFault.TheVariants.{Memory}
use Rattle.ym_line.specs.declared.trace.Seen.{Seen}
use Rattle.ym_line.specs.declared.trace.Trace.{Trace}
use Rattle.ym_line.specs.Damage.{arrives, ShowsThere, ShowsBack, IsShort}
use Rattle.ym_line.specs.declared.delivery.Way.TheVariants.{There, Back}
use Rattle.ym_line.specs.Rounds.{Pair, StopsHalf, handed, seen_of, sent_by}

-- ---- A pair at a state of the machine

-- The files are the batch, whose bytes the sources tell.
pub record PairRefines (confirm : Confirm) (files : Batch) (st : State) (pair : Pair) : Type 0 where
  pub machine : Invariant confirm (frames_of files) st
  pub batch : IsBatch files
  pub told : AllTold pair.sender.files
  pub sender : SenderRefines files st pair.sender
  pub receiver : ReceiverRefines confirm files st pair.receiver.receiver pair.receiver.kept

-- ---- A round as a turn

-- the line was handed what arrives of the frame, and then what arrives of the reply
abbrev pub handed_both : Round → Reply → Pair → Pair
handed_both round reply pair =
    handed Back (arrives round.back (reply_bytes reply))
    (handed There (arrives round.there (sent_by pair.sender)) pair)

abbrev pub is_whole : Delivery → Bool
is_whole Whole = true
is_whole _ = false

-- the controls that come back; none are named where the reply comes whole
abbrev pub came_of : Delivery → Option (List Control)
came_of Whole = None
came_of Lost = Some []
came_of (Damaged bytes) = Some (controls_in bytes)

-- with the two truths, whether the sink and the source failed in it
abbrev pub turn_of : Round → Bool → Bool → Turn
turn_of round sink_failed source_failed = record {
  whole_there = is_whole round.there;
  back = came_of round.back;
  sink_failed = sink_failed;
  source_failed = source_failed;
}

-- Whether a source failed, by the failure counts of the files. Nothing else changes but that one
-- source may have been asked to fill.
abbrev pub IsSourceTruth : Bool → List FileParts → List FileParts → Type 0
IsSourceTruth false old new = (new ≡ old) ⊎ ((file : ℕ) × FilledAt file old new)
IsSourceTruth true old new = (file : ℕ) × FailedAt file old new

-- What a round leaves, of a pair that refined a state: the sender had to send what the machine's
-- has to say, the reply is the machine's, the trace shows both, the line was handed what arrives of
-- them, and the pair refines the state that the machine's turn leads to. The damage showed, and the
-- two truths are those of the failure counts.
pub record IsTurn (confirm : Confirm) (files : Batch) (st : State) (round : Round) (turn : Turn)
    (old : Pair) (seen : Seen) (new : Pair) : Type 0 where
  pub there : ShowsThere round.there × IsShort round.there
  pub back : ShowsBack seen.reply round.back × IsShort round.back
  pub says : IsSaid files (said st) (spoken old.sender)
  pub reply_is : seen.reply ≡ (answer_of (frames_of files) confirm turn st).1
  pub seen_is : seen ≡ seen_of round old.sender seen.reply
  pub others : new ≡
      record (handed_both round seen.reply old) { sender = new.sender; receiver = new.receiver }
  pub turn_is : turn ≡ turn_of round turn.sink_failed turn.source_failed
  pub sink : Tells turn.sink_failed old.receiver.failures new.receiver.failures
  pub source : IsSourceTruth turn.source_failed old.sender.files new.sender.files
  pub refines : PairRefines confirm files (after_turn (frames_of files) confirm turn st) new

-- ---- A run as turns

-- a turn for each round
abbrev pub AreTurns : Confirm → Batch → State → List Round → List Turn → Pair → List Seen → Pair →
    Type 0
AreTurns confirm files st [] [] old [] new = new ≡ old
AreTurns confirm files st (round ∷ rounds) (turn ∷ turns) old (seen ∷ all) new =
    (between : Pair) × IsTurn confirm files st round turn old seen between ×
    AreTurns confirm files (after_turn (frames_of files) confirm turn st) rounds turns between all
    new
AreTurns confirm files st _ _ old _ new = ⊥

-- both reports of a trace are those of a state of the machine
pub record Reports (files : Batch) (st : State) (trace : Trace) : Type 0 where
  pub done : trace.done ≡ length (reported files st)
  pub files_is : trace.files ≡ length (committed files st)
  pub send : trace.send ≡ sender.state_of st.sender
  pub recv : trace.recv ≡ receiver.state_of st.receiver

-- a run that came to its end: its rounds are turns, and its trace reports the state that they lead
-- to
pub record RunsAsMachine (confirm : Confirm) (files : Batch) (st : State) (rounds : List Round)
    (old : Pair) (trace : Trace) (new : Pair) : Type 0 where
  pub turns : List Turn
  pub are_turns : AreTurns confirm files st rounds turns old trace.rounds.items new
  pub reports : Reports files (after_turns (frames_of files) confirm turns st) trace

-- wherever the pair stood
abbrev pub FollowsMachine : List Round → Pair → Trace → Pair → Type 0
FollowsMachine rounds old trace new =
    (confirm : Confirm) (files : Batch) (st : State) →
    PairRefines confirm files st old → RunsAsMachine confirm files st rounds old trace new

abbrev pub TakesATurn : Round → Pair → Seen → Pair → Type 0
TakesATurn round old seen new =
    (confirm : Confirm) (files : Batch) (st : State) →
    PairRefines confirm files st old →
    (turn : Turn) × IsTurn confirm files st round turn old seen new

-- ---- A run that met a fault

-- The receiver step of a turn, taken alone: the sender had to send what the machine's has to say,
-- the reply is the machine's, the line was handed what arrives, and the pair refines the state that
-- the machine's step leads to.
pub record IsReceiverStep (confirm : Confirm) (files : Batch) (st : State) (delivery : Delivery)
    (old : Pair) (reply : Reply) (new : Pair) : Type 0 where
  pub there : ShowsThere delivery × IsShort delivery
  pub says : IsSaid files (said st) (spoken old.sender)
  pub sink_failed : Bool
  pub reply_is : reply ≡
      (receiver_step (frames_of files) confirm sink_failed (is_whole delivery) st).1
  pub others : new ≡
      record (handed There (arrives delivery (sent_by old.sender)) old) { receiver = new.receiver }
  pub sink : Tells sink_failed old.receiver.failures new.receiver.failures
  pub refines : PairRefines confirm files
      (receiver_step (frames_of files) confirm sink_failed (is_whole delivery) st).0 new

-- What round n with a fault leaves: the ends as they were, where there was no memory for its entry
-- in the trace, or the receiver step met the fault; so too where the delivery there was handed on
-- and the receiver wanted memory for it; or the receiver step, where the sender step met the fault.
pub data StopsInTurn (confirm : Confirm) (files : Batch) (st : State) (n : ℕ) (round : Round)
    (old : Pair) (fault : LineFault) (new : Pair) : Type 0 where
  unseen : fault ≡ Memory → new ≡ old → StopsInTurn confirm files st n round old fault new
  nothing : StopsHalf n (ShowsThere round.there) (IsShort round.there) old fault new →
      StopsInTurn confirm files st n round old fault new
  unheard : fault ≡ Memory → IsSaid files (said st) (spoken old.sender) →
      new ≡ handed There (arrives round.there (sent_by old.sender)) old →
      StopsInTurn confirm files st n round old fault new
  half : (between : Pair) (reply : Reply) →
      IsReceiverStep confirm files st round.there old reply between →
      StopsHalf n (ShowsBack reply round.back) (IsShort round.back) between fault new →
      StopsInTurn confirm files st n round old fault new

-- A run that met a fault, of which the first round is number n: the rounds before are turns, and of
-- the round with the fault at most the receiver step was taken.
abbrev pub StopsAsMachine : Confirm → Batch → State → ℕ → List Round → Pair → LineFault → Pair →
    Type 0
StopsAsMachine confirm files st n [] old fault new = ⊥
StopsAsMachine confirm files st n (round ∷ rounds) old fault new =
    StopsInTurn confirm files st n round old fault new
    ⊎ ((turn : Turn) × (seen : Seen) × (between : Pair)
    × IsTurn confirm files st round turn old seen between
    × StopsAsMachine confirm files (after_turn (frames_of files) confirm turn st) (n + 1) rounds
    between fault new)

-- wherever the pair stood; the first round has this number
abbrev pub StopsWithMachine : ℕ → List Round → Pair → LineFault → Pair → Type 0
StopsWithMachine first rounds old fault new =
    (confirm : Confirm) (files : Batch) (st : State) →
    PairRefines confirm files st old → StopsAsMachine confirm files st first rounds old fault new

-- ---- What a pair that refines a state of the machine has committed and reports

-- The files that the receiver has committed are the first ones of the batch, with their headers
-- and, where the sink tells them, their bytes. The files that the sender reports are among them,
-- and both ends have ended as the machine's have.
pub record CommitsFirst (files : Batch) (st : State) (pair : Pair) : Type 0 where
  pub headers : pair.receiver.kept.headers ≡
      map (λ (f : File HeaderParts). f.header) (committed files st)
  pub bytes : (told : Told) →
      pair.receiver.kept.told ≡ Some told → told.files ≡ map bytes_of (committed files st)
  pub first : IsPrefix (committed files st) files
  pub files_is : pair.receiver.receiver.files ≡ length (committed files st)
  pub done_is : done_at (length pair.sender.files) pair.sender.standing.position ≡
      length (reported files st)
  pub among : IsPrefix (reported files st) (committed files st)
  pub send_is : pair.sender.standing.state ≡ sender.state_of st.sender
  pub recv_is : pair.receiver.receiver.state ≡ receiver.state_of st.receiver
