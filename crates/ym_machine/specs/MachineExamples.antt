-- Small batches, computed: what is said and replied at each turn, and how the ends stand behind the
-- last.
--
-- A header is here the bytes of a name. In the trace FrameAt i is F[i]: of a file of one piece F[0]
-- is its block 0, F[1] its data block, F[2] its EOT, and F[3] the end block.
use Rattle.std.specs.Prelude.{ℕ, ◌≡◌, List, [], ◌∷◌, ◌++◌, replicate, length, true, false, Some, refl}
use Rattle.ym_frame.specs.declared.control.Control.{Control}
use Rattle.ym_frame.specs.declared.control.Control.TheVariants as control
use Rattle.ym_frame.specs.declared.control.Reply.{Reply}
use Rattle.ym_frame.specs.declared.control.Reply.TheVariants.{Silence, Start, Ack, AckStart, Nak, Cancel}
use Rattle.ym_machine.specs.declared.confirm.Confirm.{Confirm}
use Rattle.ym_machine.specs.declared.confirm.Confirm.TheVariants.{Twice, Once}
use Rattle.ym_machine.specs.Frames.{File, BlockZero, Piece, Eot, EndBlock, frames_of, numbered_from}
use Rattle.ym_machine.specs.State.{SenderEnd, ReceiverEnd, State, start, Speech, Nothing, FrameAt, CanCan, committed, reported}
use Rattle.ym_machine.specs.Run.{Turn, after_turns, Entry, entries_of, whole, lost, longest_bad_run}
use Rattle.ym_machine.specs.RoundsRemaining.{rounds_remaining, rounds_needed}

-- a batch whose headers are names
abbrev Names : Type 0
Names = List (File (List ℕ))

abbrev empty_batch : Names
empty_batch = []

-- a file of one piece, 128 bytes A
abbrev one_file : Names
one_file = record { header = 97 ∷ []; pieces = replicate 128 65 ∷ [] } ∷ []

abbrev one_empty_file : Names
one_empty_file = record { header = 97 ∷ []; pieces = [] } ∷ []

abbrev two_empty_files : Names
two_empty_files =
    record { header = 97 ∷ []; pieces = [] } ∷ record { header = 98 ∷ []; pieces = [] } ∷ []

-- a turn whose delivery there is whole, and back come these control bytes
abbrev back_comes : List Control → Turn
back_comes came = record whole { back = Some came }

-- a turn whose delivery there is lost or damaged, and the reply comes whole
abbrev there_lost : Turn
there_lost = record whole { whole_there = false }

abbrev says : Speech → Reply → Entry
says speech reply = record { said = speech; reply = reply }

abbrev trace_of : Confirm → Names → List Turn → List Entry
trace_of confirm files turns = entries_of (frames_of files) confirm turns start

abbrev state_after : Confirm → Names → List Turn → State
state_after confirm files turns = after_turns (frames_of files) confirm turns start

-- the frames of a batch, and numbers that wrap
one_file-frames :
    frames_of one_file ≡ BlockZero (97 ∷ []) ∷ Piece 1 (replicate 128 65) ∷ Eot ∷ EndBlock ∷ []
one_file-frames = refl

two_empty_files-frames :
    frames_of two_empty_files ≡
    BlockZero (97 ∷ []) ∷ Eot ∷ BlockZero (98 ∷ []) ∷ Eot ∷ EndBlock ∷ []
two_empty_files-frames = refl

numbers-wrap :
    numbered_from {H = ℕ} 255 ((1 ∷ []) ∷ (2 ∷ []) ∷ (3 ∷ []) ∷ []) ≡
    Piece 255 (1 ∷ []) ∷ Piece 0 (2 ∷ []) ∷ Piece 1 (3 ∷ []) ∷ []
numbers-wrap = refl

-- one file in six whole turns
abbrev one_file_trace : List Entry
one_file_trace =
    says Nothing Start ∷
    says (FrameAt 0) AckStart ∷
    says (FrameAt 1) Ack ∷
    says (FrameAt 2) Nak ∷
    says (FrameAt 2) AckStart ∷
    says (FrameAt 3) Ack ∷ []

one_file-trace : trace_of Twice one_file (replicate 6 whole) ≡ one_file_trace
one_file-trace = refl

one_file-ends :
    state_after Twice one_file (replicate 6 whole) ≡
    record start {
      acknowledged = 4;
      taken = 4;
      sent = true;
      sender = SenderEnd.Finished;
      receiver = ReceiverEnd.Finished;
    }
one_file-ends = refl

one_file-needs : rounds_needed Twice one_file ≡ 6
one_file-needs = refl

one_file-left : rounds_remaining Twice (frames_of one_file) start ≡ 6
one_file-left = refl

-- with five turns it is stored and reported; with four, after the first EOT, it is neither
one_file_cut-five : reported one_file (state_after Twice one_file (replicate 5 whole)) ≡ one_file
one_file_cut-five = refl

one_file_cut-four : committed one_file (state_after Twice one_file (replicate 4 whole)) ≡ []
one_file_cut-four = refl

-- no files in two turns; then nothing is said and replied
empty_batch-trace :
    trace_of Twice empty_batch (replicate 3 whole) ≡
    says Nothing Start ∷ says (FrameAt 0) Ack ∷ says Nothing Silence ∷ []
empty_batch-trace = refl

empty_batch-needs : rounds_needed Twice empty_batch ≡ 2
empty_batch-needs = refl

two_empty_files-trace :
    trace_of Twice two_empty_files (replicate 8 whole)
    ≡ says Nothing Start ∷ says (FrameAt 0) AckStart ∷ says (FrameAt 1) Nak ∷
    says (FrameAt 1) AckStart ∷ says (FrameAt 2) AckStart ∷ says (FrameAt 3) Nak ∷
    says (FrameAt 3) AckStart ∷ says (FrameAt 4) Ack ∷ []
two_empty_files-trace = refl

-- C is no acknowledgement: of the reply ACK C to block 0 the first turn leaves C, the second ACK
abbrev c_is_no_ack : List Turn
c_is_no_ack =
    whole ∷ back_comes (control.Start ∷ []) ∷ back_comes (control.Ack ∷ []) ∷ replicate 5 whole

c_is_no_ack-trace :
    trace_of Twice one_file c_is_no_ack
    ≡ says Nothing Start ∷ says (FrameAt 0) AckStart ∷ says (FrameAt 0) AckStart ∷
    says Nothing Start ∷ says (FrameAt 1) Ack ∷ says (FrameAt 2) Nak ∷ says (FrameAt 2) AckStart ∷
    says (FrameAt 3) Ack ∷ []
c_is_no_ack-trace = refl

c_is_no_ack-receiver : (state_after Twice one_file c_is_no_ack).receiver ≡ ReceiverEnd.Finished
c_is_no_ack-receiver = refl

-- the last replies of a file are lost: it is stored, and the sender does not know
abbrev lost_last_acks : List Turn
lost_last_acks = replicate 3 whole ++ replicate 4 (back_comes [])

lost_last_acks-trace :
    trace_of Twice one_empty_file lost_last_acks
    ≡ says Nothing Start ∷ says (FrameAt 0) AckStart ∷ says (FrameAt 1) Nak ∷
    says (FrameAt 1) AckStart ∷ says (FrameAt 1) AckStart ∷ says (FrameAt 1) AckStart ∷
    says (FrameAt 1) AckStart ∷ []
lost_last_acks-trace = refl

lost_last_acks-committed :
    committed one_empty_file (state_after Twice one_empty_file lost_last_acks) ≡ one_empty_file
lost_last_acks-committed = refl

lost_last_acks-reported :
    reported one_empty_file (state_after Twice one_empty_file lost_last_acks) ≡ []
lost_last_acks-reported = refl

lost_last_acks-sender :
    (state_after Twice one_empty_file (lost_last_acks ++ replicate 2 whole)).sender ≡
    SenderEnd.Finished
lost_last_acks-sender = refl

lost_last_acks-receiver :
    (state_after Twice one_empty_file (lost_last_acks ++ replicate 2 whole)).receiver ≡
    ReceiverEnd.Finished
lost_last_acks-receiver = refl

-- the first EOT commits: one file in five whole turns
single_eot-trace :
    trace_of Once one_file (replicate 5 whole)
    ≡ says Nothing Start ∷ says (FrameAt 0) AckStart ∷ says (FrameAt 1) Ack ∷
    says (FrameAt 2) AckStart ∷ says (FrameAt 3) Ack ∷ []
single_eot-trace = refl

single_eot-ends : (state_after Once one_file (replicate 5 whole)).sender ≡ SenderEnd.Finished
single_eot-ends = refl

single_eot-needs : rounds_needed Once one_file ≡ 5
single_eot-needs = refl

single_eot-left : rounds_remaining Once (frames_of one_file) start ≡ 5
single_eot-left = refl

-- the reply to the EOT is lost, so it comes once more, and is no second file
abbrev single_lost : List Turn
single_lost = replicate 2 whole ++ back_comes [] ∷ []

single_lost-trace :
    trace_of Once one_empty_file single_lost ≡
    says Nothing Start ∷ says (FrameAt 0) AckStart ∷ says (FrameAt 1) AckStart ∷ []
single_lost-trace = refl

single_lost-committed :
    committed one_empty_file (state_after Once one_empty_file single_lost) ≡ one_empty_file
single_lost-committed = refl

single_lost-more :
    trace_of Once one_empty_file (single_lost ++ replicate 2 whole) ≡
    trace_of Once one_empty_file single_lost ++ says (FrameAt 1) AckStart ∷ says (FrameAt 2) Ack ∷
    []
single_lost-more = refl

-- damage behind the first EOT: C is asked for, the sender has nothing of it, and the next EOT
-- commits
damage_behind_eot-trace :
    trace_of Twice one_empty_file (replicate 3 whole ++ there_lost ∷ whole ∷ whole ∷ [])
    ≡ says Nothing Start ∷ says (FrameAt 0) AckStart ∷ says (FrameAt 1) Nak ∷
    says (FrameAt 1) Start ∷ says (FrameAt 1) AckStart ∷ says (FrameAt 2) Ack ∷ []
damage_behind_eot-trace = refl

-- a damaged data block, behind the block 0 and behind a data block
damaged_block-trace :
    trace_of Twice one_file (replicate 2 whole ++ there_lost ∷ whole ∷ there_lost ∷ [])
    ≡ says Nothing Start ∷ says (FrameAt 0) AckStart ∷ says (FrameAt 1) Start ∷
    says (FrameAt 1) Ack ∷ says (FrameAt 2) Nak ∷ []
damaged_block-trace = refl

-- eight lost turns do not end a batch
eight_lost-ends :
    (state_after Twice empty_batch (replicate 8 lost ++ replicate 2 whole)).sender ≡
    SenderEnd.Finished
eight_lost-ends = refl

-- after nine the receiver gives up at the tenth, and cancels the sender
nine_lost-trace :
    trace_of Twice empty_batch (replicate 9 lost ++ whole ∷ []) ≡
    replicate 9 (says Nothing Start) ++ says Nothing Cancel ∷ []
nine_lost-trace = refl

nine_lost-ends :
    state_after Twice empty_batch (replicate 9 lost ++ whole ∷ []) ≡
    record start {
      sender_retries = 9;
      receiver_retries = 10;
      sender = SenderEnd.Cancelled;
      receiver = ReceiverEnd.TooManyErrors;
    }
nine_lost-ends = refl

-- after ten both have given up, and the sender's CAN CAN goes once
ten_lost-trace :
    trace_of Twice empty_batch (replicate 10 lost ++ replicate 2 whole) ≡
    replicate 9 (says Nothing Start) ++ says Nothing Cancel ∷ says CanCan Silence ∷
    says Nothing Silence ∷ []
ten_lost-trace = refl

-- ten lost replies: the sender gives up, and cancels the receiver
abbrev ten_lost_replies : List Turn
ten_lost_replies = replicate 2 whole ++ replicate 10 (back_comes []) ++ whole ∷ []

ten_lost_replies-trace :
    trace_of Twice one_file ten_lost_replies ≡
    says Nothing Start ∷ says (FrameAt 0) AckStart ∷ replicate 10 (says (FrameAt 1) Ack) ++
    says CanCan Silence ∷ []
ten_lost_replies-trace = refl

ten_lost_replies-ends :
    state_after Twice one_file ten_lost_replies ≡
    record start {
      acknowledged = 1;
      taken = 2;
      sent = true;
      sender_retries = 10;
      receiver_retries = 9;
      sender = SenderEnd.NoReply;
      receiver = ReceiverEnd.Cancelled;
    }
ten_lost_replies-ends = refl

-- bad runs of four, with a whole turn behind each: the batch comes across in 30 turns
abbrev four_lost : List Turn
four_lost = replicate 4 lost ++ whole ∷ []

abbrev bursts_of_four : List Turn
bursts_of_four = four_lost ++ four_lost ++ four_lost ++ four_lost ++ four_lost ++ four_lost

bursts_of_four-sender : (state_after Twice one_file bursts_of_four).sender ≡ SenderEnd.Finished
bursts_of_four-sender = refl

bursts_of_four-receiver :
    (state_after Twice one_file bursts_of_four).receiver ≡ ReceiverEnd.Finished
bursts_of_four-receiver = refl

bursts_of_four-turns : length bursts_of_four ≡ 30
bursts_of_four-turns = refl

-- of five: the receiver gives up at the tenth delivery without progress, of which one came whole
abbrev five_is_too_many : List Turn
five_is_too_many = replicate 5 lost ++ whole ∷ replicate 5 lost ++ whole ∷ []

five_is_too_many-trace :
    trace_of Twice one_file five_is_too_many
    ≡ replicate 5 (says Nothing Start) ++ says Nothing Start ∷
    replicate 3 (says (FrameAt 0) Start) ++ says (FrameAt 0) Cancel ∷
    replicate 2 (says (FrameAt 0) Silence)
five_is_too_many-trace = refl

five_is_too_many-run : longest_bad_run 0 five_is_too_many ≡ 5
five_is_too_many-run = refl

five_is_too_many-ends :
    state_after Twice one_file five_is_too_many ≡
    record start {
      sent = true;
      sender_retries = 6;
      receiver_retries = 10;
      receiver = ReceiverEnd.TooManyErrors;
    }
five_is_too_many-ends = refl

-- the source fails at the first data block: CAN CAN goes once, and the receiver is cancelled
source_fails-trace :
    trace_of Twice one_file (whole ∷ record whole { source_failed = true } ∷ replicate 2 whole)
    ≡ says Nothing Start ∷ says (FrameAt 0) AckStart ∷ says CanCan Silence ∷ says Nothing Silence ∷
    []
source_fails-trace = refl

source_fails-ends :
    state_after Twice one_file (whole ∷ record whole { source_failed = true } ∷ replicate 2 whole) ≡
    record start {
      acknowledged = 1;
      taken = 1;
      sent = true;
      sender = SenderEnd.SourceFailed;
      receiver = ReceiverEnd.Cancelled;
    }
source_fails-ends = refl

-- the sink fails at the commit: nothing is committed, and the sender is cancelled
sink_fails-trace :
    trace_of Twice one_file (replicate 4 whole ++ record whole { sink_failed = true } ∷ whole ∷ [])
    ≡ says Nothing Start ∷ says (FrameAt 0) AckStart ∷ says (FrameAt 1) Ack ∷ says (FrameAt 2) Nak ∷
    says (FrameAt 2) Cancel ∷ says Nothing Silence ∷ []
sink_fails-trace = refl

sink_fails-committed :
    committed one_file
    (state_after Twice one_file (replicate 4 whole ++ record whole { sink_failed = true } ∷
    whole ∷ [])) ≡ []
sink_fails-committed = refl

sink_fails-sender :
    (state_after Twice one_file (replicate 4 whole ++ record whole { sink_failed = true } ∷ whole ∷
    [])).sender ≡ SenderEnd.Cancelled
sink_fails-sender = refl

-- one CAN of the CAN CAN comes back: it cancels nothing
one_can-sender :
    (state_after Twice one_file (whole ∷
    record (back_comes (control.Can ∷ [])) { sink_failed = true } ∷ [])).sender ≡
    SenderEnd.Running
one_can-sender = refl

two_cans-sender :
    (state_after Twice one_file (whole ∷ record whole { sink_failed = true } ∷ [])).sender ≡
    SenderEnd.Cancelled
two_cans-sender = refl
