-- A session on which a file is lost: the sender goes on a millisecond too soon, and reports a file
-- that the receiver has not committed. Moments are thousandths of a second.
use Rattle.std.specs.Prelude.{ℕ, List, [], ◌∷◌, replicate, Result, Ok}
use Rattle.ym_frame.specs.Frame.{IsFrame}
use Rattle.ym_frame.specs.declared.control.Reply.TheVariants.{Start, Ack, AckStart, Nak}
use Rattle.ym_frame.specs.declared.frame.Item.{Item}
use Rattle.ym_frame.specs.declared.frame.Item.TheVariants as item
use Rattle.ym_header.specs.declared.fault.HeaderFault.{HeaderFault}
use Rattle.ym_header.specs.declared.reading.Zero.{Zero}
use Rattle.ym_header.specs.declared.reading.Zero.TheVariants.{File}
use Rattle.ym_header.specs.declared.stamp.Stamp.TheVariants.{Nothing}
use Rattle.ym_core.specs.Scan.{controls_in}
use Rattle.ym_core.specs.Receiver.{Receiver}
use Rattle.ym_core.specs.Receiver as receiver
use Rattle.ym_core.specs.Standing as sender
use Rattle.ym_core.specs.declared.delivery.Heard.{Heard}
use Rattle.ym_core.specs.declared.delivery.Heard.TheVariants as heard
use Rattle.ym_core.specs.declared.position.Mode.{Mode}
use Rattle.ym_core.specs.declared.position.Mode.TheVariants.{Waiting, Sent}
use Rattle.ym_core.specs.declared.position.Position.{Position}
use Rattle.ym_core.specs.declared.position.Position.TheVariants.{Header, Block, Eot, End}
use Rattle.ym_core.specs.declared.standing.Standing.{Standing}
use Rattle.ym_pair.specs.Logs.{Answered, Spoke}
use Rattle.ym_pair.specs.PairingExamples.{eot, ending}
use Rattle.ym_delay.specs.TimedExamples.{ack, ack_start, clear_line, replied, said}
use Rattle.ym_delay.specs.TimedLine.{AnsweredAt, SpokeAt, Times, WroteAt}

-- ---- A batch of one file, of 128 bytes

abbrev pub zero_of : List ℕ → Item
zero_of body = item.Block (record { number = 0; body = body })

abbrev pub data_block : Item
data_block = item.Block (record { number = 1; body = replicate 128 0x61 })

-- the frames of the file's block 0, of its data block, and of the end block
pub record SmallBatch : Type 0 where
  pub body : List ℕ  -- of block 0; it stands for the name and the length
  pub name : List ℕ
  pub zero : List ℕ
  pub one : List ℕ
  pub end : List ℕ
  pub zero_is : IsFrame (zero_of body) zero
  pub one_is : IsFrame data_block one

abbrev pub meaning : SmallBatch → Result Zero HeaderFault
meaning batch = Ok (File (record { name = batch.name; length = 128; stamp = Nothing }))

-- ---- What the tables make of what is heard

-- what the sender has to say
abbrev pub says_at : SmallBatch → Mode → Position → List ℕ
says_at batch Waiting position = []
says_at batch Sent (Header file) = batch.zero
says_at batch Sent (Block file k) = batch.one
says_at batch Sent (Eot file) = eot
says_at batch Sent End = batch.end

-- the batch has one data block
abbrev pub sender_behind : Standing → List ℕ → Standing
sender_behind s came = (sender.hears (1 ∷ []) s (controls_in came)).standing

abbrev pub sender_after : Standing → List (List ℕ) → Standing
sender_after s [] = s
sender_after s (came ∷ deliveries) = sender_after (sender_behind s came) deliveries

abbrev pub sender_says : SmallBatch → Standing → List (List ℕ) → List Spoke
sender_says batch s [] = []
sender_says batch s (came ∷ deliveries) =
    record { wrote = says_at batch s.mode s.position; came = came }
    ∷ sender_says batch (sender_behind s came) deliveries

abbrev pub step_of : SmallBatch → Receiver → Heard → receiver.Step
step_of batch r h = receiver.hears r (meaning batch) h

abbrev pub receiver_after : SmallBatch → Receiver → List Heard → Receiver
receiver_after batch r [] = r
receiver_after batch r (h ∷ deliveries) =
    receiver_after batch (step_of batch r h).receiver deliveries

abbrev pub receiver_says : SmallBatch → Receiver → List Heard → List Answered
receiver_says batch r [] = []
receiver_says batch r (h ∷ deliveries) =
    record { heard = h; wrote = (step_of batch r h).reply }
    ∷ receiver_says batch (step_of batch r h).receiver deliveries

-- ---- The session

-- A receiver acts within 0.1 seconds and nothing is older than 1.45, so that 3 seconds have to
-- pass behind the last copy of a frame. The sender goes on behind 2.999.
abbrev pub hasty_sender : SmallBatch → List SpokeAt
hasty_sender batch =
    said [] 0 (0x43 ∷ []) 4450
    ∷ said batch.zero 4550 (0x43 ∷ []) 7440
    ∷ said batch.zero 7440 ack_start 7450
    ∷ said batch.one 10439 ack_start 10440
    ∷ said eot 10440 ack 13000
    ∷ said [] 13000 (0x15 ∷ []) 13300 ∷ []

-- then it waits for a C
abbrev pub hasty_last : WroteAt
hasty_last = record { bytes = []; at = 13400 }

abbrev pub hasty_receiver : SmallBatch → List AnsweredAt
hasty_receiver batch =
    replied 0 3000 heard.Bad 3000 Start
    ∷ replied 3000 6000 heard.Bad 6000 Start
    ∷ replied 6000 6000 (heard.Item (zero_of batch.body)) 6000 AckStart
    ∷ replied 6000 8890 (heard.Item (zero_of batch.body)) 8990 AckStart
    ∷ replied 8990 11889 (heard.Item data_block) 11889 Ack
    ∷ replied 11889 11890 ending 11890 Nak ∷ []

-- what came to the sender, and what the receiver heard
abbrev pub hasty_came : List (List ℕ)
hasty_came =
    (0x43 ∷ []) ∷ (0x43 ∷ []) ∷ ack_start ∷ ack_start ∷ ack ∷ (0x15 ∷ []) ∷ []

abbrev pub hasty_heard : SmallBatch → List Heard
hasty_heard batch =
    heard.Bad ∷ heard.Bad ∷ heard.Item (zero_of batch.body) ∷ heard.Item (zero_of batch.body)
    ∷ heard.Item data_block ∷ ending ∷ []

-- a line whose receiver acts a millisecond sooner
abbrev pub hasty_line : Times
hasty_line = record clear_line { receiver_acts = 99 }
