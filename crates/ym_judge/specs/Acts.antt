-- What an end does in its turn: the frame of a position, the item of what a sender wrote, and the
-- answers of which a receiver's bytes are made.
use Rattle.std.specs.Prelude.{ℕ, ◌%◌, ◌==◌, Bool, true, false, List, [], ◌∷◌, Option, Some, None, if◌then◌else◌, slice_index}
use Rattle.std.specs.List.{list_all}
use Rattle.ym_frame.specs.declared.control.Reply.{Reply}
use Rattle.ym_frame.specs.declared.control.Reply.TheVariants as reply
use Rattle.ym_frame.specs.declared.frame.Item.TheVariants as item
use Rattle.ym_core.specs.declared.delivery.Heard.{Heard}
use Rattle.ym_core.specs.declared.delivery.Heard.TheVariants as heard
use Rattle.ym_core.specs.declared.position.Position.{Position}
use Rattle.ym_core.specs.declared.position.Position.TheVariants as position
use Rattle.ym_core.specs.declared.position.Mode.{Mode}
use Rattle.ym_core.specs.declared.position.Mode.TheVariants.{Waiting, Sent}
use Rattle.ym_core.specs.declared.standing.Standing.{Standing}
use Rattle.ym_core.specs.declared.state.SendState.{SendState}
use Rattle.ym_core.specs.declared.state.SendState.TheVariants as state
use Rattle.ym_judge.specs.declared.act.Act.{Act}
use Rattle.ym_judge.specs.declared.act.Act.TheVariants.{Nothing, Header, Block, Eot, End, Cancel, Noise, Answer, Answers}

-- the frame of a position
abbrev pub act_at : Position → Act
act_at (position.Header file) = Header
act_at (position.Block file number) = Block (number % 256)
act_at (position.Eot file) = Eot
act_at position.End = End

-- a running sender sends the frame that is out, and holds back one that is not asked for
abbrev pub act_in : Mode → Position → Act
act_in Sent at = act_at at
act_in Waiting at = Nothing

-- one that gave up says so once
abbrev pub parting : Bool → Act
parting true = Cancel
parting false = Nothing

abbrev pub act_by : SendState → Standing → Act
act_by state.Running s = act_in s.mode s.position
act_by state.NoReply s = parting s.cancel_pending
act_by state.SourceFailed s = parting s.cancel_pending
act_by state.Finished s = Nothing
act_by state.Cancelled s = Nothing

abbrev pub act_of : Standing → Act
act_of s = act_by s.state s

-- ---- What a sender wrote

-- a block 0 with an empty name ends the batch
abbrev pub act_zero : List ℕ → Act
act_zero body = if slice_index body 0 == 0 then End else Header

-- in the middle of a file the number 0 is that of a data block, as of each 256th one
abbrev pub act_block : Bool → ℕ → List ℕ → Act
act_block true number body = Block number
act_block false number body = if number == 0 then act_zero body else Block number

abbrev pub act_bad : List ℕ → Act
act_bad [] = Nothing
act_bad (byte ∷ more) = Noise

abbrev pub act_heard : Bool → List ℕ → Heard → Act
act_heard in_file bytes (heard.Item (item.Block block)) = act_block in_file block.number block.body
act_heard in_file bytes (heard.Item item.Eot) = Eot
act_heard in_file bytes (heard.Item item.Cancel) = Cancel
act_heard in_file bytes heard.Bad = act_bad bytes

-- ---- What a receiver wrote

-- ACK and then C is one answer where C follows at once
abbrev pub ack_then : List ℕ → Reply × List ℕ
ack_then [] = (reply.Ack, [])
ack_then (byte ∷ more) =
    if byte == 0x43 then (reply.AckStart, more) else (reply.Ack, byte ∷ more)

-- one CAN is no answer
abbrev pub can_then : List ℕ → Option (Reply × List ℕ)
can_then [] = None
can_then (byte ∷ more) = if byte == 0x18 then Some (reply.Cancel, more) else None

abbrev pub prefix_answer : List ℕ → Option (Reply × List ℕ)
prefix_answer [] = None
prefix_answer (byte ∷ more) =
    if byte == 0x06 then Some (ack_then more) else
    if byte == 0x18 then can_then more else
    if byte == 0x15 then Some (reply.Nak, more) else
    if byte == 0x43 then Some (reply.Start, more) else
    None

abbrev pub is_can : ℕ → Bool
is_can byte = byte == 0x18

abbrev pub are_cans : List ℕ → Bool
are_cans bytes = list_all is_can bytes

-- the second answer is the last one, and who cancels by it may say more CAN
abbrev pub is_last : Reply → List ℕ → Bool
is_last second [] = true
is_last reply.Cancel (byte ∷ more) = are_cans (byte ∷ more)
is_last second (byte ∷ more) = false

abbrev pub second_in : Reply → Option (Reply × List ℕ) → Act
second_in first None = Noise
second_in first (Some (second, more)) = if is_last second more then Answers first second else Noise

abbrev pub first_in : Option (Reply × List ℕ) → Act
first_in None = Noise
first_in (Some (first, [])) = Answer first
first_in (Some (first, byte ∷ more)) = second_in first (prefix_answer (byte ∷ more))

abbrev pub answer_in : List ℕ → Act
answer_in [] = Nothing
answer_in (byte ∷ more) = first_in (prefix_answer (byte ∷ more))
