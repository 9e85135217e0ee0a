-- Calls written out: a lost reply, a receiver that asks before its peer is there, a peer that skips
-- a block, and senders that wait in vain.
use Rattle.std.specs.Prelude.{ℕ, List, [], ◌∷◌, ◌++◌, codes, replicate}
use Rattle.ym_frame.specs.Frame.{IsFrame}
use Rattle.ym_frame.specs.declared.control.Reply.{Reply}
use Rattle.ym_frame.specs.declared.control.Reply.TheVariants.{Silence, Start, Ack, AckStart, Nak}
use Rattle.ym_frame.specs.declared.frame.Item.{Item}
use Rattle.ym_frame.specs.declared.frame.Item.TheVariants as item
use Rattle.ym_header.specs.declared.stamp.Stamp.TheVariants as stamp
use Rattle.ym_core.specs.declared.delivery.Heard.{Heard}
use Rattle.ym_core.specs.declared.delivery.Heard.TheVariants as heard
use Rattle.ym_line.specs.declared.delivery.Delivery.{Delivery}
use Rattle.ym_line.specs.declared.delivery.Delivery.TheVariants.{Whole, Lost}
use Rattle.ym_line.specs.declared.delivery.Round.{Round}
use Rattle.ym_pair.specs.AnyPeer.{FileHeard, block}
use Rattle.ym_pair.specs.Logs.{Spoke, Answered}

-- ---- A receiver

-- a file of five bytes in a block of eight; real blocks have 128 or 1024
abbrev pub hello : FileHeard
hello = record {
  header = record { name = codes "a"; length = 5; stamp = stamp.Nothing };
  zero = codes "a";
  bodies = codes "hello..." ∷ [];
}

abbrev pub opening : Heard
opening = heard.Item (block 0 (codes "a"))

abbrev pub data_block : ℕ → Heard
data_block number = heard.Item (block number (codes "hello..."))

abbrev pub ending : Heard
ending = heard.Item item.Eot

-- the ACK of block 1 was lost: it came again
abbrev pub block_again : List Heard
block_again = opening ∷ data_block 1 ∷ heard.Bad ∷ data_block 1 ∷ ending ∷ ending ∷ []

-- the peer goes on to block 2
abbrev pub block_skipped : List Heard
block_skipped = opening ∷ data_block 2 ∷ ending ∷ ending ∷ []

-- the file as it would be with the block put in twice
abbrev pub hello_twice : FileHeard
hello_twice = record hello { bodies = codes "hello..." ∷ codes "hello..." ∷ [] }

-- ---- A sender

abbrev pub eot : List ℕ
eot = 0x04 ∷ []

abbrev pub spoke : List ℕ → List ℕ → Spoke
spoke wrote came = record { wrote = wrote; came = came }

-- nothing came behind the first EOT, and an ACK behind the second
abbrev pub eot_again : List Spoke
eot_again = spoke eot [] ∷ spoke eot (0x06 ∷ 0x43 ∷ []) ∷ []

-- a C is no ACK
abbrev pub eot_and_start : List Spoke
eot_and_start = spoke eot (0x43 ∷ []) ∷ []

-- the ACK came behind another frame
abbrev pub another_frame : List Spoke
another_frame = spoke eot [] ∷ spoke (0x18 ∷ 0x18 ∷ []) (0x06 ∷ []) ∷ []

-- ---- Two engines

abbrev pub answered : Heard → Reply → Answered
answered h reply = record { heard = h; wrote = reply }

abbrev pub round : Delivery → Delivery → Round
round there back = record { there = there; back = back }

-- the reply to an EOT is lost, and the receiver asks again while the sender still waits
abbrev pub asked_again : List Answered
asked_again = answered ending AckStart ∷ answered heard.Bad Start ∷ []

abbrev pub asked_again_rounds : List Round
asked_again_rounds = round Whole Lost ∷ round Lost Whole ∷ []

-- the receiver asks three times before its peer is there, which then reads all that waits in the
-- line
abbrev pub asked_early : List Answered
asked_early = answered heard.Bad Start ∷ answered heard.Bad Start ∷ answered heard.Bad Start ∷ []

abbrev pub asked_early_rounds : List Round
asked_early_rounds = round Whole Lost ∷ round Whole Lost ∷ round Whole Whole ∷ []

-- a sender that gave up has left CAN CAN
abbrev pub called_off : List Answered
called_off = answered (heard.Item item.Cancel) Silence ∷ []

-- an ACK comes to the sender, and the receiver could write nothing
abbrev pub unwritten : List Answered
unwritten = answered heard.Bad Silence ∷ []

-- ---- Whole sessions

-- an item, and the bytes of its frame
pub record Framed : Type 0 where
  pub item : Item
  pub bytes : List ℕ
  pub is : IsFrame item bytes

-- the blocks of a batch of one file: its block 0, three data blocks, and the end block
pub record Blocks : Type 0 where
  pub zero : Framed
  pub one : Framed
  pub two : Framed
  pub three : Framed
  pub end : Framed

-- up to block 1, where nothing goes wrong
abbrev pub spoke_first : Blocks → List Spoke
spoke_first blocks =
    spoke [] (0x43 ∷ []) ∷ spoke blocks.zero.bytes (0x06 ∷ 0x43 ∷ [])
    ∷ spoke blocks.one.bytes (0x06 ∷ []) ∷ []

-- and from block 2 on
abbrev pub spoke_then : Blocks → List Spoke
spoke_then blocks =
    spoke blocks.two.bytes (0x06 ∷ []) ∷ spoke blocks.three.bytes (0x06 ∷ [])
    ∷ spoke eot (0x15 ∷ []) ∷ spoke eot (0x06 ∷ 0x43 ∷ [])
    ∷ spoke blocks.end.bytes (0x06 ∷ []) ∷ []

-- the receiver hears each of these once
abbrev pub answered_all : Blocks → List Answered
answered_all blocks =
    answered heard.Bad Start ∷ answered (heard.Item blocks.zero.item) AckStart
    ∷ answered (heard.Item blocks.one.item) Ack ∷ answered (heard.Item blocks.two.item) Ack
    ∷ answered (heard.Item blocks.three.item) Ack ∷ answered ending Nak
    ∷ answered ending AckStart ∷ answered (heard.Item blocks.end.item) Ack ∷ []

abbrev pub whole_round : Round
whole_round = round Whole Whole

abbrev pub vain_round : Round
vain_round = round Lost Lost

-- The receiver is started when the sender has waited once in vain.
abbrev pub started_late : Blocks → List Spoke
started_late blocks = spoke [] [] ∷ (spoke_first blocks ++ spoke_then blocks)

abbrev pub started_late_rounds : List Round
started_late_rounds = vain_round ∷ replicate 8 whole_round

-- The receiver stalls, and the sender writes block 2 once more. Both copies come in one read, of
-- which the receiver hears the first; the rest is dropped.
abbrev pub stalled : Blocks → List Spoke
stalled blocks = spoke_first blocks ++ spoke blocks.two.bytes [] ∷ spoke_then blocks

abbrev pub stalled_rounds : List Round
stalled_rounds = replicate 3 whole_round ++ vain_round ∷ replicate 5 whole_round
