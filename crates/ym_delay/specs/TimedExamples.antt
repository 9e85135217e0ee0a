-- Lines with moments written out, in thousandths of a second: a whole session, and one in which an
-- ask goes out just as block 0 comes.
use Rattle.std.specs.Prelude.{◌+◌, ◌*◌, ℕ, List, [], ◌∷◌}
use Rattle.ym_frame.specs.declared.control.Reply.{Reply}
use Rattle.ym_frame.specs.declared.control.Reply.TheVariants.{Start, Ack, AckStart, Nak}
use Rattle.ym_core.specs.declared.delivery.Heard.{Heard}
use Rattle.ym_core.specs.declared.delivery.Heard.TheVariants as heard
use Rattle.ym_pair.specs.PairingExamples.{Blocks, ending, eot}
use Rattle.ym_delay.specs.TimedLine.{AnsweredAt, SpokeAt, Times, WroteAt}

-- the waits of `send` and `receive`, and a line on which nothing is older than 1.4 seconds
abbrev pub slow_line : Times
slow_line = record {
  oldest = 1400;
  sender_acts = 100;
  receiver_acts = 100;
  sender_waits = 10000;
  receiver_waits = 3000;
}

-- the same waits, on lines on which nothing is older than this
abbrev pub line_of : ℕ → Times
line_of oldest = record slow_line { oldest = oldest }

-- a sender lets the line clear for so long as its rule has it where no ACK comes meanwhile
abbrev pub purge_line_of : ℕ → Times
purge_line_of oldest = record slow_line { oldest = oldest; sender_acts = 1350 }

abbrev pub said : List ℕ → ℕ → List ℕ → ℕ → SpokeAt
said wrote at came by = record { spoke = record { wrote = wrote; came = came }; at = at; by = by }

abbrev pub replied : ℕ → ℕ → Heard → ℕ → Reply → AnsweredAt
replied from by h at reply =
    record { answered = record { heard = h; wrote = reply }; from = from; by = by; at = at }

-- ---- A whole session of one file, on which all comes 1.4 seconds late

-- a turn takes three seconds: the sender writes in its middle, and the receiver replies at its end
abbrev pub turn_said : ℕ → List ℕ → List ℕ → SpokeAt
turn_said turn wrote came = said wrote (1500 + 3000 * turn) came (4400 + 3000 * turn)

abbrev pub turn_replied : ℕ → Heard → Reply → AnsweredAt
turn_replied turn h reply =
    replied (3000 * turn) (2900 + 3000 * turn) h (3000 + 3000 * turn) reply

abbrev pub ack : List ℕ
ack = 0x06 ∷ []

abbrev pub ack_start : List ℕ
ack_start = 0x06 ∷ 0x43 ∷ []

-- block 0, three data blocks, an EOT that is confirmed, and the end block
abbrev pub slow_sender : Blocks → List SpokeAt
slow_sender blocks =
    said [] 0 (0x43 ∷ []) 4400 ∷ turn_said 1 blocks.zero.bytes ack_start
    ∷ turn_said 2 blocks.one.bytes ack ∷ turn_said 3 blocks.two.bytes ack
    ∷ turn_said 4 blocks.three.bytes ack ∷ turn_said 5 eot (0x15 ∷ [])
    ∷ turn_said 6 eot ack_start ∷ turn_said 7 blocks.end.bytes ack ∷ []

abbrev pub slow_last : WroteAt
slow_last = record { bytes = []; at = 25500 }

abbrev pub slow_receiver : Blocks → List AnsweredAt
slow_receiver blocks =
    replied 0 3000 heard.Bad 3000 Start ∷ turn_replied 1 (heard.Item blocks.zero.item) AckStart
    ∷ turn_replied 2 (heard.Item blocks.one.item) Ack
    ∷ turn_replied 3 (heard.Item blocks.two.item) Ack
    ∷ turn_replied 4 (heard.Item blocks.three.item) Ack ∷ turn_replied 5 ending Nak
    ∷ turn_replied 6 ending AckStart ∷ turn_replied 7 (heard.Item blocks.end.item) Ack ∷ []

-- ---- A line on which deliveries do not pair up

-- Where something may be 1.45 seconds old, block 0 may come just as the receiver asks again. Then
-- block 0 goes out twice, and the reply to the second comes to the sender behind block 1.
abbrev pub ahead_sender : Blocks → List SpokeAt
ahead_sender blocks =
    said [] 0 (0x43 ∷ []) 4450
    ∷ said blocks.zero.bytes 4550 (0x43 ∷ []) 7440
    ∷ said blocks.zero.bytes 7440 (0x06 ∷ 0x43 ∷ []) 7450
    ∷ said blocks.one.bytes 7500 (0x06 ∷ 0x43 ∷ []) 9000 ∷ []

abbrev pub ahead_last : Blocks → WroteAt
ahead_last blocks = record { bytes = blocks.two.bytes; at = 9100 }

abbrev pub ahead_receiver : Blocks → List AnsweredAt
ahead_receiver blocks =
    replied 0 3000 heard.Bad 3000 Start ∷ replied 3000 6000 heard.Bad 6000 Start
    ∷ replied 6000 6000 (heard.Item blocks.zero.item) 6000 AckStart
    ∷ replied 6000 8000 (heard.Item blocks.zero.item) 8000 AckStart ∷ []

-- ---- The same line, where the sender lets it clear

-- it may write three seconds behind what it heard
abbrev pub clear_line : Times
clear_line = record slow_line { oldest = 1450; sender_acts = 3000 }

-- Block 1 goes out when the reply to the second block 0 has come, and was dropped. So it is with
-- block 2, since the receiver asked meanwhile.
abbrev pub clear_sender : Blocks → List SpokeAt
clear_sender blocks =
    said [] 0 (0x43 ∷ []) 4450
    ∷ said blocks.zero.bytes 4550 (0x43 ∷ []) 7440
    ∷ said blocks.zero.bytes 7440 ack_start 7450
    ∷ said blocks.one.bytes 10440 (0x15 ∷ []) 12450
    ∷ said blocks.one.bytes 12450 ack 13000 ∷ []

abbrev pub clear_last : Blocks → WroteAt
clear_last blocks = record { bytes = blocks.two.bytes; at = 15450 }

abbrev pub clear_receiver : Blocks → List AnsweredAt
clear_receiver blocks =
    replied 0 3000 heard.Bad 3000 Start ∷ replied 3000 6000 heard.Bad 6000 Start
    ∷ replied 6000 6000 (heard.Item blocks.zero.item) 6000 AckStart
    ∷ replied 6000 8000 (heard.Item blocks.zero.item) 8000 AckStart
    ∷ replied 8000 11000 heard.Bad 11000 Nak
    ∷ replied 11000 11890 (heard.Item blocks.one.item) 11890 Ack
    ∷ replied 11890 13900 (heard.Item blocks.one.item) 13900 Ack ∷ []
