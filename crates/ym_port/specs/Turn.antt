-- Which block 0 may come next to a receiver, and one that comes in place of a repeat (this
-- profile).
--
-- Block 0 is answered by ACK C, which opens its file. A sender goes on to the block 0 of another
-- file only where it takes the EOT of this one for acknowledged. So until a data block has come, no
-- block 0 can come but the same once more, also behind an EOT that was refused. One with other
-- bytes shows that a reply was taken for another one's: the ends are out of step.
use Rattle.std.specs.Prelude.{ℕ, nat_eq, nat_lt, ◌&&◌, not, Bool, true, false, List, length}
use Rattle.std.specs.Prelude.{take, slice_index, slice_set, is_ok, Option, Some, None, Result, Ok, Err}
use Rattle.std.specs.Prelude.{if◌then◌else◌}
use Rattle.ym_frame.specs.Frame.{verdict_of}
use Rattle.ym_frame.specs.declared.frame.Broken.{Broken}
use Rattle.ym_frame.specs.declared.frame.Item.{Item}
use Rattle.ym_frame.specs.declared.frame.Item.TheVariants as item
use Rattle.ym_link.specs.declared.port.TheConstants.{DELIVERY_LIMIT}
use Rattle.ym_heard.specs.Cancel.{opening_of, is_same}
use Rattle.ym_heard.specs.declared.cancel.Opening.{Opening}
use Rattle.ym_port.specs.declared.turn.Next.{Next}
use Rattle.ym_port.specs.declared.turn.Next.TheVariants.{Any, Repeat, Data}
use Rattle.ym_port.specs.declared.turn.Turn.{Turn}

abbrev pub new_turn : Turn
new_turn = record { next = Any; zero = None; is_over = false }

-- ---- A delivery

-- how many bytes the block 0 has that stands at the front, if one does
abbrev pub length_by : Result (Item × ℕ) Broken → Option ℕ
length_by (Ok found) = by found.0
  where
    by : Item → Option ℕ
    by (item.Block block) = if nat_eq block.number 0 then Some found.1 else None
    by item.Eot = None
    by item.Cancel = None
length_by (Err broken) = None

abbrev pub zero_length : List ℕ → Option ℕ
zero_length bytes = length_by (verdict_of bytes)

-- what tells that block 0 from another one
abbrev pub opening_in : List ℕ → Option ℕ → Option Opening
opening_in bytes (Some size) = Some (opening_of (take size bytes))
opening_in bytes None = None

abbrev pub zero_of : List ℕ → Option Opening
zero_of bytes = opening_in bytes (zero_length bytes)

-- that of a block 0 as it stands here
abbrev pub whole : List ℕ → Option Opening
whole zero = Some (opening_of zero)

-- only a repeat can come, and this is none
abbrev pub is_other : Option Opening → Next → Bool
is_other None next = false
is_other (Some zero) (Repeat taken) = not (is_same taken zero)
is_other (Some zero) Any = false
is_other (Some zero) Data = false

-- It is handed on as a block that can be no repeat, and no data block either: that of number 2,
-- behind which the receiver's table says that the ends are out of step, and cancels.
abbrev pub out_of_turn : List ℕ → List ℕ
out_of_turn bytes = slice_set (slice_set bytes 1 2) 2 253

abbrev pub given : List ℕ → Turn → List ℕ
given bytes t = if is_other (zero_of bytes) t.next then out_of_turn bytes else bytes

-- no frame ends the delivery, nor its length: the line was quiet behind it
abbrev pub is_over : List ℕ → Bool
is_over bytes = nat_lt (length bytes) DELIVERY_LIMIT && not (is_ok (verdict_of bytes))

abbrev pub took : List ℕ → Turn → Turn
took bytes t = record { next = t.next; zero = zero_of bytes; is_over = is_over bytes }

-- ---- A reply

abbrev pub is_ack_start : List ℕ → Bool
is_ack_start reply =
    nat_eq (length reply) 2 && (nat_eq (slice_index reply 0) 0x06
    && nat_eq (slice_index reply 1) 0x43)

abbrev pub is_ack : List ℕ → Bool
is_ack reply = nat_eq (length reply) 1 && nat_eq (slice_index reply 0) 0x06

-- ACK C behind block 0 opens its file, and behind anything else has stored one
abbrev pub opened : Option Opening → Next
opened (Some zero) = Repeat zero
opened None = Any

-- ACK takes a data block; NAK and C change nothing
abbrev pub next_behind : List ℕ → Turn → Next
next_behind reply t =
    if is_ack_start reply then opened t.zero else (if is_ack reply then Data else t.next)

abbrev pub replied : List ℕ → Turn → Turn
replied reply t = record { next = next_behind reply t; zero = None; is_over = t.is_over }

-- ---- Which deliveries are looked at

abbrev pub awaits_zero : Next → Bool
awaits_zero Any = true
awaits_zero (Repeat taken) = true
awaits_zero Data = false
