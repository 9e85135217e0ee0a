-- CAN CAN among what came, and block 0 that comes in place of a repeat (this profile).
use Rattle.std.specs.Prelude.{ℕ, ◌-◌, nat_eq, ◌&&◌, ◌||◌, Bool, true, false, List, [], ◌∷◌, length}
use Rattle.std.specs.Prelude.{slice_index, if◌then◌else◌}
use Rattle.ym_heard.specs.declared.cancel.Cans.{Cans}
use Rattle.ym_heard.specs.declared.cancel.Cans.TheVariants.{Zero, One, Two}
use Rattle.ym_heard.specs.declared.cancel.Opening.{Opening}

-- ACK, NAK and C stand between two CAN; other bytes do not
abbrev pub parts : ℕ → Bool
parts byte = nat_eq byte 0x06 || (nat_eq byte 0x15 || nat_eq byte 0x43)

abbrev pub after : ℕ → Cans → Cans
after byte Two = Two
after byte One = if nat_eq byte 0x18 then Two else (if parts byte then Zero else One)
after byte Zero = if nat_eq byte 0x18 then One else Zero

abbrev pub after_all : List ℕ → Cans → Cans
after_all [] cans = cans
after_all (byte ∷ bytes) cans = after_all bytes (after byte cans)

abbrev pub is_two : Cans → Bool
is_two Two = true
is_two One = false
is_two Zero = false

abbrev pub cancels : List ℕ → Bool
cancels bytes = is_two (after_all bytes Zero)

-- the length and the check of a frame
abbrev pub opening_of : List ℕ → Opening
opening_of frame = record {
  length = length frame;
  high = slice_index frame (length frame - 2);
  low = slice_index frame (length frame - 1);
}

abbrev pub is_same : Opening → Opening → Bool
is_same a b = nat_eq a.length b.length && nat_eq a.high b.high && nat_eq a.low b.low

-- where only a repeat can come, another block 0 shows that the ends are out of step
abbrev pub is_repeated_by : List ℕ → Opening → Bool
is_repeated_by frame taken = is_same taken (opening_of frame)
