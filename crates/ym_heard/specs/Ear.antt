-- What of that which comes to a sender is no reply (this profile).
--
-- No reply begins as a block does: 01 or 02, a number, and its complement. Where a block comes, it
-- is the echo of one that was written. As long as its bytes are those that were written last, what
-- stands behind the whole of it may be a reply; else nothing is heard until the line was quiet.
use Rattle.std.specs.Prelude.{ℕ, ◌+◌, ◌-◌, nat_eq, nat_lt, nat_le, ◌&&◌, ◌||◌, not, Bool, true}
use Rattle.std.specs.Prelude.{false, List, length, slice_index, if◌then◌else◌}
use Rattle.ym_heard.specs.Times.{later}
use Rattle.ym_heard.specs.declared.ear.Ear.{Ear}
use Rattle.ym_heard.specs.declared.ear.Echo.{Echo}
use Rattle.ym_heard.specs.declared.ear.Echo.TheVariants.{Open, Head, Number, Goes, Broken}
use Rattle.ym_heard.specs.declared.ear.Listened.{Listened}
use Rattle.ym_heard.specs.declared.limits.TheConstants.{OTHERS, WITHIN}

abbrev pub new_ear : Ear
new_ear = record { echo = Open; others = 0; at = 0 }

abbrev pub wrote : Ear → Ear
wrote e = record e { others = 0 }

abbrev pub is_first : ℕ → Bool
is_first byte = nat_eq byte 1 || nat_eq byte 2

-- NAK, C and CAN
abbrev pub is_other_control : ℕ → Bool
is_other_control byte = nat_eq byte 0x15 || (nat_eq byte 0x43 || nat_eq byte 0x18)

abbrev pub rested : ℕ → Ear → Ear
rested now e =
    if nat_le (later e.at WITHIN) now
    then record { echo = Open; others = 0; at = now }
    else record e { at = now }

abbrev pub deaf : Echo → Ear → Listened
deaf echo e = record { ear = record e { echo = echo }; is_heard = false }

abbrev pub other : Echo → Ear → Listened
other echo e = record {
  ear = record e { echo = echo; others = if nat_lt e.others OTHERS then e.others + 1 else OTHERS };
  is_heard = false;
}

abbrev pub hears : Bool → Ear → Listened
hears is_heard e = record { ear = record e { echo = Open }; is_heard = is_heard }

-- alone it may be what the line left of a reply; the byte EOT is the echo of one that was written
abbrev pub stray : ℕ → Ear → Listened
stray byte e = record {
  ear = (other Open e).ear;
  is_heard = nat_eq e.others 0 && not (nat_eq byte 4);
}

-- outside of an echo an ACK is heard, but for one behind noise; NAK, C and CAN are
abbrev pub outside : ℕ → Ear → Listened
outside byte e =
    if is_first byte then other (Head byte) e
    else (if nat_eq byte 0x06 then hears (nat_lt e.others OTHERS) e
    else (if is_other_control byte then hears true e else stray byte e))

abbrev pub is_ours : ℕ → ℕ → List ℕ → Bool
is_ours first number frame =
    nat_lt 3 (length frame) && (nat_eq (slice_index frame 0) first
    && nat_eq (slice_index frame 1) number)

abbrev pub numbered : ℕ → ℕ → ℕ → List ℕ → Ear → Listened
numbered first number byte frame e =
    if nat_eq byte (255 - number) then deaf (if is_ours first number frame then Goes 3
    else Broken) e
    else (if is_first number then deaf (Number number byte) e else outside byte e)

abbrev pub goes : ℕ → ℕ → List ℕ → Ear → Listened
goes place byte frame e =
    if nat_le (length frame) place || not (nat_eq (slice_index frame place) byte) then deaf Broken e
    else (if nat_eq (place + 1) (length frame) then deaf Open e else deaf (Goes (place + 1)) e)

abbrev pub by_echo : Echo → ℕ → List ℕ → Ear → Listened
by_echo Open byte frame e = outside byte e
by_echo (Head first) byte frame e = deaf (Number first byte) e
by_echo (Number first number) byte frame e = numbered first number byte frame e
by_echo (Goes place) byte frame e = goes place byte frame e
by_echo Broken byte frame e = deaf Broken e

-- one byte that came, where this frame was written last
abbrev pub listen : ℕ → List ℕ → ℕ → Ear → Listened
listen byte frame now e = by_echo (rested now e).echo byte frame (rested now e)
