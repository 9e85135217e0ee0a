-- A read of the program's port that finds nothing, and a line that it lets clear, by the port's own
-- clock.
use Rattle.std.specs.Prelude.{◌≡◌, ◌+◌, ◌≤◌, ◌⊎◌, ℕ, true, List, length}
use Rattle.ym_link.specs.declared.port.Wait.TheVariants as asked
use Rattle.ym_port.specs.declared.line.TheConstants.{MOST_READS}
use Rattle.ym_port.specs.TimedPort.{Read, looked, read_of}
use Rattle.ym_port.specs.Wire.{Tape, moment_of}
use Rattle.ym_port.specs.declared.line.Line.{Line}
use Rattle.ym_timing.specs.Clears.{purge, is_answered}
use Rattle.ym_timing.specs.declared.purge.Purge.{Purge}
use Rattle.ym_timing.specs.declared.purge.Need.TheVariants.{Several}

-- when a read for a reply begins: the clock is asked first
abbrev pub began : Line → Tape → ℕ
began l t = (looked (moment_of t) l).clock.at

-- what it comes to, where so many bytes have room
abbrev pub reply_read : ℕ → Line → Tape → Read
reply_read room l t = read_of asked.Reply room l t

-- the line was asked for bytes as often as a read may ask
abbrev pub IsSpent : Tape → Tape → Type 0
IsSpent before after = length before.done + MOST_READS ≤ length after.done

-- ---- A sender's line is let clear

-- these bytes go on from a frame of which several answers may come
abbrev pub IsSeveral : List ℕ → Line → Tape → Type 0
IsSeveral bytes l t = (purge bytes (began l t) l.timing).need ≡ Several

-- the line was closed or has CAN CAN, or each copy of a block had its ACK: there is nothing to wait
-- for
pub record IsOverAtOnce (c : Purge) (l : Line) : Type 0 where
  pub is : (l.is_closed ≡ true) ⊎ ((l.timing.has_cancel ≡ true) ⊎ (is_answered c l.timing ≡ true))
