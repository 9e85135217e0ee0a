-- Bytes that come late: while the port lets the line clear, and before it counts as clear.
use Rattle.std.specs.Prelude.{◌≡◌, ◌≤◌, ℕ, true, false, List, [], ◌∷◌, length, Ok}
use Rattle.ym_link.specs.declared.event.Event.{Event}
use Rattle.ym_link.specs.declared.event.Event.TheVariants as event
use Rattle.ym_port.specs.TimedPort.{Cleared, after_dropping, dropping, is_clear, looked, passed}
use Rattle.ym_port.specs.Wire.{Tape}
use Rattle.ym_port.specs.declared.line.Line.{Line}
use Rattle.ym_port.specs.declared.line.TheConstants.{CLEAR_PIECE}
use Rattle.ym_timing.specs.Clears.{clear_at}
use Rattle.ym_timing.specs.declared.purge.Purge.{Purge}

-- some of them, and what the clock told as they came
pub record Late : Type 0 where
  pub bytes : List ℕ
  pub at : ℕ

-- ---- What is known of the line when they are dropped

-- how far it is clear behind these bytes
abbrev pub purge_after : Late → Purge → Line → Purge
purge_after late c l = dropping c late.bytes (looked late.at l)

abbrev pub line_after : Late → Purge → Line → Line
line_after late c l = after_dropping c late.bytes (looked late.at l)

-- and behind them all
abbrev pub purge_behind : Purge → Line → List Late → Purge
purge_behind c l [] = c
purge_behind c l (late ∷ others) =
    purge_behind (purge_after late c l) (line_after late c l) others

abbrev pub line_behind : Purge → Line → List Late → Line
line_behind c l [] = l
line_behind c l (late ∷ others) =
    line_behind (purge_after late c l) (line_after late c l) others

-- ---- When they come

-- a read takes them whole, before the line is clear
pub record IsLate (c : Purge) (l : Line) (late : Late) : Type 0 where
  pub early : is_clear c l ≡ false
  pub some : 1 ≤ length late.bytes
  pub fits : length late.bytes ≤ CLEAR_PIECE

abbrev pub AreLate : Purge → Line → List Late → Type 0
AreLate c l [] = Unit {0}
AreLate c l (late ∷ others) =
    IsLate c l late × AreLate (purge_after late c l) (line_after late c l) others

-- ---- What the wire brings

abbrev pub pieces : List Late → List Event → List Event
pieces [] more = more
pieces (late ∷ others) more = event.Piece late.bytes ∷ pieces others more

abbrev pub times : List Late → List ℕ → List ℕ
times [] more = more
times (late ∷ others) more = late.at ∷ times others more

-- it brings them, then it is quiet until the clock tells `at`, and then comes the rest
abbrev pub brings : List Late → ℕ → Tape → Tape
brings late at rest = record {
  moments = times late (at ∷ rest.moments);
  coming = pieces late (event.Quiet ∷ rest.coming);
  done = rest.done;
}

-- ---- They are dropped

-- So the port leaves off, where it fell quiet at this clearing and line: its clock has waited until
-- the line was clear, and the rest is still to come.
pub record LeavesOff (c : Purge) (l : Line) (at : ℕ) (rest : Tape) (e : Cleared) : Type 0 where
  pub answer : e.answer ≡ Ok c
  pub line : e.line ≡ passed (clear_at c l.timing) at l
  pub clear : is_clear c e.line ≡ true
  pub coming : e.tape.coming ≡ rest.coming
  pub moments : e.tape.moments ≡ rest.moments
