-- What is left to read is what all of it comes to.
use Rattle.std.proofs.Common.{◌≡◌, ◌-◌, length}
use Rattle.ym_port.specs.declared.line.TheConstants.{MOST_READS}
use Rattle.ym_port.specs.TimedPort.{reads, room_for}
use Rattle.ym_port.specs.Wire.{Tape}
use Rattle.ym_port.proofs.reads.read_on.Given as goal

abbrev pub invariant-loop-done : goal.invariant-loop-done
invariant-loop-done g l = record {
  role : l.line.timing.role ≡ l.fn.line.timing.role;
  sized : length l.buf ≡ length l.fn.buf;
  told : (u : Tape) → g.W.Wire.tells l.wire u → (t : Tape) × g.W.Wire.tells l.fn.wire t
      × (reads MOST_READS l.wait l.start (room_for l.fn.line.timing.role (length l.fn.buf)) l.fn.line t
      ≡ reads (MOST_READS - l._done) l.wait l.start (room_for l.fn.line.timing.role (length l.fn.buf)) l.line u);
  calm : g.W.Wire.failures l.wire ≡ g.W.Wire.failures l.fn.wire;
}
