-- What is left to do behind these reads is what all of them come to.
use Rattle.std.proofs.Common.{◌≡◌, ◌-◌}
use Rattle.ym_port.specs.declared.line.TheConstants.{MOST_READS}
use Rattle.ym_port.specs.TimedPort.{cleared}
use Rattle.ym_port.specs.Wire.{Tape}
use Rattle.ym_port.proofs.clears.let_clear.Given as goal

abbrev pub invariant-loop-done : goal.invariant-loop-done
invariant-loop-done g l = record {
  told : (u : Tape) → g.W.Wire.tells l.wire u → (t : Tape) × g.W.Wire.tells l.fn.wire t
      × (cleared MOST_READS l.fn.start l.fn.line t ≡ cleared (MOST_READS - l._done) l.purge l.line u);
  calm : g.W.Wire.failures l.wire ≡ g.W.Wire.failures l.fn.wire;
}
