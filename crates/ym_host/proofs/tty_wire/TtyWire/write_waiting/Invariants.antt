-- No write so far has counted a failure.
use Rattle.std.proofs.Common.{◌≡◌}
use Rattle.ym_host.proofs.tty_wire.TtyWire.write_waiting.Given as goal

abbrev pub invariant-loop : goal.invariant-loop
invariant-loop g l = l.self ≡ l.fn.self
