-- No read so far has failed.
use Rattle.std.proofs.Common.{◌≡◌}
use Rattle.ym_host.proofs.socket_wire.SocketWire.read_on.Given as goal

abbrev pub invariant-loop : goal.invariant-loop
invariant-loop g l = l.self ≡ l.fn.self
