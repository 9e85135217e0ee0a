-- What was told so far, and that no write failed.
use Rattle.std.proofs.Common.{◌≡◌, []}
use Rattle.ym_inspect.specs.PcapRead.{TellsOn}
use Rattle.ym_inspect.proofs.pcap.Packets.tell_whole.Given as goal

abbrev pub invariant-loop : goal.invariant-loop
invariant-loop g l = record {
  tells : TellsOn [] l.fn.self (g.O.Output.contents l.fn.out) l.self (g.O.Output.contents l.out);
  failures : g.O.Output.failures l.out ≡ g.O.Output.failures l.fn.out;
}
