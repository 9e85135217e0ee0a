-- What was read and told so far, and that nothing failed.
use Rattle.std.proofs.Common.{◌≡◌, ℕ, List, Some}
use Rattle.ym_inspect.proofs.PcapLemmas.{PacketsRead}
use Rattle.ym_inspect.proofs.pcap.Packets.read_all.Given as goal

abbrev pub invariant-loop : goal.invariant-loop
invariant-loop g l = record {
  some : (rest : List ℕ) → g.I.Input.remaining l.fn.input ≡ Some rest
      → PacketsRead rest l.fn.self (g.O.Output.contents l.fn.out) (g.I.Input.remaining l.input) l.self (g.O.Output.contents l.out);
  reads : g.I.Input.failures l.input ≡ g.I.Input.failures l.fn.input;
  writes : g.O.Output.failures l.out ≡ g.O.Output.failures l.fn.out;
}
