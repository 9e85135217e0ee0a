-- What was read and told so far, and that no write failed.
use Rattle.std.proofs.Common.{◌≡◌}
use Rattle.ym_inspect.specs.PairTold.{KeepsEnd, WayOn}
use Rattle.ym_inspect.proofs.pair.OneWay.tell.Given as goal

abbrev pub invariant-loop : goal.invariant-loop
invariant-loop g l = record {
  way : l.self.way ≡ l.fn.self.way;
  reads : WayOn l.fn.self.way (g.I.Input.remaining l.fn.self.input.now) l.fn.inspection (g.O.Output.contents l.fn.out)
      (g.I.Input.remaining l.self.input.now) l.inspection (g.O.Output.contents l.out);
  over : KeepsEnd l.fn.self.is_over (g.I.Input.remaining l.fn.self.input.now) l.self.is_over (g.I.Input.remaining l.self.input.now);
  failures : g.O.Output.failures l.out ≡ g.O.Output.failures l.fn.out;
}
