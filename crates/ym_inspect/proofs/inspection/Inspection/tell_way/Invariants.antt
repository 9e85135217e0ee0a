-- What was told so far, and that no write failed.
use Rattle.std.proofs.Common.{◌≡◌, []}
use Rattle.ym_inspect.specs.CaptureTold.{Tells}
use Rattle.ym_inspect.proofs.inspection.Inspection.tell_way.Given as goal

abbrev pub invariant-loop : goal.invariant-loop
invariant-loop g l = record {
  tells : Tells l.fn.self (g.O.Output.contents l.fn.out) [] l.self (g.O.Output.contents l.out);
  failures : g.O.Output.failures l.out ≡ g.O.Output.failures l.fn.out;
}
