-- What was read and told so far, and that nothing failed.
use Rattle.std.proofs.Common.{◌≡◌, ℕ, List, Some}
use Rattle.ym_inspect.proofs.TellLemmas.{ReadSoFar}
use Rattle.ym_inspect.proofs.reading.tell_file.Given as goal

abbrev pub invariant-loop : goal.invariant-loop
invariant-loop g l = record {
  some : (text : List ℕ) → g.I.Input.remaining l.fn.input ≡ Some text
      → ReadSoFar text l.way l.fn.inspection (g.O.Output.contents l.fn.out) (g.I.Input.remaining l.input)
      l.inspection (g.O.Output.contents l.out);
  reads : g.I.Input.failures l.input ≡ g.I.Input.failures l.fn.input;
  writes : g.O.Output.failures l.out ≡ g.O.Output.failures l.fn.out;
}
