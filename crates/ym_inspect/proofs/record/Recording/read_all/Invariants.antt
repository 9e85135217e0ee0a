-- What was read of the text so far, and that nothing failed.
use Rattle.std.proofs.Common.{◌≡◌, ℕ, List, Option, Some}
use Rattle.ym_told.specs.declared.way.Direction.{Direction}
use Rattle.ym_inspect.specs.RecordRead.{SoFar, so_much}
use Rattle.ym_inspect.proofs.RecordLemmas.{ReadSome}
use Rattle.ym_inspect.proofs.record.Recording.read_all.Given as goal

abbrev pub invariant-loop : goal.invariant-loop
invariant-loop g l = record {
  some : (text : List ℕ) (before : Option (List ℕ)) (read : List (Direction × ℕ))
      → g.I.Input.remaining l.fn.input ≡ Some text
      → SoFar before l.fn.self.inspection (g.O.Output.contents l.fn.out) read
      → ReadSome text (so_much l.fn.self.state l.fn.self.number l.fn.self.buffered.items read) before (g.I.Input.remaining l.input)
      l.self.inspection l.self.state l.self.number l.self.buffered.items (g.O.Output.contents l.out);
  reads : g.I.Input.failures l.input ≡ g.I.Input.failures l.fn.input;
  writes : g.O.Output.failures l.out ≡ g.O.Output.failures l.fn.out;
}
