-- What was read of the characters so far, and that no write failed.
use Rattle.std.proofs.Common.{◌≡◌, ℕ, List, Option, Ok, drop}
use Rattle.ym_told.specs.declared.way.Direction.{Direction}
use Rattle.ym_inspect.specs.RecordRead.{SoFar, and_chars, so_much}
use Rattle.ym_inspect.proofs.RecordLemmas.{Walked}
use Rattle.ym_inspect.proofs.record.Recording.take.Given as goal

abbrev pub invariant-loop-character : goal.invariant-loop-character
invariant-loop-character g l = record {
  walked : (before : Option (List ℕ)) (read : List (Direction × ℕ))
      → SoFar before l.fn.self.inspection (g.O.Output.contents l.fn.out) read
      → Walked before (and_chars (Ok (so_much l.fn.self.state l.fn.self.number l.fn.self.buffered.items read)) l.characters)
      (drop l.character-index l.characters) l.self.inspection l.self.state l.self.number l.self.buffered.items (g.O.Output.contents l.out);
  failures : g.O.Output.failures l.out ≡ g.O.Output.failures l.fn.out;
}
