-- The lines of the files so far went to the output, and no write has failed.
use Rattle.std.proofs.Common.{◌≡◌, take}
use Rattle.std.specs.Io.KnownBytes.{Appends}
use Rattle.ym_answer.specs.Lines.{file_lines}
use Rattle.ym_receiving.proofs.receiving.print_files.Given as goal

abbrev pub invariant-loop-header : goal.invariant-loop-header
invariant-loop-header g l =
    Appends (g.O.Output.contents l.initial.out) (g.O.Output.contents l.out) (file_lines (take l.header-index l.headers))
    × (g.O.Output.failures l.out ≡ g.O.Output.failures l.initial.out)
