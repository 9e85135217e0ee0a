-- The lines so far went to the output, and no write has failed.
use Rattle.std.proofs.Common.{take, Ok}
use Rattle.ym_answer.specs.Page.{Prints, page}
use Rattle.ym_judged.specs.Judged.{avoid_lines}
use Rattle.ym_judged.proofs.judging.print_avoided.Given as goal

abbrev pub invariant-loop-tried : goal.invariant-loop-tried
invariant-loop-tried g l =
    Prints (page (g.O.Output.contents l.initial.out) (g.O.Output.failures l.initial.out)) (avoid_lines (take l.tried-index l.avoided)) (Ok tt) (page (g.O.Output.contents l.out) (g.O.Output.failures l.out))
