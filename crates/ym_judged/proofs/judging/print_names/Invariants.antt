-- The lines so far went to the output, and no write has failed.
use Rattle.std.proofs.Common.{take, Ok}
use Rattle.ym_answer.specs.Page.{Prints, page}
use Rattle.ym_judged.specs.Judged.{names_text}
use Rattle.ym_judged.proofs.judging.print_names.Given as goal

abbrev pub invariant-loop-case : goal.invariant-loop-case
invariant-loop-case g l =
    Prints (page (g.O.Output.contents l.initial.out) (g.O.Output.failures l.initial.out)) (names_text (take l.case-index l.cases)) (Ok tt) (page (g.O.Output.contents l.out) (g.O.Output.failures l.out))
