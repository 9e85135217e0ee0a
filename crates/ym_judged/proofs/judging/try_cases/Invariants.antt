-- The cases so far were tried, and each has its line.
use Rattle.std.proofs.Common.{take}
use Rattle.ym_answer.specs.Page.{page}
use Rattle.ym_judged.proofs.JudgeLemmas.{SoFar}
use Rattle.ym_judged.proofs.judging.try_cases.Given as goal

abbrev pub invariant-loop-case : goal.invariant-loop-case
invariant-loop-case g l =
    SoFar (take l.case-index l.cases) l.json (page (g.O.Output.contents l.initial.outputs.out) (g.O.Output.failures l.initial.outputs.out)) l.report
    (page (g.O.Output.contents l.outputs.out) (g.O.Output.failures l.outputs.out))
