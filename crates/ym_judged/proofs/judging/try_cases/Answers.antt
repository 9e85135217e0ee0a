-- One more case, a fault at a case, and the end behind the last one.
use Rattle.std.proofs.Common.{ap, inl, refl, rules, Ok}
use Rattle.ym_judged.proofs.JudgeLemmas.{cut_off, none_so_far, one_more, reported}
use Rattle.ym_judged.proofs.judging.try_cases.Goals as goal

pub loop-case-init : goal.loop-case-init
loop-case-init g c = none_so_far _ _ c.new-report.result c.new-report.ensures.sums c.new-report.ensures.avoided

pub returns-in_err-outcome-clause-gives : goal.returns-in_err-outcome-clause-gives
returns-in_err-outcome-clause-gives g c =
    cut_off c.args.cases.now c.loop-case.case-index _ _ _ _ _ _ (search rules) c.in_err-outcome.ensures.why c.from_residual.ensures.1 c.loop-case.invariant

pub returns-in_err-take-clause-gives : goal.returns-in_err-take-clause-gives
returns-in_err-take-clause-gives g c =
    cut_off c.args.cases.now c.loop-case.case-index _ _ _ _ _ _ (search rules) (inl refl) c.from_residual-in_err-take.ensures.1 c.loop-case.invariant

pub loop-case-preserved : goal.loop-case-preserved
loop-case-preserved g c =
    let it = c.tried-tried.ensures in
    let taken = c.in_ok-take.ensures in
    one_more c.args.cases.now c.loop-case.case-index _ _ _ _ _ _ _ _ _ (search rules) it.case (record { sound = c.in_ok-outcome.ensures.sound; step = it.step; finished = it.finished; takes_back = it.takes_back; found = it.found })
    taken.sums taken.avoided c.in_ok-print_case.ensures c.loop-case.invariant

pub returns-clause-gives : goal.returns-clause-gives
returns-clause-gives g c =
    reported c.args.cases.now c.loop-case.case-index _ _ _ _ c.loop-case.report _ (search rules) c.loop-case.invariant c.in_ok-print_end.ensures (ap Ok c.status_of.ensures.gives)
