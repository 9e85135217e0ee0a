use Rattle.std.proofs.Common.{◌*◌, arith}
use Rattle.std.proofs.lemmas.Result.{IfOk-weaker}
use Rattle.ym_judging.proofs.StepLemmas.{at_most, same_notes}
use Rattle.ym_judging.proofs.sender_trial.try_sender.Goals as goal

pub returns : goal.returns
returns g c =
    let end = c.loop.auto.counter-end in
    let grown = c.end_sender.ensures (c.loop.counter * 3) c.loop.invariant in
    let noted = at_most (omega (arith, end)) grown in
    IfOk-weaker c.outcome.result _ _ (λ o h. same_notes h.0 noted) c.outcome.ensures
