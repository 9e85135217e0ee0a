use Rattle.ym_judging.proofs.StepLemmas.{one_more, same_notes}
use Rattle.ym_judging.proofs.receiver_trial.try_receiver.Goals as goal

pub loop-preserved : goal.loop-preserved
loop-preserved g c =
    let before = same_notes c.turn.ensures.notes c.loop.invariant in
    one_more c.in_ok-take.ensures.noted c.loop.counter before
