use Rattle.ym_judging.proofs.StepLemmas.{one_more, same_notes}
use Rattle.ym_judging.proofs.sender_trial.SenderTrial.take_frame.Goals as goal

pub returns-clause-noted : goal.returns-clause-noted
returns-clause-noted c most noted =
    let sized = same_notes c.take_size.ensures.notes noted in
    one_more c.note.ensures.noted most (same_notes c.take_twist.ensures.notes sized)
