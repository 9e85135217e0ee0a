use Rattle.ym_judging.proofs.StepLemmas.{one_more, same_notes}
use Rattle.ym_judging.proofs.sender_trial.SenderTrial.take_before.Goals as goal

pub returns-then-not-is_empty-clause-noted : goal.returns-then-not-is_empty-clause-noted
returns-then-not-is_empty-clause-noted c most noted =
    one_more c.note.ensures.noted most (same_notes c.hear.ensures.notes noted)
