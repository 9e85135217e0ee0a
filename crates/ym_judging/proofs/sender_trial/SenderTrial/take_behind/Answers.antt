use Rattle.ym_judging.proofs.StepLemmas.{one_more}
use Rattle.ym_judging.proofs.sender_trial.SenderTrial.take_behind.Goals as goal

pub returns-then-ne-clause-noted : goal.returns-then-ne-clause-noted
returns-then-ne-clause-noted c most noted = one_more c.note.ensures.noted most noted
