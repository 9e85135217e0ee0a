use Rattle.ym_judging.proofs.StepLemmas.{one_more}
use Rattle.ym_judging.proofs.sender_trial.hear_rest.Goals as goal

pub returns-in_ok-said : goal.returns-in_ok-said
returns-in_ok-said g c most noted = one_more c.note.ensures.noted most noted
