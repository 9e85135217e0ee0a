use Rattle.ym_link.proofs.OneStep.{some_step, one_step}
use Rattle.ym_link.proofs.laws.receiver.a_delivery_has_one_step.Goals as goal

pub returns-clause-some : goal.returns-clause-some
returns-clause-some c = some_step c.a_block_zero_means_one_thing.ensures.some c.a_block_zero_means_one_thing.ensures.one

pub returns-clause-one : goal.returns-clause-one
returns-clause-one c = one_step c.a_block_zero_means_one_thing.ensures.some c.a_block_zero_means_one_thing.ensures.one
