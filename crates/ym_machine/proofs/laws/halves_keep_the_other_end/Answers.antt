use Rattle.ym_machine.proofs.Keeps.{there-keeps, back-keeps}
use Rattle.ym_machine.proofs.laws.halves_keep_the_other_end.Goals as goal

pub returns-clause-there_keeps : goal.returns-clause-there_keeps
returns-clause-there_keeps g c frames confirm sink whole old = there-keeps frames old confirm sink whole

pub returns-clause-back_keeps : goal.returns-clause-back_keeps
returns-clause-back_keeps g c frames source came old = back-keeps frames old source came
