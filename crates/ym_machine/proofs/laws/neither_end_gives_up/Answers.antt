use Rattle.ym_machine.proofs.Completion.{all-going, all-counts}
use Rattle.ym_machine.proofs.laws.neither_end_gives_up.Goals as goal

pub returns-clause-going : goal.returns-clause-going
returns-clause-going g c files confirm turns damage none few = all-going files confirm turns damage none few

pub returns-clause-counts : goal.returns-clause-counts
returns-clause-counts g c files confirm turns damage none few = all-counts files confirm turns damage none few
