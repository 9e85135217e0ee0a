use Rattle.ym_machine.proofs.Positions.{all-within, within-inside, within-behind}
use Rattle.ym_machine.proofs.laws.files_within_a_batch.Goals as goal

pub returns-clause-inside : goal.returns-clause-inside
returns-clause-inside g c file files n few = within-inside file files n few

pub returns-clause-behind : goal.returns-clause-behind
returns-clause-behind g c file files n = within-behind file files n

pub returns-clause-all : goal.returns-clause-all
returns-clause-all g c files = all-within files
