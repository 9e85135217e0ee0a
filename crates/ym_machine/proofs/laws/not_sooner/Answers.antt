use Rattle.ym_machine.proofs.Completion.{not-sooner}
use Rattle.ym_machine.proofs.laws.not_sooner.Goals as goal

pub returns : goal.returns
returns g c = record { running = λ files confirm turns all none fewer done. not-sooner files confirm turns all none fewer done }
