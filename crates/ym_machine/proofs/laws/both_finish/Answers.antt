use Rattle.ym_machine.proofs.Completion.{all-complete}
use Rattle.ym_machine.proofs.laws.both_finish.Goals as goal

pub returns : goal.returns
returns g c = record { complete = λ files confirm turns damage none few enough. all-complete files confirm turns damage none few enough }
