use Rattle.ym_folder.proofs.SinkLemmas.{nothing_overwritten}
use Rattle.ym_folder.proofs.laws.nothing_is_overwritten.Goals as goal

pub returns : goal.returns
returns c = nothing_overwritten
