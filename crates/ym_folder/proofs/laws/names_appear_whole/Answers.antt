use Rattle.ym_folder.proofs.SinkLemmas.{appear_whole}
use Rattle.ym_folder.proofs.laws.names_appear_whole.Goals as goal

pub returns : goal.returns
returns c = appear_whole
