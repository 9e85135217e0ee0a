use Rattle.ym_folder.proofs.OneNameLemmas.{may_be_itself}
use Rattle.ym_folder.proofs.laws.a_name_may_be_itself.Goals as goal

pub returns : goal.returns
returns c = may_be_itself
