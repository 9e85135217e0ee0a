use Rattle.ym_line.proofs.Starts.{made-new}
use Rattle.ym_line.proofs.laws.made_ends_are_new.Goals as goal

pub returns : goal.returns
returns c = made-new
