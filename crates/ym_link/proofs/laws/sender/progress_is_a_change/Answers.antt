use Rattle.ym_link.proofs.Steps.{step_counts}
use Rattle.ym_link.proofs.Names.{controls_in}
use Rattle.ym_link.proofs.laws.sender.progress_is_a_change.Goals as goal

pub returns : goal.returns
returns c = λ counts old bytes still. step_counts counts old (controls_in bytes) still
