use Rattle.std.proofs.Common.{rules}
use Rattle.std.proofs.lemmas.List.{take_more_set}
use Rattle.ym_c.proofs.sender.seal_eot.Goals as goal

pub returns-clause-frame : goal.returns-clause-frame
returns-clause-frame c = take_more_set c.args.frame.now 0 4 (search rules)
