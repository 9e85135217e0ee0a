use Rattle.std.proofs.Common.{Ok, rules}
use Rattle.ym_header.specs.declared.reading.Zero.TheVariants.{End}
use Rattle.ym_core.proofs.receiver.ReceiverCore.answer.Goals as goal

pub returns-in-InFile-clause-step : goal.returns-in-InFile-clause-step
returns-in-InFile-clause-step c = (Ok End, (search rules), (search rules))

pub returns-in-Finished-clause-step : goal.returns-in-Finished-clause-step
returns-in-Finished-clause-step c = (Ok End, (search rules), (search rules))

pub returns-in_default-clause-step : goal.returns-in_default-clause-step
returns-in_default-clause-step c = (Ok End, (search rules), (search rules))
