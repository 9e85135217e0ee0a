use Rattle.std.proofs.Common.{Ok, Err, rules}
use Rattle.ym_header.specs.declared.reading.Zero.TheVariants.{File, End}
use Rattle.ym_core.proofs.receiver.ReceiverCore.hear_zero.Goals as goal

pub returns-in-Ok-File-clause-step : goal.returns-in-Ok-File-clause-step
returns-in-Ok-File-clause-step c = (Ok (File c.in-Ok-File.header), (search rules), (search rules))

pub returns-in-Ok-End-clause-step : goal.returns-in-Ok-End-clause-step
returns-in-Ok-End-clause-step c = (Ok End, (search rules), (search rules))

pub returns-in-Err-clause-step : goal.returns-in-Err-clause-step
returns-in-Err-clause-step c = (Err c.in-Err.fault, (search rules), (search rules))
