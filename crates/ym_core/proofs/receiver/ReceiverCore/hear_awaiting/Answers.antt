use Rattle.std.proofs.Common.{Ok, rules}
use Rattle.ym_header.specs.declared.reading.Zero.TheVariants.{End}
use Rattle.ym_core.proofs.receiver.ReceiverCore.hear_awaiting.Goals as goal

pub returns-then-number-ne0-clause-step : goal.returns-then-number-ne0-clause-step
returns-then-number-ne0-clause-step c = (Ok End, (search rules), (search rules))

pub returns-after-self-gt0-clause-step : goal.returns-after-self-gt0-clause-step
returns-after-self-gt0-clause-step c = (Ok End, (search rules), (search rules))

pub returns-in-Item-Cancel-clause-step : goal.returns-in-Item-Cancel-clause-step
returns-in-Item-Cancel-clause-step c = (Ok End, (search rules), (search rules))

pub returns-in-Bad-clause-step : goal.returns-in-Bad-clause-step
returns-in-Bad-clause-step c = (Ok End, (search rules), (search rules))
