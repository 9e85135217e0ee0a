use Rattle.ym_pair.proofs.OnTheTape.{sender-wrote, receiver-wrote}
use Rattle.ym_pair.proofs.laws.any_peer.what_was_written_is_on_the_tape.Goals as goal

pub returns-clause-sender : goal.returns-clause-sender
returns-clause-sender c = sender-wrote

pub returns-clause-receiver : goal.returns-clause-receiver
returns-clause-receiver c = receiver-wrote
