-- There is no sender.
use Rattle.std.proofs.Common.{rules}
use Rattle.ym_sending.proofs.BatchLemmas.{too_many}
use Rattle.ym_sending.proofs.sending.outgoing_of.Goals as goal

pub returns-in_err-sender-clause-refused : goal.returns-in_err-sender-clause-refused
returns-in_err-sender-clause-refused g c = let many = c.in_err-sender.ensures.refused in let refused = too_many _ _ _ c.in_ok-batch.ensures.batch many.0 many.1 in search rules
