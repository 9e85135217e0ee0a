-- Nothing was sent.
use Rattle.std.proofs.Common.{rules}
use Rattle.ym_sending.proofs.BatchLemmas.{unsent}
use Rattle.ym_sending.proofs.sending.send_telling.Goals as goal

pub returns-in_err-outgoing : goal.returns-in_err-outgoing
returns-in_err-outgoing g c = let refused = c.in_err-outgoing.ensures.refused in unsent _ _ _ _ (search rules)

pub returns-in_err-stream : goal.returns-in_err-stream
returns-in_err-stream g c = let host = c.from_residual-in_err-stream.ensures.1 in unsent _ _ _ _ (search rules)
