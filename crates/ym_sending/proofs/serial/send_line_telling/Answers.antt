-- Nothing was sent.
use Rattle.std.proofs.Common.{rules}
use Rattle.ym_sending.proofs.BatchLemmas.{unsent}
use Rattle.ym_sending.proofs.serial.send_line_telling.Goals as goal

pub returns-in_err-outgoing : goal.returns-in_err-outgoing
returns-in_err-outgoing g c = let refused = c.in_err-outgoing.ensures.refused in unsent _ _ _ _ (search rules)

pub returns-in_err-file-in-Some : goal.returns-in_err-file-in-Some
returns-in_err-file-in-Some g c = let host = c.in_err-file-in-Some.ensures in unsent _ _ _ _ (search rules)
