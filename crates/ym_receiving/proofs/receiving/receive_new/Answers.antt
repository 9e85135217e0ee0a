-- A session with a new receiver.
use Rattle.std.proofs.Common.{rules}
use Rattle.ym_receiving.proofs.SessionLemmas.{batch}
use Rattle.ym_receiving.proofs.receiving.receive_new.Goals as goal

pub returns : goal.returns
returns g c = let ran = c.receive_batch.ensures in batch _ _ _ _ _ _ _ _ _ _ _ _ ran.3 ran.6 (search rules) (search rules)
