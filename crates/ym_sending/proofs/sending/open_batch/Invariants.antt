-- The files of the paths so far were looked at.
use Rattle.std.proofs.Common.{map}
use Rattle.ym_sending.proofs.BatchLemmas.{LookedAt}
use Rattle.ym_sending.proofs.sending.open_batch.Given as goal

abbrev pub invariant-loop-path : goal.invariant-loop-path
invariant-loop-path g l = LookedAt l.path-index (map (λ path. path.now) l.paths) l.batch.items
