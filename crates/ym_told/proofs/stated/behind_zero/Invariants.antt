use Rattle.std.proofs.Common.{◌≡◌, drop}
use Rattle.ym_told.specs.Announcing.{after_name}
use Rattle.ym_told.proofs.stated.behind_zero.Given as goal

abbrev pub invariant-loop-position : goal.invariant-loop-position
invariant-loop-position l = after_name (drop l.position l.body) ≡ after_name l.body
