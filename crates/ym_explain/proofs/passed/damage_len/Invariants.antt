use Rattle.std.proofs.Common.{◌≡◌, ◌<◌, ◌≤◌, ℕ, false, drop}
use Rattle.ym_explain.specs.PrefixOf.{ends_at}
use Rattle.ym_explain.proofs.passed.damage_len.Given as goal

abbrev pub invariant-loop-position : goal.invariant-loop-position
invariant-loop-position l =
    (at : ℕ) → 1 ≤ at → at < l.position → ends_at l.bytes (drop at l.bytes) ≡ false
