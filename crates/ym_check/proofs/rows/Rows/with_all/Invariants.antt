use Rattle.std.proofs.Common.{◌≡◌, ◌*◌, ◌++◌, List, ℕ, take}
use Rattle.ym_check.specs.Check.{check_of}
use Rattle.ym_check.specs.Fold.{rows_bytes}
use Rattle.ym_check.proofs.rows.Rows.with_all.Given as goal

abbrev pub invariant-loop-i : goal.invariant-loop-i
invariant-loop-i l = (before : List ℕ) → check_of before ≡ check_of (rows_bytes l.fn.self.first l.fn.self.second l.fn.self.third l.fn.self.fourth l.fn.self.gone) →
    check_of (before ++ take (64 * l.i) l.bytes) ≡ check_of (rows_bytes l.rows.first l.rows.second l.rows.third l.rows.fourth l.rows.gone)
