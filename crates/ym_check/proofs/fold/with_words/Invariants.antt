use Rattle.std.proofs.Common.{◌≡◌, ◌*◌, ◌++◌, List, ℕ, take}
use Rattle.ym_check.specs.Check.{check_of}
use Rattle.ym_check.specs.Fold.{sixteen}
use Rattle.ym_check.proofs.fold.with_words.Given as goal

abbrev pub invariant-loop-i : goal.invariant-loop-i
invariant-loop-i l = (before : List ℕ) → l.check ≡ check_of before → check_of (before ++ take (16 * l.i) l.bytes) ≡ check_of (sixteen l.word)
