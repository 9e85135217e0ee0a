use Rattle.std.proofs.Common.{◌≡◌, ◌++◌, List, ℕ, take}
use Rattle.ym_check.specs.Check.{check_of}
use Rattle.ym_check.proofs.check.CheckState.add_each.Given as goal

abbrev pub invariant-loop-byte : goal.invariant-loop-byte
invariant-loop-byte l = (bytes : List ℕ) → l.fn.self ≡ check_of bytes → l.self ≡ check_of (bytes ++ take l.byte-index l.more)
