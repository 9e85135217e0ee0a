use Rattle.std.proofs.Common.{◌≡◌, drop}
use Rattle.ym_told.specs.RunText.{tails}
use Rattle.ym_told.proofs.run.tail_behind_all.Given as goal

abbrev pub invariant-loop-byte : goal.invariant-loop-byte
invariant-loop-byte l =
    tails l.last (drop l.byte-index l.bytes) ≡ tails l.fn.tail l.bytes
