use Rattle.std.proofs.Common.{◌≡◌, ◌++◌, drop, map}
use Rattle.ym_judge.specs.Carriage.{other}
use Rattle.ym_judge.proofs.frames.push_others.Given as goal

abbrev pub invariant-loop-byte : goal.invariant-loop-byte
invariant-loop-byte l =
    l.bytes.items ++ map other (drop l.byte-index l.written)
    ≡ l.initial.bytes.items ++ map other l.written
