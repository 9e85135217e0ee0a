-- So many have moved; the others stand where they stood.
use Rattle.std.proofs.Common.{◌≡◌, ℕ, ◌≤◌, take, drop, length, get_or}
use Rattle.ym_port.proofs.line.shift.Given as goal

abbrev pub invariant-loop-position : goal.invariant-loop-position
invariant-loop-position l = record {
  sized : length l.buf ≡ length l.fn.buf;
  moved : take l.position l.buf ≡ take l.position (drop l.by l.fn.buf);
  others : (k : ℕ) → l.position ≤ k → get_or l.buf k 0 ≡ get_or l.fn.buf k 0;
}
