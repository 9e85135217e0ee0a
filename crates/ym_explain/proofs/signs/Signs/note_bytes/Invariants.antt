use Rattle.std.proofs.Common.{◌≡◌, drop}
use Rattle.ym_explain.specs.Noting.{with_bytes}
use Rattle.ym_explain.proofs.signs.Signs.note_bytes.Given as goal

abbrev pub invariant-loop-byte : goal.invariant-loop-byte
invariant-loop-byte l =
    with_bytes l.seen (drop l.byte-index l.bytes) ≡ with_bytes l.fn.self l.bytes
