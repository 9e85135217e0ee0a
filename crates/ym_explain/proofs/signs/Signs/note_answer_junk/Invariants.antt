use Rattle.std.proofs.Common.{◌≡◌, drop}
use Rattle.ym_explain.specs.Noting.{with_answer_junk}
use Rattle.ym_explain.proofs.signs.Signs.note_answer_junk.Given as goal

abbrev pub invariant-loop-byte : goal.invariant-loop-byte
invariant-loop-byte l =
    with_answer_junk l.seen (drop l.byte-index l.bytes) ≡ with_answer_junk l.fn.self l.bytes
