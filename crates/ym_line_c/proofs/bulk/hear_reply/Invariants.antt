use Rattle.std.proofs.Common.{◌≡◌, ◌≤◌, ◌*◌, take}
use Rattle.ym_timing.specs.ByteRows.{heard_of, after_bytes}
use Rattle.ym_line_c.proofs.bulk.hear_reply.Given as goal

abbrev pub invariant-loop-byte : goal.invariant-loop-byte
invariant-loop-byte l = record {
  few : l.count ≤ 2 * l.byte-index;
  new : l.timing ≡ after_bytes (take l.byte-index l.bytes) l.written l.now l.fn.timing;
  heard : take l.count l.heard ≡ heard_of (take l.byte-index l.bytes) l.written l.now l.fn.timing;
}
