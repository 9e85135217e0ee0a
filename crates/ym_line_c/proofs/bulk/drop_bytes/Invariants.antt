use Rattle.std.proofs.Common.{◌≡◌, take}
use Rattle.ym_line_c.specs.Bulk.{after_dropping, cleared_by}
use Rattle.ym_line_c.proofs.bulk.drop_bytes.Given as goal

abbrev pub invariant-loop-byte : goal.invariant-loop-byte
invariant-loop-byte l = record {
  new : l.timing ≡ after_dropping (take l.byte-index l.bytes) l.fn.purge l.written l.now l.fn.timing;
  purge : l.purge ≡ cleared_by (take l.byte-index l.bytes) l.fn.purge l.written l.now l.fn.timing;
}
