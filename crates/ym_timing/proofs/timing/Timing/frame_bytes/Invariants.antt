-- What is left of the bytes makes of it what all of them do.
use Rattle.std.proofs.Common.{◌≡◌, drop}
use Rattle.ym_timing.specs.ByteRows.{heard_of, after_bytes}
use Rattle.ym_timing.proofs.timing.Timing.frame_bytes.Given as goal

abbrev pub invariant-loop-place : goal.invariant-loop-place
invariant-loop-place l = record {
  role : l.self.role ≡ l.fn.self.role;
  after : after_bytes l.bytes l.reply l.now l.fn.self ≡ after_bytes (drop l.place l.bytes) l.reply l.now l.self;
  heard : heard_of l.bytes l.reply l.now l.fn.self ≡ heard_of (drop l.place l.bytes) l.reply l.now l.self;
}
