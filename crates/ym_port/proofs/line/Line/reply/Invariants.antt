-- What is left of the bytes makes of it what all of them do.
use Rattle.std.proofs.Common.{◌≡◌, ◌≤◌, ◌*◌, ◌++◌, drop, take, length}
use Rattle.ym_timing.specs.ByteRows.{heard_of, after_bytes}
use Rattle.ym_port.proofs.line.Line.reply.Given as goal

abbrev pub invariant-loop-byte : goal.invariant-loop-byte
invariant-loop-byte l = record {
  within : l.count ≤ 2 * l.byte-index;
  sized : length l.buf ≡ length l.fn.buf;
  line : l.self ≡ record l.fn.self { timing = l.self.timing };
  role : l.self.timing.role ≡ l.fn.self.timing.role;
  after : after_bytes l.came l.fn.self.written l.fn.self.clock.at l.fn.self.timing
      ≡ after_bytes (drop l.byte-index l.came) l.fn.self.written l.fn.self.clock.at l.self.timing;
  heard : heard_of l.came l.fn.self.written l.fn.self.clock.at l.fn.self.timing
      ≡ take l.count l.buf
      ++ heard_of (drop l.byte-index l.came) l.fn.self.written l.fn.self.clock.at l.self.timing;
}
