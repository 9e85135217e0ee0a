-- What is left of the bytes makes of it what all of them do.
use Rattle.std.proofs.Common.{◌≡◌, drop}
use Rattle.ym_port.specs.TimedPort.{dropped, dropped_of}
use Rattle.ym_port.proofs.line.Line.drop_all.Given as goal

abbrev pub invariant-loop-byte : goal.invariant-loop-byte
invariant-loop-byte l = record {
  line : l.self ≡ record l.fn.self { timing = l.self.timing };
  all : dropped_of l.fn.purge l.bytes l.fn.self
      ≡ dropped (drop l.byte-index l.bytes) l.fn.self.written l.fn.self.clock.at (record { purge = l.left; timing = l.self.timing });
}
