use Rattle.std.proofs.Common.{◌≡◌, drop, None}
use Rattle.ym_core.specs.Position.{IsPosition}
use Rattle.ym_core.specs.Scan.{reads, controls_in}
use Rattle.ym_core.proofs.Scans.{pending}
use Rattle.ym_core.proofs.scan.read_delivery.Given as goal

abbrev pub invariant-loop-byte : goal.invariant-loop-byte
invariant-loop-byte g l = record {
  same : reads (g.B.BatchShape.counts l.batch) l.fn.position l.fn.mode (controls_in l.bytes) ≡ reads (g.B.BatchShape.counts l.batch) l.read.position l.read.mode (pending l.after_can (controls_in (drop l.byte-index l.bytes)));
  within : IsPosition (g.B.BatchShape.counts l.batch) l.read.position;
  on : l.read.stop ≡ None;
}
