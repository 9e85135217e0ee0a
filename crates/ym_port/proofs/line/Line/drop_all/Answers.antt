-- Byte by byte.
use Rattle.std.proofs.Common.{◌<◌, length, arith}
use Rattle.ym_port.proofs.Dropping.{drop-one}
use Rattle.ym_port.proofs.line.Line.drop_all.Goals as goal

pub loop-byte-preserved : goal.loop-byte-preserved
loop-byte-preserved c =
    let more : c.loop-byte.byte-index < length c.args.bytes.now = omega arith in
    let one = drop-one c.args.self.now c.loop-byte.self c.drop_byte-left.new.self c.args.bytes.now c.loop-byte.byte-index c.args.purge c.loop-byte.left c.drop_byte-left.result
    more c.loop-byte.invariant.line c.drop_byte-left.ensures.line c.drop_byte-left.ensures.purge c.loop-byte.invariant.all in
    record { line = one.0; all = one.1 }
