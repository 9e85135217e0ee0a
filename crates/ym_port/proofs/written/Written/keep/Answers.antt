-- The front of it is what it begins with.
use Rattle.std.proofs.Common.{arith}
use Rattle.ym_port.proofs.Hearing.{kept, kept-one}
use Rattle.ym_port.proofs.written.Written.keep.Goals as goal

pub returns : goal.returns
returns c = kept c.min-length.result 1029 c.args.bytes.now c.copy_from_slice.new.self _ c.min-length.ensures c.copy_from_slice.ensures.after

pub returns-then-bytes-eq1 : goal.returns-then-bytes-eq1
returns-then-bytes-eq1 c =
    kept-one c.self.inside.bytes c.args.bytes.now (omega arith) c.if-bytes-eq1.true
