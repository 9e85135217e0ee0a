-- What passes goes on passing, whether the write was made or not.
use Rattle.std.proofs.Common.{refl}
use Rattle.ym_port.specs.Passing.{written_of}
use Rattle.ym_port.proofs.Passing.{write-passes, tape_of}
use Rattle.ym_port.proofs.timed_port.TimedPortPort.write.Goals as goal

pub returns-clause-told : goal.returns-clause-told
returns-clause-told g c u p =
    let got = c.write_next.ensures.exact p.0 p.1 in
    let out = write-passes _ c.args.bytes.now c.args.self.now.line c.write_next.new.self.line c.write_next.result u p.0 got.0 refl got.2 p.2 p.3 in
    (tape_of u.coming (written_of got.0.done), (got.0, got.1, refl, out.0), out.1)
