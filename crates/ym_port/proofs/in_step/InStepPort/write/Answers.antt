-- What passes goes on passing, whether the reply was written or not.
use Rattle.std.proofs.Common.{refl, is_ok}
use Rattle.ym_port.proofs.InStepPassing.{reply-passes}
use Rattle.ym_port.proofs.Passing.{tape_of}
use Rattle.ym_port.proofs.in_step.InStepPort.write.Goals as goal

pub returns-clause-told : goal.returns-clause-told
returns-clause-told g c u p =
    let got = c.write.ensures.told p.0 p.1 in
    let out = reply-passes (is_ok c.write.result) c.args.bytes.now c.args.self.now.turn c.reply.new.self u p.0 got.0 got.2 c.reply.ensures p.2 p.3 in
    (tape_of u.coming got.0.written, (got.0, got.1, refl, out.0), out.1)
