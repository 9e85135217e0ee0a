use Rattle.std.proofs.Common.{rules, arith}
use Rattle.ym_c.proofs.Bodies.{frame_front}
use Rattle.ym_c.proofs.sender.seal_body.Goals as goal

pub returns-clause-frame : goal.returns-clause-frame
returns-clause-frame c = frame_front c.args.number c.args.body.now c.seal_frame.new.frame _ _ c.seal_frame.ensures (omega arith)
