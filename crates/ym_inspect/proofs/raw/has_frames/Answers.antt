use Rattle.ym_inspect.proofs.TellLemmas.{frame_later}
use Rattle.std.proofs.Common.{◌∙◌, ◌<◌, length, arith}
use Rattle.std.proofs.lemmas.Grind.{common_steps}
use Rattle.ym_inspect.proofs.raw.has_frames.Goals as goal

pub loop-position-preserved : goal.loop-position-preserved
loop-position-preserved c =
    let within : c.loop-position.position < length c.args.bytes.now = grind (arith, common_steps) in
    frame_later c.args.bytes.now c.loop-position.position within (grind (arith, common_steps)) ∙ c.loop-position.invariant
