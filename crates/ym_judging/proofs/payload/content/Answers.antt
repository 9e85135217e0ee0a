use Rattle.std.proofs.Common.{arith}
use Rattle.std.proofs.lemmas.Grind.{common_steps}
use Rattle.ym_judging.proofs.ContentLemmas.{content_step}
use Rattle.ym_judging.proofs.payload.content.Goals as goal

pub loop-left-preserved : goal.loop-left-preserved
loop-left-preserved c =
    let some = c.loop-left-test.true in
    let step = content_step c.loop-left.left (omega (arith, some)) in
    let pushed = c.in_ok-push.ensures.items in
    let byte = c.byte_before.ensures in
    let so_far = c.loop-left.invariant in
    grind (arith, common_steps, step, pushed, byte, so_far)
