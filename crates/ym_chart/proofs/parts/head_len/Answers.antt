use Rattle.std.proofs.Common.{◌∙◌, ◌==◌, not, arith}
use Rattle.std.proofs.lemmas.Grind.{common_steps}
use Rattle.ym_chart.proofs.FrontLemmas.{front_on}
use Rattle.ym_chart.proofs.parts.head_len.Goals as goal

pub loop-place-preserved : goal.loop-place-preserved
loop-place-preserved c =
    front_on (λ byte. not (byte == 0x3a)) c.args.words.now c.loop-place.place (grind (arith, common_steps)) (grind (arith, common_steps))
    ∙ c.loop-place.invariant
