use Rattle.std.proofs.Common.{◌∙◌, arith}
use Rattle.std.proofs.lemmas.Grind.{common_steps}
use Rattle.ym_chart.specs.LineParts.{is_of_moment}
use Rattle.ym_chart.proofs.FrontLemmas.{front_on}
use Rattle.ym_chart.proofs.parts.moment_len.Goals as goal

pub loop-place-preserved : goal.loop-place-preserved
loop-place-preserved c =
    front_on is_of_moment c.args.line.now c.loop-place.place (grind (arith, common_steps)) (grind (arith, common_steps))
    ∙ c.loop-place.invariant
