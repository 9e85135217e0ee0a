use Rattle.std.proofs.Common.{refl}
use Rattle.ym_words.proofs.CommandLemmas.{with_all_parts, with_next_part}
use Rattle.ym_words.proofs.command.parted.Goals as goal

pub loop-part-init : goal.loop-part-init
loop-part-init c = λ app is. record { now = app; has = is; same = refl }

pub loop-part-preserved : goal.loop-part-preserved
loop-part-preserved c = λ app is.
    with_next_part c.args.parts.now c.loop-part.part-index _ c.loop-part-test.true
    c.in_ok-grown.ensures c.in_ok-made.ensures (c.loop-part.invariant app is)

pub returns : goal.returns
returns c = λ app is.
    with_all_parts c.args.parts.now c.loop-part.part-index c.loop-part-test.false
    (c.loop-part.invariant app is)
