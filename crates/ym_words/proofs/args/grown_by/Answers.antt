use Rattle.std.proofs.Common.{refl}
use Rattle.ym_words.proofs.CommandLemmas.{with_all, with_next}
use Rattle.ym_words.proofs.args.grown_by.Goals as goal

pub loop-word-init : goal.loop-word-init
loop-word-init c = λ app is. record { now = app; has = is; same = refl }

pub loop-word-preserved : goal.loop-word-preserved
loop-word-preserved c = λ app is.
    with_next c.args.words.now c.loop-word.word-index _ c.loop-word-test.true
    c.in_ok-grown.ensures c.word_arg.ensures (c.loop-word.invariant app is)

pub returns : goal.returns
returns c = λ app is.
    with_all c.args.words.now c.loop-word.word-index c.loop-word-test.false
    (c.loop-word.invariant app is)
