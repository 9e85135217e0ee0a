use Rattle.std.proofs.Common.{◌∙◌, sym}
use Rattle.ym_inspect.proofs.PcapLemmas.{head_cut, head_wrong}
use Rattle.ym_inspect.proofs.capture.form_at.Goals as goal

pub returns-then-prefix-lt-HEAD-clause-position : goal.returns-then-prefix-lt-HEAD-clause-position
returns-then-prefix-lt-HEAD-clause-position c = λ turned text left b. head_cut turned _ _ _ text b.first c.if-prefix-lt-HEAD.true

pub returns-in-Err-clause-position : goal.returns-in-Err-clause-position
returns-in-Err-clause-position c = λ turned text left b.
    head_wrong turned _ _ _ text left _ b c.if-prefix-lt-HEAD.false (sym c.form_of.ensures ∙ c.in-Err.is)
