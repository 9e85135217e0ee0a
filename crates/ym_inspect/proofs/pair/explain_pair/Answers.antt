use Rattle.std.proofs.Common.{◌∙◌}
use Rattle.ym_inspect.proofs.PairLemmas.{pair_whole}
use Rattle.ym_inspect.proofs.RecordLemmas.{also_ok}
use Rattle.ym_inspect.proofs.pair.explain_pair.Goals as goal

pub returns-clause-told : goal.returns-clause-told
returns-clause-told g c = also_ok c.end.result _ _ c.end.ensures.ends (λ verdict ends. λ sent answered t b.
    pair_whole sent answered _ _ _ _ _ _ _ _ verdict _ (c.new-there.ensures.left ∙ t) (c.new-back.ensures.left ∙ b) c.new-inspection.ensures
    c.in_ok-tell_both.ensures.reads c.in_ok-tell_both.ensures.there_done c.in_ok-tell_both.ensures.back_done ends)
