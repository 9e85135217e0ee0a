use Rattle.ym_inspect.proofs.PairLemmas.{back_on, pair_on, there_on}
use Rattle.ym_inspect.proofs.RecordLemmas.{on_ok_one}
use Rattle.ym_inspect.proofs.pair.tell_next.Goals as goal

pub returns-then-is_its_turn-clause-reads : goal.returns-then-is_its_turn-clause-reads
returns-then-is_its_turn-clause-reads g c = on_ok_one c.tell_either.result _ _ c.tell_either.ensures.reads (λ on.
    pair_on _ _ _ _ _ _ _ _ _ _ _ _ (back_on _ _ _ _ _ _ _ _ c.requires.back on.2) (there_on _ _ _ _ _ _ _ _ c.requires.there on.3))

pub returns-clause-reads : goal.returns-clause-reads
returns-clause-reads g c = on_ok_one c.tell_either-2.result _ _ c.tell_either-2.ensures.reads (λ on.
    pair_on _ _ _ _ _ _ _ _ _ _ _ _ (there_on _ _ _ _ _ _ _ _ c.requires.there on.2) (back_on _ _ _ _ _ _ _ _ c.requires.back on.3))
