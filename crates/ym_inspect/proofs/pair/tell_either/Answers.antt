use Rattle.ym_inspect.proofs.PairLemmas.{way_none}
use Rattle.ym_inspect.proofs.RecordLemmas.{on_ok_one}
use Rattle.ym_inspect.proofs.pair.tell_either.Goals as goal

pub returns-then-branch-clause-reads : goal.returns-then-branch-clause-reads
returns-then-branch-clause-reads g c = (c.tell.new.inspection, g.O.Output.contents c.tell.new.out, c.in_ok-tell.ensures.reads, way_none _ _ _ _)

pub returns-clause-reads : goal.returns-clause-reads
returns-clause-reads g c = on_ok_one c.tell-2.result _ _ c.tell-2.ensures.reads (λ on.
    (c.tell.new.inspection, g.O.Output.contents c.tell.new.out, c.in_ok-tell.ensures.reads, on))
