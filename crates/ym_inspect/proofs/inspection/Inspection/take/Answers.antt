use Rattle.ym_inspect.proofs.RecordLemmas.{on_ok_one}
use Rattle.ym_inspect.proofs.TellLemmas.{took}
use Rattle.ym_inspect.proofs.inspection.Inspection.take.Goals as goal

pub returns-clause-tells : goal.returns-clause-tells
returns-clause-tells g c = on_ok_one c.tell_way.result _ _ c.tell_way.ensures.tells (λ last.
    took _ _ _ _ _ _ _ _ _ _ _ c.in_ok-settle.ensures.tells c.pass.ensures c.in_ok-hold.ensures last.tells)
