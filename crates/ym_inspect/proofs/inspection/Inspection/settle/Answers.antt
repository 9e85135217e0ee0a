use Rattle.ym_inspect.proofs.TellLemmas.{tells_on}
use Rattle.ym_inspect.proofs.inspection.Inspection.settle.Goals as goal

pub returns-clause-tells : goal.returns-clause-tells
returns-clause-tells g c =
    tells_on _ _ _ _ _ _ _ _
    (tells_on _ _ _ _ _ _ _ _ c.in_ok-tell_way.ensures.tells.tells c.in_ok-tell_way-2.ensures.tells.tells)
    c.in_ok-tell_way-3.ensures.tells.tells
