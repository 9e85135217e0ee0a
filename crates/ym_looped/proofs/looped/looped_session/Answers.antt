-- A session over a carrier that is new.
use Rattle.std.proofs.Common.{refl, inr}
use Rattle.ym_looped.proofs.DeskLemmas.{session_of}
use Rattle.ym_looped.proofs.looped.looped_session.Goals as goal

pub returns : goal.returns
returns g c = inr (
  c.session_over.result,
  refl,
  session_of _ _ _ _ _ _ _ c.in_ok-carrier.ensures c.session_over.ensures.ends c.session_over.ensures.failed c.session_over.ensures.within c.session_over.ensures.status,
)
