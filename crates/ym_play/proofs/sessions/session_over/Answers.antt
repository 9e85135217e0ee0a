-- A fault that was told, or a text that was printed.
use Rattle.std.proofs.Common.{refl, inl, inr, arith}
use Rattle.ym_play.proofs.SessionLemmas.{told_ends, told_failed}
use Rattle.ym_play.proofs.sessions.session_over.Goals as goal

pub returns-in-Err-clause-ends : goal.returns-in-Err-clause-ends
returns-in-Err-clause-ends g c = told_ends c.in-Err.fault _ _ _ _ c.in-Err.ensures.plays (refl, refl) c.tell.ensures

pub returns-in-Err-clause-failed : goal.returns-in-Err-clause-failed
returns-in-Err-clause-failed g c three = told_failed c.in-Err.fault _ _ _ _ c.in-Err.ensures.plays (refl, refl) c.tell.ensures three

-- A session that was played has status 0 or 1.
pub returns-in-Ok-put-clause-failed : goal.returns-in-Ok-put-clause-failed
returns-in-Ok-put-clause-failed g c three = let small = c.in-Ok.ensures.status in absurd (omega (arith, three, small))

pub returns-clause-failed : goal.returns-clause-failed
returns-clause-failed g c three = inr (inl c.in-Err-put.ensures.failed)
