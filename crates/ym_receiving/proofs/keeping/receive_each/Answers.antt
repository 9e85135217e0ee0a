-- One more session, or why there is none.
use Rattle.std.proofs.Common.{◌∙◌, ◌+◌, ap, refl, rules}
use Rattle.ym_receiving.specs.Keeping.{no_session, one_more}
use Rattle.ym_receiving.proofs.KeepLemmas.{none_comes, cannot_tell, are_all}
use Rattle.ym_receiving.proofs.keeping.receive_each.Goals as goal

pub loop-session-init : goal.loop-session-init
loop-session-init g c = record { taken = search rules; failed = refl; sessions = no_session _ _ _ }

pub returns-in_err-stream : goal.returns-in_err-stream
returns-in_err-stream g c =
    let inv = c.loop-session.invariant in
    let gone = c.in_err-stream.ensures in
    none_comes _ _ _ _ _ _ c.before.in_err-stream.field-0.0 _ _ _ _ _ c.from_residual.ensures.1 (gone.failed.0 ∙ inv.taken) (rw inv.failed at gone.failed.1) gone.refused gone.lasts inv.sessions

pub returns-in_err-hold_session : goal.returns-in_err-hold_session
returns-in_err-hold_session g c =
    let inv = c.loop-session.invariant in
    let came = c.in_ok-stream.ensures.ok in
    cannot_tell _ _ _ _ _ _ _ _ _ _ _ _ _ _ c.from_residual-in_err-hold_session.ensures.1 (came.0 ∙ ap (λ n. n + 1) inv.taken) inv.sessions
    (rw c.in_err-hold_session.was at c.hold_session.ensures)

pub loop-session-preserved : goal.loop-session-preserved
loop-session-preserved g c =
    let inv = c.loop-session.invariant in
    let came = c.in_ok-stream.ensures.ok in
    record {
      taken = came.0 ∙ ap (λ n. n + 1) inv.taken;
      failed = came.1 ∙ inv.failed;
      sessions = one_more _ _ _ _ _ _ _ _ inv.sessions (rw c.in_ok-hold_session.was at c.hold_session.ensures);
    }

pub returns : goal.returns
returns g c =
    let inv = c.loop-session.invariant in
    are_all _ _ _ _ _ _ _ _ _ _ inv.taken c.loop-session-test.false inv.sessions
