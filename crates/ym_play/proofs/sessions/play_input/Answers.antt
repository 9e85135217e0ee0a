-- What was taken is the text, or enough of it to refuse it.
use Rattle.std.proofs.Common.{sym, ◌∙◌}
use Rattle.ym_play.proofs.SessionLemmas.{taken_refused}
use Rattle.ym_play.proofs.sessions.play_input.Goals as goal

pub returns-in-Ok-clause-plays : goal.returns-in-Ok-clause-plays
returns-in-Ok-clause-plays g c old new a b d e f h =
    let plays = rw (c.in-Ok.is, c.deref.ensures.value) at c.play_script.ensures.gives in
    (h ∙ c.in_ok-script.ensures.calm (λ e. cc) ∙ sym d, (c.in_ok-script.script.items, c.in_ok-script.ensures.taken, rw (a, b, e, f) plays))

pub returns-clause-plays : goal.returns-clause-plays
returns-clause-plays g c old new a b d e f h =
    let plays = rw (c.in-Err.is, c.deref.ensures.value) at c.play_script.ensures.gives in
    taken_refused c.in-Err.fault _ old new (h ∙ c.in_ok-script.ensures.calm (λ e. cc) ∙ sym d)
    (c.in_ok-script.script.items, c.in_ok-script.ensures.taken, rw (a, b, e, f) plays)
