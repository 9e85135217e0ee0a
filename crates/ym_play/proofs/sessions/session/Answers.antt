-- A session over streams whose failures stand at the greatest count.
use Rattle.ym_play.proofs.SessionLemmas.{known_ends}
use Rattle.ym_play.proofs.sessions.session.Goals as goal

pub returns-clause-gives : goal.returns-clause-gives
returns-clause-gives g c text before wrong r w e ne =
    let ends = c.session_over.ensures.ends in
    known_ends ends.0 text before wrong _ _ _ _ r w e ends.1 ends.2 ne
