-- A session over known bytes.
use Rattle.ym_play.proofs.SessionLemmas.{known_ends}
use Rattle.ym_play.proofs.laws.a_known_script_is_played.Goals as goal

pub returns : goal.returns
returns g text before wrong remaining old new status r w e ends ne = known_ends ends.0 text before wrong remaining old new status r w e ends.1 ends.2 ne
