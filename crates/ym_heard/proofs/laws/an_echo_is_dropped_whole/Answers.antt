-- Byte by byte.
use Rattle.ym_heard.proofs.EchoLemmas.{echo-dropped}
use Rattle.ym_heard.proofs.laws.an_echo_is_dropped_whole.Goals as goal

pub returns : goal.returns
returns c = echo-dropped
