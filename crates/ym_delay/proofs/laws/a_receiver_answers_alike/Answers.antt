use Rattle.ym_delay.proofs.Alike.{alike}
use Rattle.ym_delay.proofs.laws.a_receiver_answers_alike.Goals as goal

pub returns : goal.returns
returns c r end deliveries progress hears some = (alike r deliveries progress end hears some).0
