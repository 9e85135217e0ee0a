use Rattle.ym_delay.proofs.Again.{says-again}
use Rattle.ym_delay.proofs.laws.a_sender_says_again.Goals as goal

pub returns : goal.returns
returns c s new deliveries progress hears well = says-again s deliveries progress new hears well
