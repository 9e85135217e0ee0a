use Rattle.ym_link.proofs.Moving.{step-moves, step-finishes}
use Rattle.ym_link.proofs.laws.sender.a_delivery_goes_one_position.Goals as goal

pub returns : goal.returns
returns c = record { goes = step-moves; finishes = step-finishes }
