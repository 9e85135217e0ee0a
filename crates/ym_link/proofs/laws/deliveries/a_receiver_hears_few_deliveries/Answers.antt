use Rattle.ym_link.proofs.ReceiverBound.{hears-le}
use Rattle.ym_link.proofs.ReceiverProgress.{progress-le, accepted-le}
use Rattle.ym_link.proofs.laws.deliveries.a_receiver_hears_few_deliveries.Goals as goal

pub returns : goal.returns
returns c = record { deliveries = hears-le; progress = progress-le; accepted = accepted-le }
