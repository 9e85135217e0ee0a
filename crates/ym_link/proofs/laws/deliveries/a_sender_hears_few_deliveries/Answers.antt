use Rattle.ym_link.proofs.SenderBound.{hears-le, progress-le, all-frames}
use Rattle.ym_link.proofs.laws.deliveries.a_sender_hears_few_deliveries.Goals as goal

pub returns : goal.returns
returns c = record { deliveries = hears-le; progress = progress-le; batch = all-frames }
