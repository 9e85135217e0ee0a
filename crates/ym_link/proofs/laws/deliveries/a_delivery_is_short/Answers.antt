use Rattle.ym_link.proofs.DeliverySize.{short, few-reads}
use Rattle.ym_link.proofs.laws.deliveries.a_delivery_is_short.Goals as goal

pub returns : goal.returns
returns c = record { bytes = short; reads = few-reads }
