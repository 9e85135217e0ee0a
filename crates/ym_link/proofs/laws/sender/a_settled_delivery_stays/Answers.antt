use Rattle.ym_link.proofs.Settled.{settled_stays, stays_settled}
use Rattle.ym_link.proofs.laws.sender.a_settled_delivery_stays.Goals as goal

pub returns : goal.returns
returns c = λ counts old bytes. (λ settled more. settled_stays counts old bytes more settled, λ stays. stays_settled counts old bytes stays)
