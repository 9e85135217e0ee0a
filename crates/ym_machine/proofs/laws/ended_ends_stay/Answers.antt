use Rattle.ym_machine.proofs.Keeps.{there-stays, back-stays}
use Rattle.ym_machine.proofs.laws.ended_ends_stay.Goals as goal

pub returns-clause-receiver : goal.returns-clause-receiver
returns-clause-receiver g c frames confirm sink whole old ended = there-stays frames old confirm sink whole ended

pub returns-clause-sender : goal.returns-clause-sender
returns-clause-sender g c frames source came old ended = back-stays frames old source came ended
