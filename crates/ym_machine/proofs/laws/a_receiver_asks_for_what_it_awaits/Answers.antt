use Rattle.ym_machine.proofs.AsksStart.{there-asks, there-speaks}
use Rattle.ym_machine.proofs.laws.a_receiver_asks_for_what_it_awaits.Goals as goal
use Rattle.ym_machine.proofs.Names.{frames_of}

pub returns-clause-start : goal.returns-clause-start
returns-clause-start g c files confirm sink whole st m = there-asks (frames_of files) confirm sink whole st m.counters

pub returns-clause-speaks : goal.returns-clause-speaks
returns-clause-speaks g c frames confirm sink whole st running = there-speaks frames confirm sink whole st running
