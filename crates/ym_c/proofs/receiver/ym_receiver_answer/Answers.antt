use Rattle.std.proofs.Common.{arith, refl}
use Rattle.ym_c.proofs.receiver.ym_receiver_answer.Goals as goal

pub returns-clause-rubbish : goal.returns-clause-rubbish
returns-clause-rubbish c rubbish known heard =
    let is = c.step_of-core.ensures.rubbish rubbish in
    let silent = (rw is.1 at c.write_reply.ensures.there) (omega arith) in
    (silent.0, record { stand = rw is.0 at c.store.ensures; room = omega arith; bytes = refl }, refl, rw silent.0 at silent.1)
