-- The line is that of the end that the sender has.
use Rattle.ym_sending.proofs.LineLemmas.{tells_sender}
use Rattle.ym_sending.proofs.sending.tell_sender.Goals as goal

pub returns : goal.returns
returns g c =
    let put = c.put_line-printed.ensures in
    tells_sender _ _ _ _ _ _ _ _ c.done-done.ensures c.state-state.ensures put.bytes put.ok put.failed c.answer_of.ensures
