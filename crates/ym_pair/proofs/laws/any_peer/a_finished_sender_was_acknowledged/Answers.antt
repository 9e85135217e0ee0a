use Rattle.ym_pair.proofs.Acknowledged.{all-finished, history-finished}
use Rattle.ym_pair.proofs.SenderLaws.{SenderLaws}
use Rattle.ym_pair.proofs.laws.any_peer.a_finished_sender_was_acknowledged.Goals as goal

pub returns : goal.returns
returns c =
    let kept : SenderLaws = record { goes = c.a_delivery_goes_one_position.ensures.goes; finishes = c.a_delivery_goes_one_position.ensures.finishes; counts = c.a_step_keeps_the_batch.ensures.counts; files = c.a_step_keeps_the_batch.ensures.files } in
    record { told = all-finished kept; history = history-finished kept }
