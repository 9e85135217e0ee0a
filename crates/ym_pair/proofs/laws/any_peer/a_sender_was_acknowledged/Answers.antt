use Rattle.ym_pair.proofs.Acknowledged.{all-before, all-done, history-done}
use Rattle.ym_pair.proofs.SenderLaws.{SenderLaws}
use Rattle.ym_pair.proofs.laws.any_peer.a_sender_was_acknowledged.Goals as goal

pub returns : goal.returns
returns c =
    let kept : SenderLaws = record { goes = c.a_delivery_goes_one_position.ensures.goes; finishes = c.a_delivery_goes_one_position.ensures.finishes; counts = c.a_step_keeps_the_batch.ensures.counts; files = c.a_step_keeps_the_batch.ensures.files } in
    record { done = all-done kept; position = all-before kept; history = history-done kept }
