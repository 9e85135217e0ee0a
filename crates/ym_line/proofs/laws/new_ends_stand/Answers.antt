use Rattle.ym_line.proofs.Names.{batch_of}
use Rattle.ym_line.proofs.Starts.{batch-is, new-refines}
use Rattle.ym_line.proofs.laws.new_ends_stand.Goals as goal

pub returns : goal.returns
returns c pair new files =
    let confirm = pair.receiver.receiver.confirm in
    let shape = pair.sender.shape in
    let sources = pair.sender.files in
    let batch = batch_of shape sources in
    new-refines pair new (record {
      machine = c.halves_keep_machine_states.ensures.at_start batch confirm;
      batch = batch-is c.a_planned_file_is_sent.ensures.sent c.one_pieces.ensures.computed shape sources files new.tells new.few;
      told = new.tells;
      sender = c.a_sender_follows_the_machine.ensures.starts shape sources batch pair.sender.frame (c.a_sender_follows_the_machine.ensures.batch shape sources files);
      receiver = c.a_standing_receiver_follows_the_machine.ensures.start confirm batch pair.receiver.kept new.sink;
    })
