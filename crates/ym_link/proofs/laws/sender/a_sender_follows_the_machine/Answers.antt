use Rattle.ym_link.proofs.SenderStanding.{starts, batch_are, follows, says, done_refines}
use Rattle.ym_link.proofs.laws.sender.a_sender_follows_the_machine.Goals as goal

pub returns-clause-starts : goal.returns-clause-starts
returns-clause-starts c = starts

pub returns-clause-batch : goal.returns-clause-batch
returns-clause-batch c = λ shape. batch_are shape (c.one_pieces.ensures.count shape)

pub returns-clause-follows : goal.returns-clause-follows
returns-clause-follows c = follows

pub returns-clause-says : goal.returns-clause-says
returns-clause-says c = says

pub returns-clause-done : goal.returns-clause-done
returns-clause-done c = done_refines
