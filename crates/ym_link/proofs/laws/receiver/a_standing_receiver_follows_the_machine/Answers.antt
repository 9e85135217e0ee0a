use Rattle.ym_link.proofs.Follows.{ZeroLaws}
use Rattle.ym_link.proofs.Spots.{PositionLaws}
use Rattle.ym_link.proofs.ReceiverStanding.{follows, starts}
use Rattle.ym_link.proofs.laws.receiver.a_standing_receiver_follows_the_machine.Goals as goal

pub returns-clause-start : goal.returns-clause-start
returns-clause-start c = starts

pub returns-clause-follows : goal.returns-clause-follows
returns-clause-follows c = follows positions zeros
  where
    positions : PositionLaws
    positions = record {
      piece = c.positions_of_a_batch.ensures.piece;
      eot = c.positions_of_a_batch.ensures.eot;
      behind = c.positions_of_a_batch.ensures.behind;
      size = c.positions_of_a_batch.ensures.size;
      last = λ files. (c.positions_of_a_batch.ensures.ends_once files).last;
      inside = c.files_within_a_batch.ensures.inside;
      counted = c.files_within_a_batch.ensures.behind;
    }

    zeros : ZeroLaws
    zeros = record {
      one = c.a_block_zero_means_one_thing.ensures.one;
      header = c.a_block_zero_means_one_thing.ensures.header;
      end = c.a_block_zero_means_one_thing.ensures.end;
    }
