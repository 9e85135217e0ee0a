use Rattle.ym_link.proofs.Planned.{planned, planned-bytes}
use Rattle.ym_link.proofs.laws.receiver.a_planned_file_is_sent.Goals as goal

pub returns-clause-sent : goal.returns-clause-sent
returns-clause-sent c = planned c.covered_by_the_last_piece.ensures.before c.covered_by_the_last_piece.ensures.after c.pieces_give_the_file.ensures

pub returns-clause-bytes : goal.returns-clause-bytes
returns-clause-bytes c = planned-bytes c.covered_by_the_last_piece.ensures.before c.covered_by_the_last_piece.ensures.after c.pieces_give_the_file.ensures
