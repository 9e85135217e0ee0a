use Rattle.ym_machine.proofs.Positions.{frames-end, piece-at, eot-at, behind-at, length-frames}
use Rattle.ym_machine.proofs.laws.positions_of_a_batch.Goals as goal

pub returns-clause-piece : goal.returns-clause-piece
returns-clause-piece g c file files n less = piece-at file files n less

pub returns-clause-eot : goal.returns-clause-eot
returns-clause-eot g c file files = eot-at file files

pub returns-clause-behind : goal.returns-clause-behind
returns-clause-behind g c file files n = behind-at file files n

pub returns-clause-ends_once : goal.returns-clause-ends_once
returns-clause-ends_once g c files = frames-end files

pub returns-clause-size : goal.returns-clause-size
returns-clause-size g c file files = length-frames file files
