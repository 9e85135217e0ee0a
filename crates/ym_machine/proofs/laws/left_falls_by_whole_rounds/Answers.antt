use Rattle.ym_machine.proofs.Positions.{frames-end}
use Rattle.ym_machine.proofs.Remaining.{left-start}
use Rattle.ym_machine.proofs.Rounds.{turn-left, turn-lowered}
use Rattle.ym_machine.proofs.laws.left_falls_by_whole_rounds.Goals as goal
use Rattle.ym_machine.proofs.Names.{frames_of}

pub returns-clause-never_raised : goal.returns-clause-never_raised
returns-clause-never_raised g c files confirm turn st m going after damage = turn-left (frames_of files) confirm (frames-end files) turn st m going damage

pub returns-clause-lowered : goal.returns-clause-lowered
returns-clause-lowered g c files confirm turn st m going after whole some = turn-lowered (frames_of files) confirm (frames-end files) turn st m going after whole some

pub returns-clause-at_start : goal.returns-clause-at_start
returns-clause-at_start g c files confirm = left-start confirm files
