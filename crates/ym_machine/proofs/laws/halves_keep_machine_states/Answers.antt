use Rattle.std.specs.Prelude.{Some}
use Rattle.ym_machine.proofs.MachineStates.{start-machine, there-machine, turn-machine, turns-machine}
use Rattle.ym_machine.proofs.Positions.{frames-end}
use Rattle.ym_machine.proofs.laws.halves_keep_machine_states.Goals as goal
use Rattle.ym_machine.proofs.Names.{frames_of, SenderEnd}

pub returns-clause-at_start : goal.returns-clause-at_start
returns-clause-at_start g c files confirm = start-machine (frames_of files) confirm (frames-end files) SenderEnd.Running (λ w. cc)

pub returns-clause-half_there : goal.returns-clause-half_there
returns-clause-half_there g c files confirm sink whole st m = there-machine (frames_of files) confirm (frames-end files) sink whole st m

pub returns-clause-half_back : goal.returns-clause-half_back
returns-clause-half_back g c files confirm sink whole source came st m within =
    turn-machine (frames_of files) confirm (frames-end files) (record { whole_there = whole; back = Some came; sink_failed = sink; source_failed = source }) st m within

pub returns-clause-run : goal.returns-clause-run
returns-clause-run g c files confirm turns st m damage = turns-machine (frames_of files) confirm (frames-end files) turns st m damage
