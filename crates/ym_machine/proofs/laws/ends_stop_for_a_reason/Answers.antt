use Rattle.std.specs.Prelude.{Some}
use Rattle.ym_machine.proofs.Endings.{half-there, start-endings, turn-endings, turns-endings}
use Rattle.ym_machine.proofs.MachineStates.{start-machine}
use Rattle.ym_machine.proofs.Positions.{frames-end}
use Rattle.ym_machine.proofs.laws.ends_stop_for_a_reason.Goals as goal
use Rattle.ym_machine.proofs.Names.{frames_of, SenderEnd, start}

pub returns-clause-half_there : goal.returns-clause-half_there
returns-clause-half_there g c files confirm sink whole st m ends = half-there (frames_of files) confirm sink whole st m ends

pub returns-clause-half_back : goal.returns-clause-half_back
returns-clause-half_back g c files confirm sink whole source came st m ends within =
    turn-endings (frames_of files) confirm (frames-end files) (record { whole_there = whole; back = Some came; sink_failed = sink; source_failed = source }) st m ends within

pub returns-clause-run : goal.returns-clause-run
returns-clause-run g c files confirm turns damage =
    turns-endings (frames_of files) confirm (frames-end files) turns start (start-machine (frames_of files) confirm (frames-end files) SenderEnd.Running (λ w. cc)) (start-endings (frames_of files)) damage

pub returns-clause-no_premise : goal.returns-clause-no_premise
returns-clause-no_premise g c files confirm = start-machine (frames_of files) confirm (frames-end files) SenderEnd.Cancelled (λ w. cc)
