use Rattle.ym_machine.specs.Frames.{frames_of}
use Rattle.ym_machine.proofs.Positions.{frames-end}
use Rattle.ym_machine.proofs.ShortBursts.{got-all, one-fine, start-fine}
use Rattle.ym_machine.proofs.laws.short_bursts_are_survived.Goals as goal

pub returns-clause-starts : goal.returns-clause-starts
returns-clause-starts g c files confirm = start-fine (frames_of files) confirm (frames-end files)

pub returns-clause-goes_on : goal.returns-clause-goes_on
returns-clause-goes_on g c files confirm turn turns bad st fine short sink source damage =
    one-fine (frames_of files) confirm (frames-end files) turn turns bad st fine short sink source damage

pub returns-clause-finishes : goal.returns-clause-finishes
returns-clause-finishes g c files confirm st machine done = got-all confirm (frames_of files) st machine done
