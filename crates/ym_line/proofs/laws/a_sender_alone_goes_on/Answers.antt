use Rattle.std.proofs.Common.{[], false}
use Rattle.ym_line.proofs.Alone.{alone-stands, behind-fine, behind-stands}
use Rattle.ym_line.proofs.Names.{frames_of}
use Rattle.ym_machine.specs.Machine.{receiver_step}
use Rattle.ym_line.proofs.laws.a_sender_alone_goes_on.Goals as goal

pub returns-clause-stands : goal.returns-clause-stands
returns-clause-stands c confirm files st old new failed machine told refines heard =
    alone-stands confirm files st failed machine (c.halves_keep_the_other_end.ensures.back_keeps (frames_of files) failed [] st)
    (λ old new bytes refines remnant step. c.a_sender_follows_the_machine.ensures.follows files st old new bytes failed refines remnant step)
    old new told refines heard

pub returns-clause-fine : goal.returns-clause-fine
returns-clause-fine c confirm files before next st failed was fine =
    let keeps = c.halves_keep_the_other_end.ensures in
    let frames = frames_of files in
    behind-fine confirm frames failed before next st (behind-stands confirm frames failed st was.machine) (keeps.back_keeps frames failed [] st)
    (keeps.there_keeps frames confirm false false st) (keeps.back_keeps frames failed [] (receiver_step frames confirm false false st).0) was fine
