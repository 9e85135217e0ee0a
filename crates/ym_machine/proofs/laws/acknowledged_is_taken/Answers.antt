use Rattle.std.specs.Prelude.{refl, ◌∷◌}
use Rattle.ym_frame.specs.declared.control.Control.TheVariants as control
use Rattle.ym_machine.proofs.MachineStates.{acknowledged-taken}
use Rattle.ym_machine.proofs.Positions.{frames-end}
use Rattle.ym_machine.proofs.laws.acknowledged_is_taken.Goals as goal
use Rattle.ym_machine.proofs.Names.{frames_of}

pub returns : goal.returns
returns g c = record { taken = λ files confirm sink whole came old m within running. acknowledged-taken (frames_of files) confirm (frames-end files) sink whole (control.Ack ∷ came) old m within came refl running }
