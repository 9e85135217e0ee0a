-- Where a receiver stands, as C keeps it.
use Rattle.std.specs.Prelude.{◌≡◌, refl, Result}
use Rattle.ym_core.specs.declared.stage.Stage.{Stage}
use Rattle.ym_core.specs.declared.stage.Stage.TheVariants.{AwaitHeader, InFile}
use Rattle.ym_core.specs.Receiver.{Receiver, No_call, hears, new_receiver}
use Rattle.ym_core.specs.declared.delivery.Heard.{Heard}
use Rattle.ym_core.specs.declared.state.RecvState.TheVariants.{SinkFailed}
use Rattle.ym_frame.specs.declared.control.Reply.TheVariants.{Silence}
use Rattle.ym_header.specs.declared.fault.HeaderFault.{HeaderFault}
use Rattle.ym_header.specs.declared.reading.Zero.{Zero}
use Rattle.ym_machine.specs.declared.confirm.Confirm.TheVariants.{Twice}
use Rattle.ym_core.specs.Core.{IsCore}
use Rattle.ym_c.specs.declared.stand.YmStand.{YmStand}
use Rattle.ym_c.specs.Codes.{state_code, fault_code, confirm_code, bool_code}

abbrev pub KeepsStage : YmStand → Stage → Type 0
KeepsStage kept AwaitHeader = kept.in_file ≡ 0
KeepsStage kept (InFile file) =
    (kept.in_file ≡ 1) × (kept.length ≡ file.length) × (kept.taken ≡ file.taken)
    × (kept.blocks ≡ file.blocks) × (kept.first_eot ≡ bool_code file.first_eot)

-- the numbers are those of this receiver, which is one that a receiver can come to be
pub record Keeps (kept : YmStand) (core : Receiver) : Type 0 where
  pub confirm : kept.confirm ≡ confirm_code core.confirm
  pub stage : KeepsStage kept core.stage
  pub files : kept.files ≡ core.files
  pub retries : kept.retries ≡ core.retries
  pub state : kept.state ≡ state_code core.state
  pub fault : kept.fault ≡ fault_code core.state
  pub stands : IsCore core

-- numbers that no receiver has
abbrev pub IsRubbish : YmStand → Type 0
IsRubbish kept = (core : Receiver) → ¬ Keeps kept core

-- what they count as: a receiver that has ended
abbrev pub ended_receiver : Receiver
ended_receiver = record (new_receiver Twice) { state = SinkFailed }

-- whatever such a one hears, it asks nothing, says nothing, and stands where it stood
stays_ended :
    (zero : Result Zero HeaderFault) (h : Heard) →
    hears ended_receiver zero h
    ≡ record { receiver = ended_receiver; reply = Silence; call = No_call }
stays_ended zero h = refl
