-- What `loop` reads, prints and answers.
use Rattle.std.specs.Prelude.{◌≡◌, ◌⊎◌, ℕ, None, Result, Ok, Err}
use Rattle.ym_answer.specs.Desk.{Desk}
use Rattle.ym_looped.specs.DeskSession.{IsSession}
use Rattle.ym_answer.specs.Status.{IsHostFault}
use Rattle.ym_answer.specs.declared.command_fault.CommandFault.{CommandFault}

-- no connection was made, and nothing was read or printed
pub record IsNotLooped (old : Desk) (answer : Result ℕ CommandFault) (new : Desk) : Type 0 where
  pub why : CommandFault
  pub refused : IsHostFault why
  pub answer_is : answer ≡ Err why
  pub same : new ≡ old

abbrev pub LoopGives : Desk → Result ℕ CommandFault → Desk → Type 0
LoopGives old answer new =
    IsNotLooped old answer new
    ⊎ ((status : ℕ) × (answer ≡ Ok status) × IsSession None old status new)
