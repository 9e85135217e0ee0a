-- What always holds of a receiver, whatever it has heard.
use Rattle.std.specs.Prelude.{ℕ, ◌+◌, ◌*◌, ◌≡◌, ◌≤◌, ◌<◌, true, if◌then◌else◌}
use Rattle.ym_header.specs.declared.limits.TheConstants.{MOST_LENGTH}
use Rattle.ym_machine.specs.declared.limits.TheConstants.{GIVE_UP, MOST_FILES}
use Rattle.ym_core.specs.declared.stage.Stage.{Stage}
use Rattle.ym_core.specs.declared.stage.Stage.TheVariants.{AwaitHeader, InFile}
use Rattle.ym_core.specs.declared.state.RecvState.TheVariants as state
use Rattle.ym_core.specs.Receiver.{Receiver}

-- no more bytes were taken than the header states
abbrev pub LengthFits : Stage → Type 0
LengthFits AwaitHeader = Unit {0}
LengthFits (InFile file) = (file.taken ≤ file.length) × (file.length ≤ MOST_LENGTH)

-- a block adds a byte, or is dropped and counted
abbrev pub BlocksFit : Stage → ℕ → Type 0
BlocksFit AwaitHeader retries = Unit {0}
BlocksFit (InFile file) retries =
    (file.taken < file.length → file.blocks ≤ file.taken) ×
    (file.blocks ≤ file.taken + retries + (if file.first_eot then GIVE_UP else 0)) ×
    (file.first_eot ≡ true → file.length ≤ file.taken) × (file.taken ≤ 1024 * file.blocks)

-- a batch has no more files than one may have
abbrev pub FilesFit : Stage → ℕ → Type 0
FilesFit AwaitHeader files = files ≤ MOST_FILES
FilesFit (InFile file) files = files < MOST_FILES

pub record IsCore (r : Receiver) : Type 0 where
  pub taken : LengthFits r.stage
  pub blocks : BlocksFit r.stage r.retries
  pub few : FilesFit r.stage r.files
  pub retries : r.retries ≤ GIVE_UP
  pub runs : r.state ≡ state.Running → r.retries < GIVE_UP
