-- What a step asks of the host, and what the host knows behind it.
use Rattle.std.specs.Prelude.{ℕ, ◌≡◌, ◌≢◌, ◌<◌, ◌≤◌, ◌-◌, ◌+◌, List, length, Option, None, Some, Result, Ok, Err}
use Rattle.ym_frame.specs.Block.{BlockParts}
use Rattle.ym_frame.specs.declared.control.Reply.TheVariants.{Ack}
use Rattle.ym_frame.specs.declared.frame.Item.TheVariants as item
use Rattle.ym_header.specs.Header.{length_limit}
use Rattle.ym_header.specs.HeaderReading.{Reads, IsFault}
use Rattle.ym_header.specs.declared.fault.HeaderFault.{HeaderFault}
use Rattle.ym_header.specs.declared.reading.Zero.{Zero}
use Rattle.ym_core.specs.declared.delivery.Heard.{Heard}
use Rattle.ym_core.specs.declared.delivery.Heard.TheVariants as heard
use Rattle.ym_core.specs.declared.stage.OpenFile.{OpenFile}
use Rattle.ym_core.specs.declared.stage.Stage.{Stage}
use Rattle.ym_core.specs.declared.stage.Stage.TheVariants.{AwaitHeader, InFile}
use Rattle.ym_core.specs.declared.state.RecvState.TheVariants as state
use Rattle.ym_core.specs.declared.ask.Ask.{Ask}
use Rattle.ym_core.specs.declared.ask.Ask.TheVariants.{Nothing, Begin, Add, Commit}
use Rattle.ym_core.specs.declared.ask.Step.{Step}
use Rattle.ym_core.specs.Receiver as table

-- what a body stands for: the end, a header or a fault, and one of them alone
abbrev pub ReadsAs : List ℕ → Result Zero HeaderFault → Type 0
ReadsAs body (Ok zero) = Reads length_limit body zero
ReadsAs body (Err fault) = IsFault length_limit body fault

-- a running receiver that awaits a header reads the body of a block 0
abbrev pub Means : table.Receiver → Heard → Result Zero HeaderFault → Type 0
Means r h zero =
    (block : BlockParts) → r.state ≡ state.Running → r.stage ≡ AwaitHeader →
    h ≡ heard.Item (item.Block block) → block.number ≡ 0 → ReadsAs block.body zero

-- the table's call
abbrev pub call_of : Ask → table.Call
call_of Nothing = table.No_call
call_of (Begin header) = table.Begins header
call_of (Add bytes) = table.Adds bytes.now
call_of Commit = table.Commits

pub record IsStep (step : Step) (row : table.Step) : Type 0 where
  pub core : step.core ≡ row.receiver
  pub reply : step.reply ≡ row.reply
  pub call : call_of step.ask ≡ row.call

-- of the open file, its length and the bytes taken
abbrev pub open_in : Stage → Option (ℕ × ℕ)
open_in AwaitHeader = None
open_in (InFile file) = Some (file.length, file.taken)

-- what is asked fits the open file, and makes of it what a host that did it knows
abbrev pub FileMoves : Ask → Option (ℕ × ℕ) → Option (ℕ × ℕ) → Type 0
FileMoves Nothing old new = new ≡ old
FileMoves (Begin header) old new = (old ≡ None) × (new ≡ Some (header.length, 0))
FileMoves (Add bytes) old new =
    (file : ℕ × ℕ) × (old ≡ Some file) × (0 < length bytes.now) ×
    (length bytes.now ≤ file.0 - file.1) × (new ≡ Some (file.0, file.1 + length bytes.now))
FileMoves Commit old new = (file : ℕ × ℕ) × (old ≡ Some file) × (file.0 ≤ file.1) × (new ≡ None)

abbrev pub files_behind : Ask → ℕ → ℕ
files_behind Commit files = files + 1
files_behind ask files = files

pub record Moves (r : table.Receiver) (step : Step) : Type 0 where
  pub file : FileMoves step.ask (open_in r.stage) (open_in step.core.stage)
  pub files : step.core.files ≡ files_behind step.ask r.files

-- the step of the table
abbrev pub Hears : table.Receiver → Heard → Step → Type 0
Hears r h step =
    (zero : Result Zero HeaderFault) × Means r h zero × IsStep step (table.hears r zero h)

-- ---- The next block, in place

-- the open file with one more block, of which so many bytes were added
abbrev pub stage_with : Stage → ℕ → Stage
stage_with AwaitHeader count = AwaitHeader
stage_with (InFile file) count =
    InFile (record file { taken = file.taken + count; blocks = file.blocks + 1 })

abbrev pub with_added : table.Receiver → ℕ → table.Receiver
with_added r count = record r { stage = stage_with r.stage count; retries = 0 }

-- the row that adds these bytes
abbrev pub adding : table.Receiver → List ℕ → table.Step
adding r bytes =
    record { receiver = with_added r (length bytes); reply = Ack; call = table.Adds bytes }

-- so many bytes may be added as those of one block
pub record MayAdd (r : table.Receiver) (count : ℕ) : Type 0 where
  pub file : OpenFile
  pub in_file : r.stage ≡ InFile file
  pub some : 0 < count
  pub fits : count ≤ file.length - file.taken
  pub short : count ≤ 1024

-- what is heard is the next block of the open file, and these are the bytes that are added
pub record IsNext (r : table.Receiver) (h : Heard) (bytes : List ℕ) : Type 0 where
  pub runs : r.state ≡ state.Running
  pub may : MayAdd r (length bytes)
  pub step : (zero : Result Zero HeaderFault) → table.hears r zero h ≡ adding r bytes

-- what is heard adds nothing
abbrev pub AddsNone : table.Receiver → Heard → Type 0
AddsNone r h =
    (zero : Result Zero HeaderFault) (bytes : List ℕ) →
    (table.hears r zero h).call ≢ table.Adds bytes
