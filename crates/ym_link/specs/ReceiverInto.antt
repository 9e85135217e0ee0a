-- A receiver with its sink: what hearing one delivery answers and leaves.
use Rattle.std.specs.Prelude.{ℕ, ◌*◌, ◌≡◌, ◌≤◌, ◌<◌, ◌⊎◌, [], length, None, Some, Bool, true, false, Result, Ok, Err, min}
use Rattle.std.specs.declared.alloc.AllocError.{AllocError}
use Rattle.ym_frame.specs.declared.control.Reply.{Reply}
use Rattle.ym_frame.specs.declared.control.Reply.TheVariants.{Cancel}
use Rattle.ym_header.specs.Header.{HeaderParts}
use Rattle.ym_header.specs.declared.fault.HeaderFault.{HeaderFault}
use Rattle.ym_header.specs.declared.limits.TheConstants.{MOST_LENGTH}
use Rattle.ym_header.specs.declared.reading.Zero.{Zero}
use Rattle.ym_file.specs.Counts.{Counted}
use Rattle.ym_file.specs.Kept.{Kept, begun, added, committed}
use Rattle.ym_machine.specs.declared.confirm.Confirm.{Confirm}
use Rattle.ym_core.specs.declared.delivery.Heard.{Heard}
use Rattle.ym_core.specs.declared.stage.Stage.{Stage}
use Rattle.ym_core.specs.declared.stage.Stage.TheVariants.{AwaitHeader, InFile}
use Rattle.ym_core.specs.declared.state.RecvState.TheVariants as state
use Rattle.ym_core.specs.Core.{BlocksFit, FilesFit}
use Rattle.ym_core.specs.Step.{Means}
use Rattle.ym_core.specs.Receiver.{Receiver, Call, No_call, Begins, Adds, Commits, Step, ends, hears, new_receiver}
use Rattle.ym_machine.specs.declared.limits.TheConstants.{GIVE_UP}

-- a receiver as contracts see it, with what its sink tells and how often that failed
pub record ReceiverParts : Type 0 where
  pub receiver : Receiver
  pub kept : Kept
  pub failures : ℕ

-- a new receiver whose sink is in memory
abbrev pub new_in_memory : Confirm → ReceiverParts
new_in_memory confirm = record {
  receiver = new_receiver confirm;
  kept = record {
    opened = None;
    taken = 0;
    headers = [];
    told = Some (record { open_bytes = []; files = [] });
  };
  failures = 0;
}

-- ---- What a step answers, and what it leaves

-- what the sink tells after a call
abbrev pub called : Call → Kept → Kept
called No_call kept = kept
called (Begins header) kept = begun header kept
called (Adds bytes) kept = added bytes kept
called Commits kept = committed kept

-- where the sink failed, nothing is taken
abbrev pub outcome : Bool → Receiver → Step → Step
outcome true r step = ends r state.SinkFailed Cancel
outcome false r step = step

-- a failure count tells whether the sink failed
abbrev pub Tells : Bool → ℕ → ℕ → Type 0
Tells true old new = Counted old new
Tells false old new = new ≡ old

-- a step was taken, with the truth whether the sink failed in it
pub record Takes (old : ReceiverParts) (step : Step) (failed : Bool) (reply : Reply)
    (new : ReceiverParts) : Type 0 where
  pub truth : Tells failed old.failures new.failures
  pub no_call : step.call ≡ No_call → failed ≡ false
  pub reply_is : reply ≡ (outcome failed old.receiver step).reply
  pub receiver_is : new.receiver ≡ (outcome failed old.receiver step).receiver
  pub kept_is : new.kept ≡ called (outcome failed old.receiver step).call old.kept

-- a call that makes a growth
abbrev pub Grows : Call → Type 0
Grows No_call = ⊥
Grows (Begins header) = Unit {0}
Grows (Adds bytes) = Unit {0}
Grows Commits = ⊥

-- want of memory is met by the sink, or by a header that is one too many, and nothing has changed
abbrev pub StepGives : ReceiverParts → Step → Result Reply AllocError → ReceiverParts → Type 0
StepGives old step (Ok reply) new = (failed : Bool) × Takes old step failed reply new
StepGives old step (Err error) new =
    (new ≡ old) × (Grows step.call ⊎ (step.receiver.state ≡ state.TooManyFiles))

-- what hearing a delivery answers and leaves
abbrev pub HearsGives : ReceiverParts → Heard → Result Reply AllocError → ReceiverParts → Type 0
HearsGives old h result new =
    (zero : Result Zero HeaderFault) × Means old.receiver h zero ×
    StepGives old (hears old.receiver zero h) result new

-- ---- What always holds

-- the bytes that the sink took since the file was begun are no more than the header states, and no
-- more than the blocks had
abbrev pub IsWithin : Stage → Kept → Type 0
IsWithin AwaitHeader kept = kept.opened ≡ None
IsWithin (InFile file) kept =
    (header : HeaderParts) × (kept.opened ≡ Some header) ×
    (kept.taken ≤ min header.length (1024 * file.blocks))

-- the sink's file is the receiver's
abbrev pub IsOpenFile : Stage → Kept → Type 0
IsOpenFile AwaitHeader kept = kept.opened ≡ None
IsOpenFile (InFile file) kept =
    (header : HeaderParts) × (kept.opened ≡ Some header) × (header.length ≡ file.length) ×
    (kept.taken ≡ file.taken) × (file.taken ≤ file.length) × (file.length ≤ MOST_LENGTH)

pub record IsReceiver (parts : ReceiverParts) : Type 0 where
  pub open_file : IsOpenFile parts.receiver.stage parts.kept
  pub blocks : BlocksFit parts.receiver.stage parts.receiver.retries
  pub files : parts.receiver.files ≡ length parts.kept.headers
  pub few : FilesFit parts.receiver.stage parts.receiver.files
  pub retries : parts.receiver.retries ≤ GIVE_UP
  pub runs : parts.receiver.state ≡ state.Running → parts.receiver.retries < GIVE_UP
