-- What the program does for its words.
use Rattle.std.specs.Prelude.{◌≡◌, ◌≢◌, ◌⊎◌, ℕ, Bool, true, false, List, [], Option, Some, None, Result, Ok, Err}
use Rattle.clap.specs.Words.{Text, Kinds, IsAmong, fault_of, takes, subcommand_of}
use Rattle.clap.specs.declared.error.kind.ErrorKind.TheVariants.{DisplayVersion}
use Rattle.ym_file.specs.declared.plan.Shape.{Shape}
use Rattle.ym_file.specs.declared.plan.Shape.TheVariants.{Mixed, Short}
use Rattle.ym_machine.specs.declared.confirm.Confirm.{Confirm}
use Rattle.ym_machine.specs.declared.confirm.Confirm.TheVariants.{Twice, Once}
use Rattle.ym_folder.specs.declared.dir_sink.Durability.{Durability}
use Rattle.ym_folder.specs.declared.dir_sink.Durability.TheVariants.{Disk, System}
use Rattle.ym_folder.specs.declared.dir_sink.Leftover.{Leftover}
use Rattle.ym_folder.specs.declared.dir_sink.Leftover.TheVariants.{Refused, Discarded}
use Rattle.ym_line.specs.declared.delivery.Handed.{Handed}
use Rattle.ym_play.specs.Session.{SessionGives}
use Rattle.ym_words.specs.CommandLine.{the_app}
use Rattle.ym_words.specs.Job.{Asked, asked}
use Rattle.ym_words.specs.Job as job
use Rattle.ym_answer.specs.Desk.{Desk}
use Rattle.ym_looped.specs.DeskSession.{IsSession}
use Rattle.ym_receiving.specs.Keeping.{ReceivesSo}
use Rattle.ym_looped.specs.Looped.{LoopGives}
use Rattle.ym_answer.specs.Page.{TellsFault}
use Rattle.ym_receiving.specs.Receiving.{ReceiveGives}
use Rattle.ym_sending.specs.Sending.{SendGives}
use Rattle.ym_answer.specs.declared.command_fault.CommandFault.{CommandFault}
use Rattle.ym_answer.specs.declared.command_fault.CommandFault.TheVariants as fault
use Rattle.ym_explained.specs.Explaining.{DrawsGives}
use Rattle.ym_judged.specs.Judged.{Gives, JudgeGives}

-- the command line takes these words, and they ask for this job, or for none
abbrev pub AsksFor : List Text → Option Asked → Type 0
AsksFor words job = (takes the_app words ≡ true) × (asked (subcommand_of the_app words) ≡ job)

-- the session of the script `text`, carried in memory, ends so, where out held the bytes before,
-- and err those of wrong
abbrev pub IsPlayed : List ℕ → List ℕ → List ℕ → ℕ → Option (List ℕ) → Option (List ℕ) → Type 0
IsPlayed text before wrong status out err =
    (handed : Option (List Handed)) × (failures : ℕ)
    × SessionGives text before wrong (Some []) 0 status out err handed failures

-- no byte of the script was read, and nothing was written to err
pub record OnlyPrints (old new : Desk) : Type 0 where
  pub text : new.text ≡ old.text
  pub reads : new.reads_failed ≡ old.reads_failed
  pub err : new.err ≡ old.err

abbrev pub shape_of : Bool → Shape
shape_of true = Short
shape_of false = Mixed

abbrev pub confirm_of : Bool → Confirm
confirm_of true = Once
confirm_of false = Twice

abbrev pub durability_of : Bool → Durability
durability_of true = System
durability_of false = Disk

abbrev pub leftover_of : Bool → Leftover
leftover_of true = Discarded
leftover_of false = Refused

-- no byte of the script was read
pub record ReadsNothing (old new : Desk) : Type 0 where
  pub text : new.text ≡ old.text
  pub reads : new.reads_failed ≡ old.reads_failed

-- no byte of the script was read, and nothing was written to out
pub record OnlyReports (old new : Desk) : Type 0 where
  pub text : new.text ≡ old.text
  pub reads : new.reads_failed ≡ old.reads_failed
  pub out : new.out ≡ old.out

-- A job over a serial line prints to out where the line has a path, and else, where standard output
-- is the line, to err.
abbrev pub PrintsBeside : Option Text → Gives → Desk → Result ℕ CommandFault → Desk → Type 0
PrintsBeside (Some path) gives old answer new = gives old.out answer new.out × OnlyPrints old new
PrintsBeside None gives old answer new = gives old.err answer new.err × OnlyReports old new

-- What a job answers, and what it leaves: a status, or a fault that is still to be told. A session
-- tells its own.
abbrev pub JobGives : Asked → Desk → Result ℕ CommandFault → Desk → Type 0
JobGives job.Play old answer new =
    (status : ℕ) × (answer ≡ Ok status) × IsSession (Some []) old status new
JobGives (job.Loop port tell) old answer new = LoopGives old answer new
JobGives (job.Send port short files to tell) old answer new =
    SendGives (shape_of short) files old.out answer new.out × OnlyPrints old new
JobGives (job.Receive port flags dir to tell) old answer new =
    ReceivesSo flags.keep (confirm_of flags.store.single) old.out old.err answer new.out new.err
    × ReadsNothing old new
JobGives (job.SendLine line short files to tell) old answer new =
    PrintsBeside line (SendGives (shape_of short) files) old answer new
JobGives (job.ReceiveLine line flags dir to tell) old answer new =
    PrintsBeside line (ReceiveGives (confirm_of flags.single)) old answer new
JobGives (job.Explain there back both turned chart) old answer new =
    DrawsGives chart there back both turned old answer new
JobGives (job.Judge peer port line only stored list json) old answer new =
    JudgeGives peer port line only list json old.out answer new.out × ReadsNothing old new

-- the line of a fault was written to err, and nothing else was done
pub record OnlyTells (why : CommandFault) (old : Desk) (status : ℕ) (new : Desk) : Type 0 where
  pub tells : TellsFault why old.err status new.err
  pub text : new.text ≡ old.text
  pub reads : new.reads_failed ≡ old.reads_failed
  pub out : new.out ≡ old.out

-- the status is the answer, or the line of the fault is written
abbrev pub Answers : Result ℕ CommandFault → Desk → ℕ → Desk → Type 0
Answers (Ok answer) old status new = (status ≡ answer) × (new ≡ old)
Answers (Err why) old status new = OnlyTells why old status new

-- a command does a job: what it answers becomes the status, or is told
pub record Does (asked : Asked) (old : Desk) (status : ℕ) (new : Desk) : Type 0 where
  pub answer : Result ℕ CommandFault
  pub between : Desk
  pub gives : JobGives asked old answer between
  pub answers : Answers answer between status new

-- the version was written to out and nothing else was done, or out failed
pub record TellsVersion (old : Desk) (status : ℕ) (new : Desk) : Type 0 where
  pub told : ((status ≡ 0) × (new.out.failed ≡ old.out.failed)) ⊎ (status ≡ 3)
  pub text : new.text ≡ old.text
  pub reads : new.reads_failed ≡ old.reads_failed
  pub err : new.err ≡ old.err

-- the text of refused words was written to err and nothing else was done, or err failed
pub record IsRefused (old : Desk) (status : ℕ) (new : Desk) : Type 0 where
  pub told : ((status ≡ 2) × (new.err.failed ≡ old.err.failed)) ⊎ (status ≡ 3)
  pub text : new.text ≡ old.text
  pub reads : new.reads_failed ≡ old.reads_failed
  pub out : new.out ≡ old.out

-- words that are no job: they are refused, unless they ask for the version
abbrev pub IsNoJob : Kinds → Desk → ℕ → Desk → Type 0
IsNoJob kinds old status new =
    IsRefused old status new ⊎ (IsAmong DisplayVersion kinds × TellsVersion old status new)

-- ---- The command

-- the job that the words ask for is done, unless there was no memory to read the words
abbrev pub DoesAsked : List Text → Desk → ℕ → Desk → Type 0
DoesAsked words old status new =
    (job : Asked) → AsksFor words (Some job)
    → Does job old status new ⊎ OnlyTells fault.Memory old status new

-- the port of the words is none, with the same exception
abbrev pub RefusesPort : List Text → Desk → ℕ → Desk → Type 0
RefusesPort words old status new =
    AsksFor words None
    → OnlyTells fault.Port old status new ⊎ OnlyTells fault.Memory old status new

-- clap's rule finds a fault in the words; one of help is such a fault too
abbrev pub RefusesWords : List Text → Desk → ℕ → Desk → Type 0
RefusesWords words old status new =
    fault_of the_app words ≢ [] → IsNoJob (fault_of the_app words) old status new
