-- What playing a script gives: the text of the run of what it stands for, and whether both ends
-- finished.
use Rattle.std.specs.Prelude.{◌≡◌, ◌≢◌, ℕ, List, [], Option, None, Result, Ok, Err, string_bytes}
use Rattle.ym_file.specs.Counts.{new_tally}
use Rattle.ym_file.specs.MemSink.{kept_of}
use Rattle.ym_machine.specs.Machine.{start}
use Rattle.ym_core.specs.Receiver.{new_receiver}
use Rattle.ym_core.specs.Standing.{new_standing}
use Rattle.ym_file.specs.SourceFile.{counts_of}
use Rattle.ym_core.specs.declared.state.RecvState.{RecvState}
use Rattle.ym_core.specs.declared.state.RecvState.TheVariants as recv
use Rattle.ym_core.specs.declared.state.SendState.{SendState}
use Rattle.ym_core.specs.declared.state.SendState.TheVariants as send
use Rattle.ym_link.specs.SenderRefines.{Batch, batch_of}
use Rattle.ym_line.specs.Promise.{CommitsAPrefix, ReportsCommitted}
use Rattle.ym_line.specs.Rounds.{Pair}
use Rattle.ym_line.specs.TraceText.{trace_text}
use Rattle.ym_line.specs.Turns.{RunsAsMachine, StopsAsMachine}
use Rattle.ym_line.specs.declared.delivery.Handed.{Handed}
use Rattle.ym_line.specs.declared.fault.LineFault.{LineFault}
use Rattle.ym_line.specs.declared.fault.LineFault.TheVariants as round
use Rattle.ym_line.specs.declared.trace.Trace.{Trace}
use Rattle.ym_play.specs.Script.{ScriptParts, script_of}
use Rattle.ym_play.specs.declared.fault.PlayFault.{PlayFault}
use Rattle.ym_play.specs.declared.fault.PlayFault.TheVariants as play
use Rattle.ym_play.specs.declared.play.Played.{Played}

-- both ends are new, over what the line told before and how often it had failed
pub record IsNewPair (script : ScriptParts) (told : Option (List Handed)) (failures : ℕ)
    (pair : Pair) : Type 0 where
  pub standing : pair.sender.standing ≡ new_standing (counts_of script.shape script.batch)
  pub shape : pair.sender.shape ≡ script.shape
  pub files : pair.sender.files ≡ script.batch
  pub receiver : pair.receiver.receiver ≡ new_receiver script.confirm
  pub kept : pair.receiver.kept ≡
      kept_of (record { opened = None; files = []; tally = new_tally None })
  pub no_failures : pair.receiver.failures ≡ 0
  pub line_told : pair.told ≡ told
  pub line_failures : pair.failures ≡ failures

-- the batch as the machine has it: each file's header, and the data blocks that it is cut into
abbrev pub files_of : ScriptParts → Batch
files_of script = batch_of script.shape script.batch

abbrev pub status_with : SendState → RecvState → ℕ
status_with send.Finished recv.Finished = 0
status_with _ _ = 1

-- 0 exactly where both ends have finished
abbrev pub status_of : Trace → ℕ
status_of trace = status_with trace.send trace.recv

-- The rounds of a script were run from new ends, with this trace, as the machine of two counters
-- runs them from its start. Whatever its rounds are, a prefix of its batch is committed, and no
-- more files are reported than that.
pub record IsRun (script : ScriptParts) (told : Option (List Handed)) (failures : ℕ) (trace : Trace)
    (new_told : Option (List Handed)) (new_failures : ℕ) : Type 0 where
  pub old : Pair
  pub new : Pair
  pub begins : IsNewPair script told failures old
  pub runs : RunsAsMachine script.confirm (files_of script) start script.rounds old trace new
  pub commits : CommitsAPrefix script.batch new
  pub reports : ReportsCommitted trace new
  pub told_after : new.told ≡ new_told
  pub failures_after : new.failures ≡ new_failures

-- The rounds of a script were run from new ends up to this fault, as the machine runs them, and a
-- prefix of its batch is committed.
pub record IsStopped (script : ScriptParts) (told : Option (List Handed)) (failures : ℕ)
    (fault : LineFault) (new_told : Option (List Handed)) (new_failures : ℕ) : Type 0 where
  pub old : Pair
  pub new : Pair
  pub begins : IsNewPair script told failures old
  pub stops : StopsAsMachine script.confirm (files_of script) start 1 script.rounds old fault new
  pub commits : CommitsAPrefix script.batch new
  pub told_after : new.told ≡ new_told
  pub failures_after : new.failures ≡ new_failures

abbrev pub RunsAs : ScriptParts → Option (List Handed) → ℕ → Result Trace LineFault →
    Option (List Handed) → ℕ → Type 0
RunsAs script told failures (Ok trace) new_told new_failures =
    IsRun script told failures trace new_told new_failures
RunsAs script told failures (Err fault) new_told new_failures =
    IsStopped script told failures fault new_told new_failures

-- the text of that run
pub record IsPlayed (bytes : List ℕ) (told : Option (List Handed)) (failures : ℕ) (played : Played)
    (new_told : Option (List Handed)) (new_failures : ℕ) : Type 0 where
  pub script : ScriptParts
  pub trace : Trace
  pub reads : script_of bytes ≡ Ok script
  pub runs : IsRun script told failures trace new_told new_failures
  pub text : string_bytes played.text ≡ trace_text trace
  pub status : played.status ≡ status_of trace

-- why nothing was played: the script's fault, or that of a round, which is never want of memory
abbrev pub IsNotPlayed : List ℕ → Option (List Handed) → ℕ → PlayFault → Option (List Handed) → ℕ →
    Type 0
IsNotPlayed bytes told failures (play.Script line why) new_told new_failures =
    (script_of bytes ≡ Err (line, why)) × (new_told ≡ told) × (new_failures ≡ failures)
IsNotPlayed bytes told failures (play.Line fault) new_told new_failures =
    (fault ≢ round.Memory) ×
    ((script : ScriptParts) × (script_of bytes ≡ Ok script) ×
    IsStopped script told failures fault new_told new_failures)
IsNotPlayed bytes told failures play.Memory new_told new_failures = Unit {0}

abbrev pub PlayGives : List ℕ → Option (List Handed) → ℕ → Result Played PlayFault →
    Option (List Handed) → ℕ → Type 0
PlayGives bytes told failures (Ok played) new_told new_failures =
    IsPlayed bytes told failures played new_told new_failures
PlayGives bytes told failures (Err fault) new_told new_failures =
    IsNotPlayed bytes told failures fault new_told new_failures
