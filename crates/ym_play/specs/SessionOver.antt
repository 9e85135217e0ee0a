-- How a session ends, at success and at each fault, over streams and a carrier that count their
-- failures.
use Rattle.std.specs.Prelude.{◌≡◌, ◌≤◌, ◌+◌, ◌++◌, ◌⊎◌, ℕ, [], ◌∷◌, List, Option, Some, Result, Ok, Err, codes, length, take, string_bytes}
use Rattle.std.specs.Io.KnownBytes.{Appends}
use Rattle.ym_file.specs.Counts.{Counted}
use Rattle.ym_line.specs.declared.delivery.Handed.{Handed}
use Rattle.ym_line.specs.declared.fault.LineFault.TheVariants as round
use Rattle.ym_play.specs.FaultText.{play_text}
use Rattle.ym_play.specs.Play.{PlayGives}
use Rattle.ym_play.specs.Session.{fault_status}
use Rattle.ym_play.specs.declared.fault.PlayFault.{PlayFault}
use Rattle.ym_play.specs.declared.fault.PlayFault.TheVariants as play
use Rattle.ym_play.specs.declared.limits.TheConstants.{MOST_SCRIPT_BYTES}
use Rattle.ym_play.specs.declared.play.Played.{Played}
use Rattle.ym_play.specs.declared.sessions.SessionFault.{SessionFault}
use Rattle.ym_play.specs.declared.sessions.SessionFault.TheVariants as session

-- what the two outputs hold and what the carrier has handed on, where they tell it, and how often
-- each of the four has failed
pub record Scene : Type 0 where
  pub out : Option (List ℕ)
  pub err : Option (List ℕ)
  pub told : Option (List Handed)
  pub reads_failed : ℕ
  pub out_failed : ℕ
  pub err_failed : ℕ
  pub carries_failed : ℕ

abbrev pub session_text : SessionFault → List ℕ
session_text session.Device = codes "fault: device"
session_text (session.Play fault) = play_text fault

-- the line that tells a fault, with its end
abbrev pub session_line : SessionFault → List ℕ
session_line fault = session_text fault ++ 10 ∷ []

-- the script: all the bytes of the reader, or the first of them that show it to be too large
abbrev pub IsTaken : Option (List ℕ) → List ℕ → Type 0
IsTaken remaining bytes =
    (length bytes ≤ MOST_SCRIPT_BYTES + 1) ×
    ((text : List ℕ) → remaining ≡ Some text → bytes ≡ take (MOST_SCRIPT_BYTES + 1) text)

-- at most so many bytes were read, whatever came of it
abbrev pub IsReadWithin : ℕ → Option (List ℕ) → Option (List ℕ) → Type 0
IsReadWithin most old new = (text : List ℕ) → old ≡ Some text
    → (taken : List ℕ) × (rest : List ℕ) × (text ≡ taken ++ rest) × (new ≡ Some rest)
    × (length taken ≤ most)

-- a script was read and played with this answer
abbrev pub IsPlayOf : Option (List ℕ) → Scene → Result Played PlayFault → Scene → Type 0
IsPlayOf remaining old answer new = (bytes : List ℕ) × IsTaken remaining bytes
    × PlayGives bytes old.told old.carries_failed answer new.told new.carries_failed

-- what becomes of the script: a read failed and nothing was played, or each read succeeded
abbrev pub ScriptGives : Option (List ℕ) → Scene → Result Played SessionFault → Scene → Type 0
ScriptGives remaining old (Ok played) new =
    (new.reads_failed ≡ old.reads_failed) × IsPlayOf remaining old (Ok played) new
ScriptGives remaining old (Err session.Device) new =
    Counted old.reads_failed new.reads_failed × (new.told ≡ old.told) ×
    (new.carries_failed ≡ old.carries_failed)
ScriptGives remaining old (Err (session.Play (play.Script line why))) new =
    (new.reads_failed ≡ old.reads_failed) × IsPlayOf remaining old (Err (play.Script line why)) new
ScriptGives remaining old (Err (session.Play (play.Line fault))) new =
    (new.reads_failed ≡ old.reads_failed) × IsPlayOf remaining old (Err (play.Line fault)) new
ScriptGives remaining old (Err (session.Play play.Memory)) new = new.reads_failed ≡ old.reads_failed

-- the line of a fault went to err, and the status is the fault's; or err failed, and the status is
-- 3
abbrev pub TellsFault : SessionFault → Scene → ℕ → Scene → Type 0
TellsFault fault old status new =
    ((status ≡ fault_status fault) × Appends old.err new.err (session_line fault)
    × (new.err_failed ≡ old.err_failed))
    ⊎ ((status ≡ 3) × Counted old.err_failed new.err_failed)

abbrev pub IsUnwritten : Scene → Scene → Type 0
IsUnwritten old new = (new.out ≡ old.out) × (new.out_failed ≡ old.out_failed)

-- the text went to out and nothing to err; or out failed, which is told; or there is no text, and
-- why is told and nothing goes to out
abbrev pub AnswerIsTold : Result Played SessionFault → Scene → ℕ → Scene → Type 0
AnswerIsTold (Ok played) old status new =
    ((status ≡ played.status) × Appends old.out new.out (string_bytes played.text)
    × (new.out_failed ≡ old.out_failed)
    × (new.err ≡ old.err) × (new.err_failed ≡ old.err_failed))
    ⊎ (Counted old.out_failed new.out_failed × TellsFault session.Device old status new)
AnswerIsTold (Err fault) old status new = IsUnwritten old new × TellsFault fault old status new

-- a session over these streams and this carrier
abbrev pub SessionEnds : Option (List ℕ) → Scene → ℕ → Scene → Type 0
SessionEnds remaining old status new =
    (answer : Result Played SessionFault) × ScriptGives remaining old answer new ×
    AnswerIsTold answer old status new

-- why a session may have failed: a stream failed; or nothing was written to out and the carrier
-- failed, or memory ran out, which err then says
abbrev pub HasFailed : Option (List ℕ) → Scene → Scene → Type 0
HasFailed remaining old new =
    Counted old.reads_failed new.reads_failed
    ⊎ (Counted old.out_failed new.out_failed ⊎ (Counted old.err_failed new.err_failed
    ⊎ (IsUnwritten old new
    × (IsPlayOf remaining old (Err (play.Line round.Carrier)) new
    ⊎ Appends old.err new.err (session_line (session.Play play.Memory))))))
