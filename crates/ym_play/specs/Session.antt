-- How a session ends over a reader and writers that tell their bytes.
use Rattle.std.specs.Prelude.{◌≡◌, ◌++◌, ℕ, List, Option, Some, Result, Ok, Err, string_bytes}
use Rattle.ym_line.specs.declared.delivery.Handed.{Handed}
use Rattle.ym_line.specs.declared.fault.LineFault.{LineFault}
use Rattle.ym_line.specs.declared.fault.LineFault.TheVariants as round
use Rattle.ym_play.specs.Play.{PlayGives}
use Rattle.ym_play.specs.declared.fault.PlayFault.{PlayFault}
use Rattle.ym_play.specs.declared.fault.PlayFault.TheVariants as play
use Rattle.ym_play.specs.declared.input.InputFault.{InputFault}
use Rattle.ym_play.specs.declared.input.InputFault.TheVariants as input
use Rattle.ym_play.specs.declared.play.Played.{Played}
use Rattle.ym_play.specs.declared.sessions.SessionFault.{SessionFault}
use Rattle.ym_play.specs.declared.sessions.SessionFault.TheVariants as session

abbrev pub input_fault : InputFault → SessionFault
input_fault input.Device = session.Device
input_fault input.Memory = session.Play play.Memory

-- 2 for a script or a round that is refused, 3 for a device that failed and for want of memory
abbrev pub line_status : LineFault → ℕ
line_status (round.NotDamage n) = 2
line_status (round.TooLong n) = 2
line_status round.Carrier = 3
line_status round.Memory = 3

abbrev pub play_status : PlayFault → ℕ
play_status (play.Script line why) = 2
play_status (play.Line fault) = line_status fault
play_status play.Memory = 3

abbrev pub fault_status : SessionFault → ℕ
fault_status session.Device = 3
fault_status (session.Play fault) = play_status fault

-- the text goes to out and nothing else anywhere; or nothing goes to out, and the status is that of
-- the fault
abbrev pub EndsAs : Result Played PlayFault → List ℕ → List ℕ → ℕ → Option (List ℕ) →
    Option (List ℕ) → Type 0
EndsAs (Ok played) before wrong status out err =
    (status ≡ played.status) × (out ≡ Some (before ++ string_bytes played.text)) ×
    (err ≡ Some wrong)
EndsAs (Err fault) before wrong status out err = (status ≡ play_status fault) × (out ≡ Some before)

-- out held the bytes before, and err those of wrong
abbrev pub SessionGives : List ℕ → List ℕ → List ℕ → Option (List Handed) → ℕ → ℕ →
    Option (List ℕ) → Option (List ℕ) → Option (List Handed) → ℕ → Type 0
SessionGives text before wrong told failures status out err new_told new_failures =
    (answer : Result Played PlayFault) × PlayGives text told failures answer new_told new_failures ×
    EndsAs answer before wrong status out err
