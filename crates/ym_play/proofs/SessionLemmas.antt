-- What a session takes from its reader, and how it ends.
use Rattle.std.proofs.Common.{◌≡◌, ◌≢◌, inl, inr, ◌+◌, ℕ, List, Option, Some, Result, Ok, Err, length, take, refl, sym, ◌∙◌, ap, arith, string_bytes}
use Rattle.std.proofs.lemmas.Bool.{cases_lt, lt-leb}
use Rattle.std.proofs.lemmas.List.{take_all, length-take-le}
use Rattle.ym_line.specs.declared.delivery.Handed.{Handed}
use Rattle.ym_play.specs.Script.{script_of}
use Rattle.ym_play.specs.Play.{PlayGives}
use Rattle.ym_line.specs.declared.fault.LineFault.TheVariants as round
use Rattle.ym_play.proofs.BytesLemmas.{appended}
use Rattle.ym_play.specs.Session.{SessionGives, fault_status}
use Rattle.ym_play.specs.SessionOver.{Scene, IsPlayOf, ScriptGives, TellsFault, IsUnwritten, AnswerIsTold, SessionEnds, HasFailed}
use Rattle.ym_play.specs.declared.fault.PlayFault.{PlayFault}
use Rattle.ym_play.specs.declared.fault.PlayFault.TheVariants as play
use Rattle.ym_play.specs.declared.limits.TheConstants.{MOST_SCRIPT_BYTES}
use Rattle.ym_play.specs.declared.play.Played.{Played}
use Rattle.ym_play.specs.declared.sessions.SessionFault.{SessionFault}
use Rattle.ym_play.specs.declared.sessions.SessionFault.TheVariants as session

-- the first bytes of a script that is too large show that it is
pub script_of-take : (text : List ℕ) → script_of (take (MOST_SCRIPT_BYTES + 1) text) ≡ script_of text
script_of-take text = elim (cases_lt (MOST_SCRIPT_BYTES + 1) (length text)) [
  | inl more ↦ rw (length-take-le (MOST_SCRIPT_BYTES + 1) text (omega arith), lt-leb (length text) MOST_SCRIPT_BYTES (omega arith)) refl
  | inr fits ↦ ap script_of (take_all (MOST_SCRIPT_BYTES + 1) text fits)
]

-- what is played is what the script says
pub plays_same : (bytes text : List ℕ) (told : Option (List Handed)) (failures : ℕ) (answer : Result Played PlayFault) (new_told : Option (List Handed)) (new_failures : ℕ)
    → script_of bytes ≡ script_of text → PlayGives bytes told failures answer new_told new_failures → PlayGives text told failures answer new_told new_failures
plays_same bytes text told failures (Ok played) new_told new_failures e h =
    record { script = h.script; trace = h.trace; reads = sym e ∙ h.reads; runs = h.runs; text = h.text; status = h.status }
plays_same bytes text told failures (Err play.Memory) new_told new_failures e h = tt
plays_same bytes text told failures (Err fault) new_told new_failures e h = rw e at h

-- what was taken was played
pub taken_refused : (fault : PlayFault) (remaining : Option (List ℕ)) (old new : Scene) → new.reads_failed ≡ old.reads_failed
    → IsPlayOf remaining old (Err fault) new → ScriptGives remaining old (Err (session.Play fault)) new
taken_refused play.Memory remaining old new same plays = same
taken_refused fault remaining old new same plays = (same, plays)

-- what becomes of the script, whatever the outputs hold
abbrev pub GivesAnywhere : Option (List ℕ) → Scene → Result Played SessionFault → Scene → Type 0
GivesAnywhere remaining old answer new =
    (before after : Scene) → before.told ≡ old.told → before.carries_failed ≡ old.carries_failed → before.reads_failed ≡ old.reads_failed
    → after.told ≡ new.told → after.carries_failed ≡ new.carries_failed → after.reads_failed ≡ new.reads_failed → ScriptGives remaining before answer after

pub told_ends : (fault : SessionFault) (remaining : Option (List ℕ)) (old new : Scene) (status : ℕ) → GivesAnywhere remaining old (Err fault) new
    → IsUnwritten old new → TellsFault fault old status new → SessionEnds remaining old status new
told_ends fault remaining old new status s u t = (Err fault, s old new refl refl refl refl refl refl, (u, t))

-- where the status is 3, something failed
failed_of : (fault : SessionFault) (remaining : Option (List ℕ)) (old new : Scene) (status : ℕ) → ScriptGives remaining old (Err fault) new
    → IsUnwritten old new → TellsFault fault old status new → status ≡ 3 → HasFailed remaining old new
failed_of fault remaining old new status s u (inr t) three = inr (inr (inl t.1))
failed_of session.Device remaining old new status s u (inl t) three = inl s.0
failed_of (session.Play (play.Line round.Carrier)) remaining old new status s u (inl t) three = inr (inr (inr (u, inl s.1)))
failed_of (session.Play (play.Line round.Memory)) remaining old new status s u (inl t) three = absurd (s.1.2.0 refl)
failed_of (session.Play play.Memory) remaining old new status s u (inl t) three = inr (inr (inr (u, inr t.1)))
failed_of fault remaining old new status s u (inl t) three = absurd (omega (arith, t.0, three))

pub told_failed : (fault : SessionFault) (remaining : Option (List ℕ)) (old new : Scene) (status : ℕ) → GivesAnywhere remaining old (Err fault) new
    → IsUnwritten old new → TellsFault fault old status new → status ≡ 3 → HasFailed remaining old new
told_failed fault remaining old new status s u t three = failed_of fault remaining old new status (s old new refl refl refl refl refl refl) u t three

-- a status that is not 3 is the fault's
status_told : (fault : SessionFault) (old new : Scene) (status : ℕ) → TellsFault fault old status new → status ≢ 3 → status ≡ fault_status fault
status_told fault old new status (inl t) ne = t.0
status_told fault old new status (inr t) ne = absurd (ne t.0)

-- the answers that a session over known bytes gives, unless its status is 3
pub known_ends : (answer : Result Played SessionFault) (text before wrong : List ℕ) (remaining : Option (List ℕ)) (old new : Scene) (status : ℕ)
    → remaining ≡ Some text → old.out ≡ Some before → old.err ≡ Some wrong
    → ScriptGives remaining old answer new → AnswerIsTold answer old status new → status ≢ 3
    → SessionGives text before wrong old.told old.carries_failed status new.out new.err new.told new.carries_failed
known_ends (Ok played) text before wrong remaining old new status r w e s (inl t) ne = (
  Ok played,
  plays_same s.1.0 text old.told old.carries_failed (Ok played) new.told new.carries_failed (ap script_of (s.1.1.1 text r) ∙ script_of-take text) s.1.2,
  (t.0, appended new.out before (string_bytes played.text) (rw w at t.1), t.3 ∙ e),
)
known_ends (Ok played) text before wrong remaining old new status r w e s (inr t) ne = absurd (ne (status_told session.Device old new status t.1 ne))
known_ends (Err session.Device) text before wrong remaining old new status r w e s t ne = absurd (ne (status_told session.Device old new status t.1 ne))
known_ends (Err (session.Play play.Memory)) text before wrong remaining old new status r w e s t ne =
    absurd (ne (status_told (session.Play play.Memory) old new status t.1 ne))
known_ends (Err (session.Play fault)) text before wrong remaining old new status r w e s t ne = (
  Err fault,
  plays_same s.1.0 text old.told old.carries_failed (Err fault) new.told new.carries_failed (ap script_of (s.1.1.1 text r) ∙ script_of-take text) s.1.2,
  (status_told (session.Play fault) old new status t.1 ne, t.0.0 ∙ w),
)
