-- A session on what a command reads from and writes to.
use Rattle.std.specs.Prelude.{◌≡◌, ◌≤◌, ◌+◌, ℕ, List, Option}
use Rattle.ym_line.specs.declared.delivery.Handed.{Handed}
use Rattle.ym_play.specs.SessionOver.{Scene, SessionEnds, HasFailed, IsReadWithin}
use Rattle.ym_play.specs.declared.limits.TheConstants.{MOST_SCRIPT_BYTES}
use Rattle.ym_answer.specs.Desk.{Desk}

-- it, beside a carrier
abbrev pub scene_of : Desk → Option (List Handed) → ℕ → Scene
scene_of desk told carries_failed = record {
  out = desk.out.holds;
  err = desk.err.holds;
  told = told;
  reads_failed = desk.reads_failed;
  out_failed = desk.out.failed;
  err_failed = desk.err.failed;
  carries_failed = carries_failed;
}

-- a session of the script on the desk, over a carrier that tells this and has not failed
pub record IsSession (told : Option (List Handed)) (old : Desk) (status : ℕ) (new : Desk)
    : Type 0 where
  pub new_told : Option (List Handed)
  pub carries_failed : ℕ
  pub ends : SessionEnds old.text (scene_of old told 0) status
      (scene_of new new_told carries_failed)
  pub failed : status ≡ 3 → HasFailed old.text (scene_of old told 0)
      (scene_of new new_told carries_failed)
  pub within : IsReadWithin (MOST_SCRIPT_BYTES + 1) old.text new.text
  pub small : status ≤ 3
