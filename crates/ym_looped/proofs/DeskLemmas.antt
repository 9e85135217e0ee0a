-- Sessions at a desk.
use Rattle.std.proofs.Common.{◌≡◌, ◌≤◌, ◌+◌, ℕ, List, Option}
use Rattle.ym_line.specs.declared.delivery.Handed.{Handed}
use Rattle.ym_play.specs.SessionOver.{SessionEnds, HasFailed, IsReadWithin}
use Rattle.ym_play.specs.declared.limits.TheConstants.{MOST_SCRIPT_BYTES}
use Rattle.ym_answer.specs.Desk.{Desk}
use Rattle.ym_looped.specs.DeskSession.{scene_of, IsSession}

-- over a carrier that has not failed
pub session_of : (told new_told : Option (List Handed)) (before after : ℕ) (old new : Desk) (status : ℕ) → before ≡ 0
    → SessionEnds old.text (scene_of old told before) status (scene_of new new_told after)
    → (status ≡ 3 → HasFailed old.text (scene_of old told before) (scene_of new new_told after))
    → IsReadWithin (MOST_SCRIPT_BYTES + 1) old.text new.text → status ≤ 3 → IsSession told old status new
session_of told new_told before after old new status e ends failed within small = record {
  new_told = new_told;
  carries_failed = after;
  ends = rw e at ends;
  failed = rw e at failed;
  within = within;
  small = small;
}
