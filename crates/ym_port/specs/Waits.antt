-- How the logic stores the waits that reads were given.
use Rattle.std.specs.Prelude.{◌≡◌, Bool, true, false, List, refl}
use Rattle.std.specs.Coded.{Coded, code_by, coded_bool, coded_list}
use Rattle.ym_link.specs.declared.port.Wait.{Wait}
use Rattle.ym_link.specs.declared.port.Wait.TheVariants.{Within, Reply}

abbrev is_reply : Wait → Bool
is_reply Within = false
is_reply Reply = true

abbrev wait_at : Bool → Wait
wait_at false = Within
wait_at true = Reply

pub wait_at-is_reply : (wait : Wait) → wait_at (is_reply wait) ≡ wait
wait_at-is_reply Within = refl
wait_at-is_reply Reply = refl

-- a wait is stored as whether it is for a reply
abbrev pub waits_code : Coded (List Wait)
waits_code = coded_list (code_by Bool coded_bool is_reply wait_at wait_at-is_reply)
