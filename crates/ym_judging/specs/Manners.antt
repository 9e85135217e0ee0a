-- In which manner something is written, and what goes out in its place.
use Rattle.std.specs.Prelude.{ℕ, Bool, true, false, List, Option, Some, None}
use Rattle.ym_judge.specs.Carriage.{carried_as}
use Rattle.ym_judge.specs.declared.case.Case.{Case}
use Rattle.ym_judge.specs.declared.case.Case.TheVariants as case
use Rattle.ym_judge.specs.declared.twist.Twist.{Twist}
use Rattle.ym_judge.specs.declared.twist.Twist.TheVariants.{Cancel}
use Rattle.ym_judging.specs.declared.line.TheConstants.{ENDED_MS, STILL_MS}

-- what of a case has no place of its own is everywhere
abbrev pub is_everywhere : Case → Bool
is_everywhere case.Plain = true
is_everywhere (case.Frame spot twist) = false
is_everywhere (case.Sends parcel) = true
is_everywhere (case.Answer spot twist) = false
is_everywhere (case.Bytes spot) = false

-- how long it is listened at the end: longer where CAN CAN was written
abbrev pub rest_behind : Twist → ℕ
rest_behind Cancel = ENDED_MS
rest_behind _ = STILL_MS

abbrev pub rest_ms : Case → ℕ
rest_ms case.Plain = STILL_MS
rest_ms (case.Frame spot twist) = rest_behind twist
rest_ms (case.Sends parcel) = STILL_MS
rest_ms (case.Answer spot twist) = rest_behind twist
rest_ms (case.Bytes spot) = STILL_MS

-- what goes out: the bytes as they are, or what becomes of them
abbrev pub twisted_as : Option Twist → List ℕ → List ℕ
twisted_as None bytes = bytes
twisted_as (Some twist) bytes = carried_as twist bytes
