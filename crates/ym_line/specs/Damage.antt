-- Deliveries, and damage that shows.
--
-- Which damage a line may do is this profile's choice: the check of a block shows it, and no reply
-- gains a control byte by it.
use Rattle.std.specs.Prelude.{◌≡◌, ℕ, ◌≤◌, List, [], length, Result, Ok, Err}
use Rattle.ym_frame.specs.Control.{reply_bytes, controls, IsSubsequence}
use Rattle.ym_frame.specs.Frame.{HasFrame}
use Rattle.ym_frame.specs.declared.control.Reply.{Reply}
use Rattle.ym_core.specs.Hearing.{heard_of}
use Rattle.ym_core.specs.declared.delivery.Heard.TheVariants.{Bad}
use Rattle.ym_link.specs.declared.port.TheConstants.{DELIVERY_LIMIT}
use Rattle.ym_line.specs.declared.delivery.Delivery.{Delivery}
use Rattle.ym_line.specs.declared.delivery.Delivery.TheVariants.{Whole, Lost, Damaged}
use Rattle.ym_line.specs.declared.fault.LineFault.{LineFault}
use Rattle.ym_line.specs.declared.fault.LineFault.TheVariants as fault
use Rattle.ym_line.specs.declared.trace.How.{How}
use Rattle.ym_line.specs.declared.trace.How.TheVariants as how

-- what arrives of the bytes that were sent
abbrev pub arrives : Delivery → List ℕ → List ℕ
arrives Whole sent = sent
arrives Lost sent = []
arrives (Damaged bytes) sent = bytes

abbrev pub how_of : Delivery → How
how_of Whole = how.Whole
how_of Lost = how.Lost
how_of (Damaged bytes) = how.Damaged

-- what is damaged on its way to the receiver begins with no frame
abbrev pub ShowsThere : Delivery → Type 0
ShowsThere (Damaged bytes) = ¬ HasFrame bytes
ShowsThere _ = Unit {0}

-- so it is heard as bad
abbrev pub IsHeardBad : Delivery → Type 0
IsHeardBad (Damaged bytes) = heard_of bytes ≡ Bad
IsHeardBad _ = Unit {0}

-- what is damaged on its way to the sender has some of the reply's control bytes, in order, and no
-- other
abbrev pub ShowsBack : Reply → Delivery → Type 0
ShowsBack reply (Damaged bytes) = IsSubsequence (controls bytes) (controls (reply_bytes reply))
ShowsBack reply _ = Unit {0}

-- what is damaged is no longer than a delivery may be
abbrev pub IsShort : Delivery → Type 0
IsShort (Damaged bytes) = length bytes ≤ DELIVERY_LIMIT
IsShort _ = Unit {0}

-- The check of a delivery of round n: the damage has to show and to be short enough, and the first
-- that fails is told.
abbrev pub IsChecked : ℕ → Type 0 → Type 0 → Result (Unit {0}) LineFault → Type 0
IsChecked n shows short (Ok _) = shows × short
IsChecked n shows short (Err (fault.NotDamage number)) = (number ≡ n) × ¬ shows
IsChecked n shows short (Err (fault.TooLong number)) = (number ≡ n) × shows × ¬ short
IsChecked n shows short (Err _) = ⊥
