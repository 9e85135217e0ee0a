-- The writes whose answers may still be under way (this profile).
--
-- Each write may be answered once. So where an end has written more than once before an answer
-- came, as many answers may come, and they come no farther apart than it wrote.
use Rattle.std.specs.Prelude.{ℕ, ◌+◌, ◌-◌, ◌^◌, max, min, Bool, true, false, if◌then◌else◌}
use Rattle.ym_timing.specs.declared.out.Out.{Out}
use Rattle.ym_timing.specs.declared.out.Owed.{Owed}
use Rattle.ym_timing.specs.declared.out.Owed.TheVariants.{Nothing, One, Late, Likely, Several}

abbrev pub new_out : Out
new_out = record { owed = Nothing; copies = 0; first_at = 0; last_at = 0; gap = 0 }

abbrev pub one : ℕ → Out
one now = record { owed = One; copies = 1; first_at = now; last_at = now; gap = 0 }

abbrev pub late : ℕ → Out
late now = record { owed = Late; copies = 1; first_at = now; last_at = now; gap = 0 }

-- or most likely only one, where the first most likely was damaged
abbrev pub again : Bool → ℕ → Out → Out
again is_likely now o = record {
  owed = if is_likely then Likely else Several;
  copies = min (o.copies + 1) (2 ^ 8 - 1);
  first_at = o.first_at;
  last_at = now;
  gap = max o.gap (now - o.last_at);
}

abbrev pub is_one : Owed → Bool
is_one One = true
is_one _ = false
