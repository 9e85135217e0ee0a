-- Moments that `date -u -d @SECONDS` tells, worked out by the definitions.
use Rattle.std.specs.Prelude.{◌≡◌, ◌*◌, ◌+◌, ◌-◌, ◌/◌, ◌%◌, ℕ, pos, codes, refl}
use Rattle.std.specs.Fmt.{digits}
use Rattle.jiff_core.specs.Calendar.{days_from_civil, day_count, days_of_years, days_of_months}
use Rattle.ym_text.specs.Moment.{year_10000, moment_text}

-- 1764079387 is 2025-11-25 14:03:07
pub in_november :
    (days_from_civil (pos 2025) 11 25 ≡ pos (1_764_079_387 / 86_400))
    × (14 * 3600 + 3 * 60 + 7 ≡ 1_764_079_387 % 86_400)
unfolding days_from_civil day_count days_of_years days_of_months
in_november = (refl, refl)

-- 1709164800 is the leap day of 2024, and 4107542400 the first of March of 2100, which has none
pub leap_days :
    (days_from_civil (pos 2024) 2 29 ≡ pos (1_709_164_800 / 86_400))
    × (days_from_civil (pos 2100) 3 1 ≡ pos (4_107_542_400 / 86_400))
unfolding days_from_civil day_count days_of_years days_of_months
leap_days = (refl, refl)

-- the last second of 9999
pub last_day :
    (days_from_civil (pos 9999) 12 31 ≡ pos ((year_10000 - 1) / 86_400))
    × (23 * 3600 + 59 * 60 + 59 ≡ (year_10000 - 1) % 86_400)
unfolding days_from_civil day_count days_of_years days_of_months
last_day = (refl, refl)

pub as_text : moment_text (pos 2026) 1 5 0 3 7 ≡ codes "2026-01-05 00:03:07 UTC"
unfolding digits
as_text = refl
