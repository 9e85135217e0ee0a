-- A moment, as people write it: the date, most significant first, and the time of day.
use Rattle.std.specs.Prelude.{ℕ, ◌/◌, ◌%◌, List, ◌++◌, ℤ, codes, decimal}
use Rattle.std.specs.Fmt.{signed_decimal}

-- so many seconds after the beginning of 1970 the year 10000 begins
abbrev pub year_10000 : ℕ
year_10000 = 253_402_300_800

-- a number below 100
abbrev pub two_digits : ℕ → List ℕ
two_digits number = decimal (number / 10) ++ decimal (number % 10)

abbrev pub moment_text : ℤ → ℕ → ℕ → ℕ → ℕ → ℕ → List ℕ
moment_text year month day hour minute second =
    signed_decimal year ++ (codes "-" ++ (two_digits month ++ (codes "-" ++ (two_digits day
    ++ (codes " " ++ (two_digits hour ++ (codes ":" ++ (two_digits minute ++ (codes ":"
    ++ (two_digits second ++ codes " UTC"))))))))))
