-- How far a file is, and how long it took, in words.
use Rattle.std.specs.Prelude.{ℕ, ◌*◌, ◌/◌, ◌%◌, ◌-◌, ◌^◌, ◌==◌, List, [], ◌++◌, Option, Some, None, codes, decimal, if◌then◌else◌, min, nat_lt}
use Rattle.ym_text.specs.declared.progress.TheConstants.{RATE_FROM_MS}

-- bytes a second, once enough time has passed; a product past 64 bits counts as the greatest number
abbrev pub rate_of : ℕ → ℕ → Option ℕ
rate_of bytes millis =
    if nat_lt millis RATE_FROM_MS then None
    else Some (min (bytes * 1000) (2 ^ 64 - 1) / millis)

abbrev pub percent_of : ℕ → ℕ → ℕ
percent_of done length = if length == 0 then 100 else min done length * 100 / length

-- the seconds that are left
abbrev pub left_of : ℕ → ℕ → Option ℕ → Option ℕ
left_of done length None = None
left_of done length (Some rate) = if rate == 0 then None else Some ((length - done) / rate)

abbrev pub rate_text : Option ℕ → List ℕ
rate_text None = []
rate_text (Some rate) =
    if nat_lt rate 10000 then codes ", " ++ (decimal rate ++ codes " B/s")
    else codes ", " ++ (decimal (rate / 1000) ++ codes " kB/s")

abbrev pub repeats_text : ℕ → List ℕ
repeats_text count = if count == 0 then [] else codes ", " ++ (decimal count ++ codes " repeated")

abbrev pub left_text : Option ℕ → List ℕ
left_text None = []
left_text (Some left) =
    codes ", " ++ (decimal (left / 60) ++ (codes ":" ++ (decimal (left % 60 / 10)
    ++ (decimal (left % 10) ++ codes " left"))))

abbrev pub progress_text : ℕ → ℕ → Option ℕ → ℕ → List ℕ
progress_text done length rate repeats =
    decimal (percent_of done length) ++ (codes "%, " ++ (decimal done
    ++ (codes " of " ++ (decimal length ++ (codes " bytes"
    ++ (rate_text rate ++ (left_text (left_of done length rate) ++ repeats_text repeats)))))))

abbrev pub took_text : ℕ → ℕ → ℕ → List ℕ
took_text length millis repeats =
    decimal length ++ (codes " bytes in "
    ++ (decimal (millis / 1000) ++ (codes "." ++ (decimal (millis / 100 % 10)
    ++ (codes " s" ++ (rate_text (rate_of length millis) ++ repeats_text repeats))))))
