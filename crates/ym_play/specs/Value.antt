-- The values that the words of a script write.
use Rattle.std.specs.Prelude.{ℕ, ◌^◌, ◌&&◌, nat_lt, nat_le, Bool, List, [], length, Result, Ok, Err, codes, if◌then◌else◌}
use Rattle.std.specs.Char.{is_digit}
use Rattle.std.specs.List.{list_all}
use Rattle.std.specs.Str.{bytes_eq}
use Rattle.std.specs.Str.Parse.{digits_value}
use Rattle.hex.specs.Hex.{decode_of}
use Rattle.hex.specs.declared.error.FromHexError.{FromHexError}
use Rattle.ym_header.specs.declared.stamp.Stamp.{Stamp}
use Rattle.ym_header.specs.declared.stamp.Stamp.TheVariants as stamp
use Rattle.ym_line.specs.declared.delivery.Delivery.{Delivery}
use Rattle.ym_line.specs.declared.delivery.Delivery.TheVariants as line
use Rattle.ym_play.specs.Command.{StampWords, Nothing, Time, TimeMode, DeliveryWords, Whole, Lost, Damaged}
use Rattle.ym_play.specs.declared.fault.ScriptWhy.{ScriptWhy}
use Rattle.ym_play.specs.declared.fault.ScriptWhy.TheVariants as why

-- some digits, and nothing else
abbrev pub is_numeral : ℕ → List ℕ → Bool
is_numeral radix text = nat_lt 0 (length text) && list_all (λ c. is_digit c radix) text

-- the number that digits alone write, from the least one to below a bound
abbrev pub number_at : ScriptWhy → ℕ → ℕ → ℕ → List ℕ → Result ℕ ScriptWhy
number_at why radix least bound text =
    if is_numeral radix text &&
    (nat_le least (digits_value radix text) && nat_lt (digits_value radix text) bound)
    then Ok (digits_value radix text) else Err why

-- a number of rounds: from 1 to 65,535 in decimal digits
abbrev pub count_at : List ℕ → Result ℕ ScriptWhy
count_at text = number_at why.Number 10 1 (2 ^ 16) text

-- a number in octal digits, below a bound
abbrev pub octal_at : ℕ → List ℕ → Result ℕ ScriptWhy
octal_at bound text = number_at why.Stamp 8 0 bound text

abbrev pub timed : Result ℕ ScriptWhy → Result Stamp ScriptWhy
timed (Ok time) = Ok (stamp.Time time)
timed (Err why) = Err why

abbrev pub timed_with : Result ℕ ScriptWhy → Result ℕ ScriptWhy → Result Stamp ScriptWhy
timed_with (Ok time) (Ok mode) = Ok (stamp.TimeMode time mode)
timed_with (Ok time) (Err why) = Err why
timed_with (Err why) mode = Err why

-- a time is below 2^64 and a mode below 2^32
abbrev pub stamp_at : StampWords → Result Stamp ScriptWhy
stamp_at Nothing = Ok stamp.Nothing
stamp_at (Time time) = timed (octal_at (2 ^ 64) time)
stamp_at (TimeMode time mode) = timed_with (octal_at (2 ^ 64) time) (octal_at (2 ^ 32) mode)

abbrev pub decoded : Result (List ℕ) FromHexError → Result (List ℕ) ScriptWhy
decoded (Ok bytes) = Ok bytes
decoded (Err fault) = Err why.Hex

-- two hexadecimal digits of either case are a byte
abbrev pub hex_at : List ℕ → Result (List ℕ) ScriptWhy
hex_at digits = decoded (decode_of digits)

-- a file's bytes: none, or those of some digits
abbrev pub bytes_at : List ℕ → Result (List ℕ) ScriptWhy
bytes_at text = if bytes_eq text (codes "-") then Ok [] else hex_at text

abbrev pub damaged : Result (List ℕ) ScriptWhy → Result Delivery ScriptWhy
damaged (Ok bytes) = Ok (line.Damaged bytes)
damaged (Err why) = Err why

abbrev pub delivery_at : DeliveryWords → Result Delivery ScriptWhy
delivery_at Whole = Ok line.Whole
delivery_at Lost = Ok line.Lost
delivery_at (Damaged digits) = damaged (hex_at digits)
