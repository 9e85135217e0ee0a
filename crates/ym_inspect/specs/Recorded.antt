-- A record of a line, character by character: seconds, `>` or `<`, and hexadecimal digits.
use Rattle.std.specs.Prelude.{ℕ, ◌+◌, ◌-◌, ◌*◌, ◌/◌, ◌%◌, ◌^◌, ◌==◌, min, nat_le, ◌&&◌, ◌||◌, Bool, true, false, if◌then◌else◌, Option, Some, None, Result, Ok, Err}
use Rattle.ym_told.specs.declared.way.Direction.{Direction}
use Rattle.ym_told.specs.declared.way.Direction.TheVariants.{There, Back}
use Rattle.ym_inspect.specs.declared.fault.RecordFault.{RecordFault}
use Rattle.ym_inspect.specs.declared.fault.RecordFault.TheVariants as fault
use Rattle.ym_inspect.specs.declared.in_line.InLine.{InLine}
use Rattle.ym_inspect.specs.declared.in_line.InLine.TheVariants as line
use Rattle.ym_inspect.specs.declared.in_line.Stepped.{Stepped}

abbrev pub digit_value : ℕ → Option ℕ
digit_value c =
    if nat_le 0x30 c && nat_le c 0x39 then Some (c - 0x30) else
    if nat_le 0x61 c && nat_le c 0x66 then Some (c - 0x61 + 10) else
    if nat_le 0x41 c && nat_le c 0x46 then Some (c - 0x41 + 10) else
    None

abbrev pub is_decimal : ℕ → Bool
is_decimal c = nat_le 0x30 c && nat_le c 0x39

-- 64 bits count the microseconds, and the greatest number stands for all above
abbrev pub capped : ℕ → ℕ
capped n = min n (2 ^ 64 - 1)

-- behind a character that completes no byte
abbrev pub goes_to : InLine → Result Stepped RecordFault
goes_to state = Ok (record { state = state; byte = None })

-- spaces, empty lines and comments tell nothing
abbrev pub at_start : ℕ → Result Stepped RecordFault
at_start c =
    if is_decimal c then goes_to (line.Seconds ((c - 0x30) * 1000000)) else
    if c == 0x23 then goes_to line.Comment else
    if c == 10 || c == 13 || c == 0x20 then goes_to line.Start else
    Err fault.Seconds

abbrev pub in_seconds : ℕ → ℕ → Result Stepped RecordFault
in_seconds micros c =
    if is_decimal c
    then goes_to (line.Seconds (capped (capped (micros * 10) + (c - 0x30) * 1000000))) else
    if c == 0x2e then goes_to (line.Fraction micros 100000) else
    if c == 0x20 then goes_to (line.Moment micros) else
    Err fault.Seconds

abbrev pub in_fraction : ℕ → ℕ → ℕ → Result Stepped RecordFault
in_fraction micros unit c =
    if is_decimal c
    then goes_to (line.Fraction (capped (micros + capped (unit * (c - 0x30)))) (unit / 10)) else
    if c == 0x20 then goes_to (line.Moment micros) else
    Err fault.Seconds

abbrev pub behind_moment : ℕ → ℕ → Result Stepped RecordFault
behind_moment micros c =
    if c == 0x20 then goes_to (line.Moment micros) else
    if c == 0x3e then goes_to (line.Bytes micros There) else
    if c == 0x3c then goes_to (line.Bytes micros Back) else
    Err fault.Way

abbrev pub with_high : ℕ → Direction → Option ℕ → Result Stepped RecordFault
with_high at way (Some high) = goes_to (line.Half at way high)
with_high at way None = Err fault.Digit

abbrev pub in_bytes : ℕ → Direction → ℕ → Result Stepped RecordFault
in_bytes at way c =
    if c == 0x20 || c == 13 then goes_to (line.Bytes at way) else
    if c == 10 then goes_to line.Start else
    with_high at way (digit_value c)

abbrev pub half_fault : ℕ → RecordFault
half_fault c = if c == 10 || c == 13 || c == 0x20 then fault.HalfByte else fault.Digit

-- two digits, each of which is below 16
abbrev pub with_low : ℕ → Direction → ℕ → ℕ → Option ℕ → Result Stepped RecordFault
with_low at way high c (Some low) =
    Ok (record { state = line.Bytes at way; byte = Some (high % 16 * 16 + low % 16) })
with_low at way high c None = Err (half_fault c)

-- what a character leaves: how much of a line is read, and the byte that it completes
abbrev pub after_char : InLine → ℕ → Result Stepped RecordFault
after_char line.Start c = at_start c
after_char line.Comment c = if c == 10 then goes_to line.Start else goes_to line.Comment
after_char (line.Seconds micros) c = in_seconds micros c
after_char (line.Fraction micros unit) c = in_fraction micros unit c
after_char (line.Moment micros) c = behind_moment micros c
after_char (line.Bytes at way) c = in_bytes at way c
after_char (line.Half at way high) c = with_low at way high c (digit_value c)

-- whether a line has begun that has no end yet
abbrev pub is_open : InLine → Bool
is_open line.Start = false
is_open line.Comment = false
is_open (line.Seconds micros) = true
is_open (line.Fraction micros unit) = true
is_open (line.Moment micros) = true
is_open (line.Bytes at way) = true
is_open (line.Half at way high) = true
