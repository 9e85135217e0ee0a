-- The number of a port, as a word tells it: decimal digits alone, for a number from 1 to 65535.
use Rattle.std.specs.Prelude.{◌≡◌, ◌<◌, ◌≤◌, ◌*◌, ◌+◌, ◌-◌, ◌&&◌, nat_le, ℕ, true, [], ◌∷◌, Option, Some, None, if◌then◌else◌}
use Rattle.clap.specs.Words.{Text}
use Rattle.std.specs.Str.{all_ascii_digits}

-- the number that digits stand for, behind the number read so far
abbrev pub read_on : ℕ → Text → ℕ
read_on n [] = n
read_on n (c ∷ rest) = read_on (10 * n + (c - 48)) rest

-- the port is the number of the digits, or the text is no such number
abbrev pub IsPort : Text → Option ℕ → Type 0
IsPort text (Some p) = (all_ascii_digits text ≡ true) × (p ≡ read_on 0 text) × (1 ≤ p) × (p ≤ 65535)
IsPort text None = (all_ascii_digits text ≡ true) → (1 ≤ read_on 0 text) → (65535 < read_on 0 text)

-- the same as a function
abbrev pub port_value : Option Text → Option ℕ
port_value None = None
port_value (Some text) =
    if all_ascii_digits text && (nat_le 1 (read_on 0 text) && nat_le (read_on 0 text) 65535)
    then Some (read_on 0 text) else None
