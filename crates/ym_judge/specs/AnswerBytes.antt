-- What of a receiver's bytes is an answer. A boot loader prints text, and a C beside a letter of it
-- is a letter too; and who asks by several C asks once.
use Rattle.std.specs.Prelude.{ℕ, ◌==◌, ◌&&◌, ◌||◌, nat_le, not, Bool, List, [], ◌∷◌, if◌then◌else◌}
use Rattle.ym_frame.specs.Control.{is_control}

abbrev pub is_text : ℕ → Bool
is_text byte = (nat_le 0x20 byte && nat_le byte 0x42) || (nat_le 0x44 byte && nat_le byte 0x7e)

abbrev pub is_said : ℕ → ℕ → ℕ → Bool
is_said before byte after =
    if byte == 0x43 then (not (before == 0x43) && not (is_text before)) && not (is_text after)
    else is_control byte

abbrev pub first_of_rest : List ℕ → ℕ
first_of_rest [] = 0
first_of_rest (byte ∷ rest) = byte

-- those behind this byte
abbrev pub answers_in : ℕ → List ℕ → List ℕ
answers_in before [] = []
answers_in before (byte ∷ rest) =
    if is_said before byte (first_of_rest rest) then byte ∷ answers_in byte rest
    else answers_in byte rest
