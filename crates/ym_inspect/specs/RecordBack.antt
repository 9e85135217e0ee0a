-- What the lines of pieces say, read back as a record.
use Rattle.std.specs.Prelude.{◌≡◌, refl, ℕ, List, [], ◌∷◌, ◌++◌, Ok, Err, codes}
use Rattle.std.specs.Fmt.{digits}
use Rattle.hex.specs.Hex.{encode_with}
use Rattle.ym_capture.specs.RecordText.{Piece, line_of}
use Rattle.ym_told.specs.declared.way.Direction.{Direction}
use Rattle.ym_told.specs.declared.way.Direction.TheVariants.{There}
use Rattle.ym_inspect.specs.CaptureTold.{tagged}
use Rattle.ym_inspect.specs.RecordRead.{recorded}
use Rattle.ym_inspect.specs.declared.fault.InspectFault.TheVariants.{Cut}

-- their bytes, each with its way
abbrev pub bytes_of : List Piece → List (Direction × ℕ)
bytes_of [] = []
bytes_of (p ∷ more) = tagged p.way p.bytes ++ bytes_of more

is_read :
    recorded (line_of 4655 There (0x31 ∷ 0x30 ∷ [])) ≡ Ok ((There, 0x31) ∷ (There, 0x30) ∷ [])
unfolding line_of digits encode_with
is_read = refl

-- The last line has no end: whatever stands there may be a part of what it was to say.
is_cut_behind_a_byte :
    recorded (line_of 4655 There (0x31 ∷ []) ++ codes "0.5 < 06") ≡ Err (Cut 2)
unfolding line_of digits encode_with
is_cut_behind_a_byte = refl

is_cut_in_a_byte : recorded (line_of 4655 There (0x31 ∷ []) ++ codes "0.5 < 0") ≡ Err (Cut 2)
unfolding line_of digits encode_with
is_cut_in_a_byte = refl

is_cut_in_its_moment : recorded (line_of 4655 There (0x31 ∷ []) ++ codes "0") ≡ Err (Cut 2)
unfolding line_of digits encode_with
is_cut_in_its_moment = refl
