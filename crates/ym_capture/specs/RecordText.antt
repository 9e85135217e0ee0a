-- The text of a record: a line for each piece that passed.
use Rattle.std.specs.Prelude.{ℕ, ◌+◌, ◌/◌, ◌%◌, ◌^◌, ◌<◌, List, [], ◌∷◌, ◌++◌, All, decimal}
use Rattle.hex.specs.Hex.{encode_lower}
use Rattle.ym_told.specs.declared.way.Direction.{Direction}
use Rattle.ym_told.specs.declared.way.Direction.TheVariants.{There, Back}

-- bytes that passed together, one way, so many microseconds after the record began
pub record Piece : Type 0 where
  pub at : ℕ
  pub way : Direction
  pub bytes : List ℕ

abbrev pub last_digit : ℕ → ℕ
last_digit n = 0x30 + n % 10

-- a point, and six digits
abbrev pub fraction : ℕ → List ℕ
fraction micros =
    0x2e ∷ last_digit (micros / 100000) ∷ last_digit (micros / 10000)
    ∷ last_digit (micros / 1000) ∷ last_digit (micros / 100) ∷ last_digit (micros / 10)
    ∷ last_digit micros ∷ []

-- seconds
abbrev pub moment_text : ℕ → List ℕ
moment_text micros = decimal (micros / 1000000) ++ fraction micros

-- `>` or `<` between two spaces
abbrev pub mark : Direction → List ℕ
mark There = 0x20 ∷ 0x3e ∷ 0x20 ∷ []
mark Back = 0x20 ∷ 0x3c ∷ 0x20 ∷ []

-- what stands before the bytes
abbrev pub head_of : ℕ → Direction → List ℕ
head_of at way = moment_text at ++ mark way

unfoldable pub line_of : ℕ → Direction → List ℕ → List ℕ
line_of at way bytes = head_of at way ++ (encode_lower bytes ++ 10 ∷ [])

-- the lines of pieces, one behind another
abbrev pub text_of : List Piece → List ℕ
text_of [] = []
text_of (p ∷ more) = line_of p.at p.way p.bytes ++ text_of more

-- what a clock of 64 bits tells, and bytes
abbrev pub IsPiece : Piece → Type 0
IsPiece p = (p.at < 2 ^ 64) × All (λ (byte : ℕ). byte < 256) p.bytes
