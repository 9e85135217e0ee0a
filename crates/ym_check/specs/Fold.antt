-- Sixteen bytes in a word or in a row of four words, and sixty-four in four rows.
use Rattle.std.specs.Prelude.{ℕ, List, ◌++◌, ◌/◌, ◌^◌, bit_xor}
use Rattle.std.specs.Simd.Lanes.{number_l, digits_l}

-- the bytes of a word as they lie in memory
unfoldable pub sixteen : ℕ → List ℕ
sixteen word = digits_l 256 16 word

-- four words in a row as one
abbrev pub row_number : List ℕ → ℕ
row_number row = number_l (2 ^ 32) row

-- the bytes of a row, one word after another
abbrev pub row_bytes : List ℕ → List ℕ
row_bytes row = sixteen (row_number row)

-- the bytes of four rows, one row after another, where the last three words of the row before them
-- are still to be added to the third
abbrev pub rows_bytes : List ℕ → List ℕ → List ℕ → List ℕ → List ℕ → List ℕ
rows_bytes first second third fourth gone =
    let whole = bit_xor (row_number third) (row_number gone / 2 ^ 32) in
    row_bytes first ++ row_bytes second ++ sixteen whole ++ row_bytes fourth
