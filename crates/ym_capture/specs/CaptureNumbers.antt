-- Numbers in the bytes of a capture. A byte that is not there counts as 0.
use Rattle.std.specs.Prelude.{ℕ, ◌+◌, ◌*◌, ◌^◌, List, drop, slice_index}
use Rattle.ym_capture.specs.declared.head.ByteOrder.{ByteOrder}
use Rattle.ym_capture.specs.declared.head.ByteOrder.TheVariants.{HighFirst, LowFirst}

-- of two bytes, the higher one first
unfoldable pub two : List ℕ → ℕ
two bytes = slice_index bytes 0 * 256 + slice_index bytes 1

-- the lower one first
unfoldable pub two_up : List ℕ → ℕ
two_up bytes = slice_index bytes 1 * 256 + slice_index bytes 0

unfoldable pub four : List ℕ → ℕ
four bytes = two bytes * 65536 + two (drop 2 bytes)

unfoldable pub four_up : List ℕ → ℕ
four_up bytes = two_up (drop 2 bytes) * 65536 + two_up bytes

abbrev pub four_in : ByteOrder → List ℕ → ℕ
four_in HighFirst bytes = four bytes
four_in LowFirst bytes = four_up bytes

unfoldable pub eight : List ℕ → ℕ
eight bytes = four bytes * 4294967296 + four (drop 4 bytes)
