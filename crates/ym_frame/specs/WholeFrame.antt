-- A whole frame, told by its kind alone: its item stands in its bytes.
use Rattle.std.specs.Prelude.{◌≡◌, ℕ, ◌+◌, ◌≤◌, List, length, slice_index, Result, Ok, Err}
use Rattle.ym_frame.specs.Block.{length_of}
use Rattle.ym_frame.specs.Frame.{body_of}
use Rattle.ym_frame.specs.declared.frame.Broken.{Broken}
use Rattle.ym_frame.specs.declared.frame.Item.{Item}
use Rattle.ym_frame.specs.declared.frame.Item.TheVariants.{Block, Eot, Cancel}
use Rattle.ym_frame.specs.declared.frame.Whole.{Whole}
use Rattle.ym_frame.specs.declared.frame.Whole.TheVariants as whole

-- how many bytes the frame has
abbrev pub length_in : Whole → ℕ
length_in (whole.Block size) = length_of size + 5
length_in whole.Eot = 1
length_in whole.Cancel = 2

-- the item, by the bytes of the frame
abbrev pub item_in : Whole → List ℕ → Item
item_in (whole.Block size) frame =
    Block (record { number = slice_index frame 1; body = body_of (length_of size) frame })
item_in whole.Eot frame = Eot
item_in whole.Cancel frame = Cancel

-- the bytes are all of the frame but its last byte
abbrev pub IsAllBut : List ℕ → Whole → Type 0
IsAllBut buffered whole = length_in whole ≡ length buffered + 1

-- all of the frame is there
abbrev pub IsThere : Whole → List ℕ → Type 0
IsThere whole frame = length_in whole ≤ length frame

-- the verdict, with the item that stands in these bytes
abbrev pub verdict_with : Result Whole Broken → List ℕ → Result (Item × ℕ) Broken
verdict_with (Ok whole) bytes = Ok (item_in whole bytes, length_in whole)
verdict_with (Err broken) bytes = Err broken
