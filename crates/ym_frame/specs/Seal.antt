-- The frame of a block, by its number and its body.
use Rattle.std.specs.Prelude.{ℕ, List}
use Rattle.ym_frame.specs.Frame.{IsFrame}
use Rattle.ym_frame.specs.declared.frame.Item.TheVariants.{Block}

-- these bytes are the frame of the block of this number and this body
abbrev pub IsBlockFrame : ℕ → List ℕ → List ℕ → Type 0
IsBlockFrame number body bytes = IsFrame (Block (record { number = number; body = body })) bytes
