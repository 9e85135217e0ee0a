-- A block as contracts see it.
use Rattle.std.specs.Prelude.{◌≡◌, ℕ, List}
use Rattle.ym_frame.specs.declared.block.Size.{Size}
use Rattle.ym_frame.specs.declared.block.Size.TheVariants.{Short, Long}

pub record BlockParts : Type 0 where
  pub number : ℕ
  pub body : List ℕ

-- how many data bytes a block of this size has
abbrev pub length_of : Size → ℕ
length_of Short = 128
length_of Long = 1024

abbrev pub IsSizeOf : Size → ℕ → Type 0
IsSizeOf size len = len ≡ length_of size
