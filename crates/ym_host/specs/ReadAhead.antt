-- The bytes of a file that were read ahead, as contracts see them.
use Rattle.std.specs.Prelude.{◌≡◌, ℕ, List, Option, IfSome, length, take, drop}

pub record ReadAheadParts : Type 0 where
  pub told : Option (List ℕ)  -- the bytes of the file, where they are known
  pub bytes : List ℕ  -- those that were read ahead
  pub start : ℕ  -- their place in the file

-- these bytes stand in a file from this place on, as far as its bytes are known
abbrev pub StandsIn : List ℕ → ℕ → Option (List ℕ) → Type 0
StandsIn bytes at file = IfSome file (λ all. bytes ≡ take (length bytes) (drop at all))
