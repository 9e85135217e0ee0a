-- A source that reads a file, as contracts see it.
use Rattle.std.specs.Prelude.{◌≡◌, ◌≢◌, ℕ, List, Option, None, Some}
use Rattle.std.specs.declared.io.Error.{Error}

pub record ReadSourceParts : Type 0 where
  pub size : ℕ  -- the file's length when it was looked at
  pub told : Option (List ℕ)  -- its bytes, where they are known
  pub failures : ℕ
  pub fills : ℕ  -- how often it was asked to fill
  pub first : Option Error  -- why it failed for the first time

-- it is told why, exactly where something failed
abbrev pub IsTold : ℕ → Option Error → Type 0
IsTold failures None = failures ≡ 0
IsTold failures (Some why) = failures ≢ 0

-- why it failed first, where it fails for this now
abbrev pub first_of : Error → Option Error → Error
first_of error None = error
first_of error (Some before) = before
