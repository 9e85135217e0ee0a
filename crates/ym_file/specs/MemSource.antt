-- A source in memory as contracts see it.
use Rattle.std.specs.Prelude.{ℕ, List}
use Rattle.ym_file.specs.Counts.{Tally}

-- the bytes of the file, which fill is to fail, and how often it was asked to fill
pub record MemSourceParts : Type 0 where
  pub bytes : List ℕ
  pub tally : Tally
  pub fills : ℕ
