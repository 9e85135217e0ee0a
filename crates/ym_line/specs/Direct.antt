-- A carrier in memory, as contracts see it.
use Rattle.std.specs.Prelude.{List}
use Rattle.ym_file.specs.Counts.{Tally}
use Rattle.ym_line.specs.declared.delivery.Handed.{Handed}

-- the deliveries handed on, in order; the carry that is to fail, and how many failed
pub record DirectParts : Type 0 where
  pub handed : List Handed
  pub tally : Tally
