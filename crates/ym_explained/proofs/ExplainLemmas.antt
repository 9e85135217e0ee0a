-- Captures that were told.
use Rattle.std.proofs.Common.{Result, Ok, Err}
use Rattle.std.specs.Prelude.{IfErr}

-- what holds of each fault
pub of_any_fault : {A E : Type 0} (r : Result A E) (P : E → Type 0) → ((e : E) → P e) → IfErr r P
of_any_fault (Ok a) P f = tt
of_any_fault (Err e) P f = f e
