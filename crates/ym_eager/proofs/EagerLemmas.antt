-- A quiet line ahead of a tape, and a write.
use Rattle.std.proofs.Common.{◌≡◌, refl, ℕ, List, Bool, true, false}
use Rattle.ym_link.specs.Port.{Tape, after_write}
use Rattle.ym_eager.specs.Eager.{ahead}

pub ahead_write : (b ok : Bool) (t : Tape) (bytes : List ℕ) → ahead b (after_write ok t bytes) ≡ after_write ok (ahead b t) bytes
ahead_write true true t bytes = refl
ahead_write true false t bytes = refl
ahead_write false true t bytes = refl
ahead_write false false t bytes = refl
