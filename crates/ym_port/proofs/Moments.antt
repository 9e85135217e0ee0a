-- The moments that are still to come.
use Rattle.std.proofs.Common.{◌≡◌, ◌<◌, ◌≤◌, ◌+◌, ℕ, List, length, get_or, drop, refl, add-one}
use Rattle.std.proofs.Math.Seq.{drop-cons}
use Rattle.std.proofs.lemmas.List.{drop_all}
use Rattle.ym_port.specs.Wire.{first, others}

pub first-there : (moments : List ℕ) (i : ℕ) → i < length moments
    → (first (drop i moments) ≡ get_or moments i 0) × (others (drop i moments) ≡ drop (i + 1) moments)
first-there moments i more = rw (add-one, drop-cons moments i 0 more) (refl, refl)

pub first-none : (moments : List ℕ) (i : ℕ) → length moments ≤ i
    → (first (drop i moments) ≡ 0) × (others (drop i moments) ≡ drop i moments)
first-none moments i none = rw (drop_all i moments none) (refl, refl)
