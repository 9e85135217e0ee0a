-- The content of a file, byte by byte.
use Rattle.std.proofs.Common.{◌≡◌, ◌<◌, ◌-◌, ℕ, zero, suc, ◌∷◌, length, refl, arith}
use Rattle.ym_judging.specs.Contents.{byte_before, content_of}

pub content_length : (n : ℕ) → length (content_of n) ≡ n
content_length zero = refl
content_length (suc n) = let e = content_length n in omega (arith, e)

pub content_step : (n : ℕ) → 0 < n → content_of n ≡ byte_before (n - 1) ∷ content_of (n - 1)
content_step zero below = absurd (omega (arith, below))
content_step (suc n) below = let e : suc n - 1 ≡ n = omega arith in rw e refl
