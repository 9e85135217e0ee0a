-- Bytes that are written into a buffer of C.
use Rattle.std.specs.Prelude.{ℕ, ◌≡◌, ◌≤◌, ◌<◌, ◌++◌, List, length, drop}

-- Where there is room for them, they stand at the front, and the bytes behind stay; else nothing is
-- written.
pub record IsWritten (bytes old new : List ℕ) (count : ℕ) : Type 0 where
  pub there : length bytes ≤ length old → (count ≡ length bytes) × (new ≡ bytes ++ drop count old)
  pub no_room : length old < length bytes → (count ≡ 0) × (new ≡ old)
