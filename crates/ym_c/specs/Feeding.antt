-- A delivery as its bytes come.
use Rattle.std.specs.Prelude.{ℕ, ◌≤◌, ◌<◌, ◌++◌, List, length, take}
use Rattle.ym_frame.specs.Frame.{verdict_of, IsOpen}

-- Bytes of a piece are taken behind those that are held, one at least where that may go on to a
-- frame, and never one behind the last that may.
pub record Feeds (held piece : List ℕ) (used : ℕ) : Type 0 where
  pub within : used ≤ length piece
  pub while_open : (k : ℕ) → k < used → IsOpen (verdict_of (held ++ take k piece))
  pub progress : IsOpen (verdict_of held) → 0 < length piece → 0 < used
