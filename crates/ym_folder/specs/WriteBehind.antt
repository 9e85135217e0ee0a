-- Bytes on their way to where they are appended: those that were taken, and behind them those that
-- wait.
use Rattle.std.specs.Prelude.{◌≡◌, List, ℕ, Option, take}
use Rattle.std.specs.Io.KnownBytes.{append_known}

-- all that was put so far, in order, where it is known what was taken
abbrev pub put_so_far : Option (List ℕ) → List ℕ → Option (List ℕ)
put_so_far taken waiting = append_known taken waiting

-- known bytes grow by a front of these
abbrev pub GrowsByPrefix : Option (List ℕ) → Option (List ℕ) → List ℕ → Type 0
GrowsByPrefix old new all = (n : ℕ) × (new ≡ append_known old (take n all))
