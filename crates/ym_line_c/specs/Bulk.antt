-- Bytes that came together while a line cleared: each is dropped in its turn, at one moment.
use Rattle.std.specs.Prelude.{ℕ, List, [], ◌∷◌}
use Rattle.ym_timing.specs.Clears.{dropped, after_dropped}
use Rattle.ym_timing.specs.declared.purge.Purge.{Purge}
use Rattle.ym_timing.specs.declared.timing.Timing.{Timing}

-- the machine behind them, where this was written last
abbrev pub after_dropping : List ℕ → Purge → List ℕ → ℕ → Timing → Timing
after_dropping [] c written now t = t
after_dropping (b ∷ more) c written now t =
    after_dropping more (dropped c b written now t) written now (after_dropped c b written now t)

-- how far the line is clear behind them
abbrev pub cleared_by : List ℕ → Purge → List ℕ → ℕ → Timing → Purge
cleared_by [] c written now t = c
cleared_by (b ∷ more) c written now t =
    cleared_by more (dropped c b written now t) written now (after_dropped c b written now t)
