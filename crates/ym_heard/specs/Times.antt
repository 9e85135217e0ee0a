-- Times in milliseconds. Those beyond the greatest one are it (this profile).
use Rattle.std.specs.Prelude.{ℕ, ◌+◌, ◌-◌, ◌^◌, max, min}
use Rattle.ym_heard.specs.declared.clock.Clock.{Clock}

-- so much later
abbrev pub later : ℕ → ℕ → ℕ
later at wait = min (at + wait) (2 ^ 64 - 1)

abbrev pub new_clock : Clock
new_clock = record { at = 0; behind = 0 }

-- where the clock below ran backwards, the time goes on from where it was
abbrev pub behind_at : ℕ → Clock → ℕ
behind_at now c = max c.behind (c.at - now)

abbrev pub told : ℕ → Clock → Clock
told now c = record { at = later now (behind_at now c); behind = behind_at now c }

-- a read waited until then, whatever that clock tells
abbrev pub at_least : ℕ → Clock → Clock
at_least until c = record { at = max c.at until; behind = later c.behind (until - c.at) }

abbrev pub waited : ℕ → ℕ → Clock → Clock
waited until now c = at_least until (told now c)
