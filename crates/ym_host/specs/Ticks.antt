-- What reads that end by themselves say of a line: a read that waits ends after a tick where
-- nothing came, and one that ends sooner with nothing did not wait. One that is late did not end by
-- itself, or its process stood still: two of them in a row, or the first of all, tell the former.
use Rattle.std.specs.Prelude.{◌≡◌, ℕ, ◌+◌, ◌==◌, ◌&&◌, ◌||◌, Bool, false, not}
use Rattle.std.specs.Prelude.{nat_lt, nat_le, min, List, [], ◌∷◌, if◌then◌else◌, refl}
use Rattle.ym_host.specs.declared.ticks.Tick.{Tick}
use Rattle.ym_host.specs.declared.ticks.Tick.TheVariants.{Bytes, Quiet, HungUp, Endless}
use Rattle.ym_host.specs.declared.ticks.Ticks.{Ticks}
use Rattle.ym_host.specs.declared.ticks.TheConstants.{EARLY_MS, HUNG_UP_READS, LATE_MS}

-- it got nothing and did not wait
abbrev pub is_early : ℕ → ℕ → Bool
is_early count millis = (count == 0) && nat_lt millis EARLY_MS

-- how many of the last reads, in a row, are such, counted no further than matters
abbrev pub early_reads : Ticks → ℕ → ℕ → ℕ
early_reads t count millis = if is_early count millis then min (t.early + 1) HUNG_UP_READS else 0

abbrev pub is_in_time : ℕ → Bool
is_in_time millis = nat_le millis LATE_MS

abbrev pub after : Ticks → ℕ → ℕ → Ticks
after t count millis = record {
  early = early_reads t count millis;
  has_ended = t.has_ended || (count == 0);
  was_in_time = is_in_time millis;
}

-- a read that got nothing: the line is quiet, or so many reads in a row did not wait
abbrev pub said_of_none : ℕ → Tick
said_of_none early = if nat_le HUNG_UP_READS early then HungUp else Quiet

-- a read that got bytes would have waited for ever: it was late, as was the one before it, where
-- there was one, and none before it has ended by itself
abbrev pub is_endless : Ticks → ℕ → Bool
is_endless t millis = not t.has_ended && not t.was_in_time && not (is_in_time millis)

-- what a read that got so many bytes after so many milliseconds says
abbrev pub said : Ticks → ℕ → ℕ → Tick
said t count millis =
    if count == 0 then said_of_none (early_reads t count millis)
    else (if is_endless t millis then Endless else Bytes)

-- ---- Examples: what the last of several reads says, each by its bytes and its milliseconds

pub record Read : Type 0 where
  pub count : ℕ
  pub millis : ℕ

abbrev pub last_said : Ticks → Read → List Read → Tick
last_said t r [] = said t r.count r.millis
last_said t r (next ∷ more) = last_said (after t r.count r.millis) next more

abbrev waited : Read
waited = record { count = 0; millis = 100 }

abbrev early : Read
early = record { count = 0; millis = 0 }

abbrev got : ℕ → Read
got millis = record { count = 1; millis = millis }

abbrev a_terminal : Ticks
a_terminal = record { early = 0; has_ended = false; was_in_time = false }

five_at_once : last_said a_terminal early (early ∷ early ∷ early ∷ early ∷ []) ≡ HungUp
five_at_once = refl

four_at_once : last_said a_terminal early (early ∷ early ∷ early ∷ []) ≡ Quiet
four_at_once = refl

one_waited : last_said a_terminal early (early ∷ early ∷ early ∷ waited ∷ early ∷ []) ≡ Quiet
one_waited = refl

late_byte : last_said a_terminal (got 3000) [] ≡ Endless
late_byte = refl

late_byte_later : last_said a_terminal waited (got 3000 ∷ []) ≡ Bytes
late_byte_later = refl

one_stall : last_said a_terminal (got 20) (got 3000 ∷ []) ≡ Bytes
one_stall = refl

two_stalls : last_said a_terminal (got 20) (got 3000 ∷ got 20 ∷ got 3000 ∷ []) ≡ Bytes
two_stalls = refl

two_late_bytes : last_said a_terminal (got 20) (got 3000 ∷ got 3000 ∷ []) ≡ Endless
two_late_bytes = refl
