-- A line with a clock: what it is still to tell, and what was done with it (this profile).
use Rattle.std.specs.Prelude.{ℕ, Bool, List, [], ◌∷◌, ◌++◌, if◌then◌else◌}
use Rattle.ym_link.specs.Port.{read_leaves}
use Rattle.ym_link.specs.declared.event.Event.{Event}
use Rattle.ym_port.specs.declared.deed.Deed.{Deed}
use Rattle.ym_port.specs.declared.deed.Deed.TheVariants.{Looked, Waited, Wrote}

-- The moments that the clock will tell, and the events still to come to reads; past the end of
-- either the clock tells 0 and the line is closed. And what was done so far, in order: the clock
-- was asked, a read waited so many milliseconds at most, these bytes were written.
pub record Tape : Type 0 where
  pub moments : List ℕ
  pub coming : List Event
  pub done : List Deed

abbrev pub first : List ℕ → ℕ
first [] = 0
first (m ∷ moments) = m

abbrev pub others : List ℕ → List ℕ
others [] = []
others (m ∷ moments) = moments

abbrev pub does : Deed → Tape → Tape
does deed t = record t { done = t.done ++ deed ∷ [] }

-- the clock is asked
abbrev pub moment_of : Tape → ℕ
moment_of t = first t.moments

abbrev pub after_moment : Tape → Tape
after_moment t = does Looked (record t { moments = others t.moments })

-- a read of so many milliseconds, into a buffer of this length
abbrev pub after_read : ℕ → ℕ → Tape → Tape
after_read millis room t = does (Waited millis) (record t { coming = read_leaves room t.coming })

-- a write that was made, or that failed
abbrev pub after_write : Bool → Tape → List ℕ → Tape
after_write ok t bytes = if ok then does (Wrote bytes) t else t
