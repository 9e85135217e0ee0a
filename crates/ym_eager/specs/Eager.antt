-- A port whose first read finds the line quiet.
use Rattle.std.specs.Prelude.{Bool, ◌∷◌, if◌then◌else◌}
use Rattle.ym_link.specs.Port.{Tape}
use Rattle.ym_link.specs.declared.event.Event.TheVariants as event

-- the tape with a quiet line before all that is still to come, where the first read is yet to be
-- made
abbrev pub ahead : Bool → Tape → Tape
ahead is_first t = if is_first then record t { coming = event.Quiet ∷ t.coming } else t
