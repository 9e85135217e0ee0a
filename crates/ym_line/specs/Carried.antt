-- Deliveries that were handed on.
use Rattle.std.specs.Prelude.{ℕ, List, [], ◌∷◌, ◌++◌, Option, None, Some}
use Rattle.ym_line.specs.declared.delivery.Way.{Way}
use Rattle.ym_line.specs.declared.delivery.Handed.{Handed}

-- these bytes, handed on this way
abbrev pub handed_on : Way → List ℕ → Handed
handed_on way bytes = record { way = way; bytes = bytes }

-- with one delivery more behind those told, where they are told
abbrev pub told_more : Way → List ℕ → Option (List Handed) → Option (List Handed)
told_more way bytes None = None
told_more way bytes (Some all) = Some (all ++ handed_on way bytes ∷ [])
