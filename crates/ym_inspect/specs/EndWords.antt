-- What is told at the end of a capture.
use Rattle.std.specs.Prelude.{ℕ, List, [], ◌∷◌, ◌++◌, Option, Some, None, codes}
use Rattle.ym_told.specs.LineWords.{moment_words}
use Rattle.ym_told.specs.declared.moment.CaptureMoment.{CaptureMoment}

-- where the two ends parted, in a line of its own
abbrev pub parting_words : Option CaptureMoment → List ℕ
parting_words (Some at) = moment_words at.0 ++ (codes "here the two ends parted" ++ 10 ∷ [])
parting_words None = []
