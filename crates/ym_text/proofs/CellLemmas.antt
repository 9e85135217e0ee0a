-- No text takes no cells.
use Rattle.std.proofs.Common.{◌≡◌, ◌≤◌, ℕ, [], false, refl, chars, arith}
use Rattle.std.proofs.lemmas.Str.{chars-nil}
use Rattle.unicode_width.specs.Width.{str_width}

no_cells : str_width false [] ≡ 0
unfolding str_width
no_cells = refl

pub nothing_fits : (cells : ℕ) → str_width false (chars []) ≤ cells
nothing_fits cells = rw (chars-nil, no_cells) (omega arith)
