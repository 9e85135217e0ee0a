-- What is kept so far fits.
use Rattle.std.proofs.Common.{◌≤◌, chars, false}
use denote.Text.{Utf8}
use denote.Shadow.{shadow}
use Rattle.unicode_width.specs.Width.{str_width}
use Rattle.ym_text.proofs.cells.prefix.Given as goal

abbrev pub invariant-loop-end : goal.invariant-loop-end
invariant-loop-end l =
    (goal.iterator-loop-end).can_next l.end-iterator ×
    (goal.iterator-loop-end).is_finite l.end-iterator ×
    (str_width false (chars l.kept) ≤ l.cells) ×
    shadow (Utf8 l.kept)
