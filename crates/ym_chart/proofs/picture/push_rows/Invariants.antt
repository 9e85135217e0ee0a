use Rattle.std.proofs.Common.{◌≡◌, ◌++◌, drop, string_bytes}
use Rattle.ym_chart.specs.Drawing.{rows_words}
use Rattle.ym_chart.proofs.picture.push_rows.Given as goal

abbrev pub invariant-loop-number : goal.invariant-loop-number
invariant-loop-number l =
    string_bytes l.text ++ rows_words l.number (drop l.number l.rows)
    ≡ string_bytes l.fn.text ++ rows_words 0 l.fn.rows
