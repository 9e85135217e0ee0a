use Rattle.std.proofs.Common.{◌≡◌, ◌++◌, drop, string_bytes}
use Rattle.ym_chart.specs.Drawing.{ends_words}
use Rattle.ym_chart.proofs.picture.push_ends.Given as goal

abbrev pub invariant-loop-number : goal.invariant-loop-number
invariant-loop-number l =
    string_bytes l.text ++ ends_words l.foot l.number (drop l.number l.ends)
    ≡ string_bytes l.fn.text ++ ends_words l.fn.foot 0 l.fn.ends
