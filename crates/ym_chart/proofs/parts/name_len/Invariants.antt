use Rattle.std.proofs.Common.{◌≡◌, ◌+◌, drop}
use Rattle.ym_chart.specs.LineParts.{name_len}
use Rattle.ym_chart.proofs.parts.name_len.Given as goal

abbrev pub invariant-loop-place : goal.invariant-loop-place
invariant-loop-place l = l.place + name_len (drop l.place l.words) ≡ name_len l.words
