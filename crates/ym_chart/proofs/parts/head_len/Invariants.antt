use Rattle.std.proofs.Common.{◌≡◌, ◌+◌, drop}
use Rattle.ym_chart.specs.LineParts.{head_len}
use Rattle.ym_chart.proofs.parts.head_len.Given as goal

abbrev pub invariant-loop-place : goal.invariant-loop-place
invariant-loop-place l = l.place + head_len (drop l.place l.words) ≡ head_len l.words
