use Rattle.std.proofs.Common.{◌≡◌, ◌+◌, drop}
use Rattle.ym_chart.specs.LineParts.{moment_len}
use Rattle.ym_chart.proofs.parts.moment_len.Given as goal

abbrev pub invariant-loop-place : goal.invariant-loop-place
invariant-loop-place l = l.place + moment_len (drop l.place l.line) ≡ moment_len l.line
