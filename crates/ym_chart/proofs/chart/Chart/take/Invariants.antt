-- What is left, taken, leaves what all of it leaves.
use Rattle.std.proofs.Common.{◌≡◌, drop}
use Rattle.ym_chart.specs.Rows.{after_bytes}
use Rattle.ym_chart.proofs.chart.Chart.take.Given as goal

abbrev pub invariant-loop-byte : goal.invariant-loop-byte
invariant-loop-byte l =
    after_bytes l.self (drop l.byte-index l.text) ≡ after_bytes l.fn.self l.fn.text
