use Rattle.std.proofs.Common.{◌≡◌, ◌++◌, drop, flat_map, string_bytes}
use Rattle.ym_chart.specs.ChartText.{written}
use Rattle.ym_chart.proofs.text.spelled.Given as goal

abbrev pub invariant-loop-byte : goal.invariant-loop-byte
invariant-loop-byte l =
    string_bytes l.text ++ flat_map written (drop l.byte-index l.bytes) ≡ flat_map written l.bytes
