use Rattle.std.proofs.Common.{◌≡◌, ◌++◌, drop, flat_map, string_bytes}
use Rattle.ym_told.specs.Runs.{escaped}
use Rattle.ym_told.proofs.runs.shown.Given as goal

abbrev pub invariant-loop-byte : goal.invariant-loop-byte
invariant-loop-byte l =
    string_bytes l.text ++ flat_map escaped (drop l.byte-index l.bytes)
    ≡ flat_map escaped l.bytes
