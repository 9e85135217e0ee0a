-- The lines so far, and those of the rounds that are left, are the lines of all.
use Rattle.std.proofs.Common.{◌≡◌, ◌+◌, ◌++◌, string_bytes, drop}
use Rattle.ym_line.specs.TraceText.{round_lines}
use Rattle.ym_line.proofs.text.trace_text.Given as goal

abbrev pub invariant-loop-i : goal.invariant-loop-i
invariant-loop-i l = string_bytes l.text ++ round_lines (l.i + 1) (drop l.i l.seen-items) ≡ round_lines 1 l.trace.rounds.items
