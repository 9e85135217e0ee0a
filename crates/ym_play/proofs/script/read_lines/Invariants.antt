-- The lines so far leave the script of all to those that are left.
use Rattle.std.proofs.Common.{◌≡◌, ◌+◌, length, drop}
use Rattle.ym_play.specs.Script.{empty, lines_of, lines_read}
use Rattle.ym_play.proofs.script.read_lines.Given as goal

abbrev pub invariant-loop-line : goal.invariant-loop-line
invariant-loop-line l = record {
  number : l.number ≡ length l.yielded;
  read : lines_read 1 empty (lines_of l.fn.text) ≡ lines_read (length l.yielded + 1) l.script (drop (length l.yielded) (lines_of l.fn.text));
}
