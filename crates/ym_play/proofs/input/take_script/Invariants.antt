-- What was taken and what is left are the text, and no read has failed.
use Rattle.std.proofs.Common.{◌≡◌, ◌≤◌, ◌+◌, ◌-◌, ◌++◌, ℕ, List, Some, length, vec_len}
use Rattle.ym_play.specs.declared.limits.TheConstants.{MOST_SCRIPT_BYTES}
use Rattle.ym_play.proofs.input.take_script.Given as goal

abbrev pub invariant-loop-buffer : goal.invariant-loop-buffer
invariant-loop-buffer g l = record {
  short : length l.bytes.items ≤ MOST_SCRIPT_BYTES + 1;
  calm : g.I.Input.failures l.input ≡ g.I.Input.failures l.fn.input;
  told : (text : List ℕ) → g.I.Input.remaining l.fn.input ≡ Some text
      → (rest : List ℕ) × (g.I.Input.remaining l.input ≡ Some rest) × (text ≡ l.bytes.items ++ rest);
}

abbrev pub decreases-loop-buffer : goal.decreases-loop-buffer
decreases-loop-buffer g l = (MOST_SCRIPT_BYTES + 1) - vec_len l.bytes
