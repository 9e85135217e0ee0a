-- What was read of the text so far, and that no read failed.
use Rattle.std.proofs.Common.{◌≡◌, ◌≤◌, ◌-◌, ◌++◌, ℕ, List, Some, vec_len}
use Rattle.ym_capture.specs.declared.head.TheConstants.{HEAD}
use Rattle.ym_inspect.proofs.capture.first_bytes.Given as goal

abbrev pub invariant-loop-one : goal.invariant-loop-one
invariant-loop-one g l = record {
  short : vec_len l.prefix ≤ HEAD;
  calm : g.I.Input.failures l.input ≡ g.I.Input.failures l.fn.input;
  told : (text : List ℕ) → g.I.Input.remaining l.fn.input ≡ Some text
      → (rest : List ℕ) × (g.I.Input.remaining l.input ≡ Some rest) × (text ≡ l.prefix.items ++ rest);
}

abbrev pub decreases-loop-one : goal.decreases-loop-one
decreases-loop-one g l = HEAD - vec_len l.prefix
