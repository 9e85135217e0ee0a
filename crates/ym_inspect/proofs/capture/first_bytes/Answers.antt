use Rattle.std.proofs.Common.{◌≡◌, ◌≤◌, ◌<◌, ◌++◌, length, take, arith, refl}
use Rattle.std.proofs.lemmas.Grind.{common_steps}
use Rattle.ym_capture.specs.declared.head.TheConstants.{HEAD}
use Rattle.ym_inspect.proofs.PcapLemmas.{begins_all, begins_first, one_read}
use Rattle.ym_inspect.proofs.capture.first_bytes.Goals as goal

pub loop-one-preserved : goal.loop-one-preserved
loop-one-preserved g c = record {
  short = grind (arith, common_steps);
  calm = grind (arith, common_steps);
  told = λ text e. one_read _ _ _ _ _ _ (c.loop-one.invariant.told text e) c.in_ok-count.ensures.bytes.0 (grind (arith, common_steps));
}

pub returns-then-count-eq0-clause-begins : goal.returns-then-count-eq0-clause-begins
returns-then-count-eq0-clause-begins g c = λ text e.
    let bytes = rw c.if-count-eq0.true at c.in_ok-count.ensures.bytes in
    let room : 0 < length c.read_some.new.buffer = grind (arith, common_steps) in
    let short : length c.loop-one.prefix.items ≤ HEAD = grind (arith, common_steps) in
    begins_all _ _ _ _ (c.loop-one.invariant.told text e) bytes.0 (bytes.1 refl room) short

pub returns-clause-begins : goal.returns-clause-begins
returns-clause-begins g c = λ text e.
    begins_first _ _ _ (c.loop-one.invariant.told text e) (grind (arith, common_steps))
