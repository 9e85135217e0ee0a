use Rattle.std.proofs.Common.{◌<◌, length, refl}
use Rattle.std.proofs.lemmas.Grind.{common_steps}
use Rattle.std.proofs.Common.{arith, rules}
use Rattle.ym_inspect.proofs.RecordLemmas.{if_err, read_none, read_more, read_wrong, read_whole}
use Rattle.ym_inspect.proofs.record.Recording.read_all.Goals as goal

pub loop-init : goal.loop-init
loop-init g c = record {
  some = λ text before read e so. read_none _ _ _ _ _ _ _ _ read e so;
  reads = refl;
  writes = refl;
}

pub returns-then-count-eq0-clause-read : goal.returns-then-count-eq0-clause-read
returns-then-count-eq0-clause-read g c = λ text before read e so.
    let bytes = rw c.if-count-eq0.true at c.in_ok-count.ensures.bytes in
    let room : 0 < length c.read_some.new.buffer = grind (arith, common_steps) in
    read_whole _ _ _ _ _ _ _ _ _ _ (c.loop.invariant.some text before read e so) bytes.0 (bytes.1 refl room)

pub loop-preserved : goal.loop-preserved
loop-preserved g c = record {
  some = λ text before read e so.
      let some = c.loop.invariant.some text before read e so in
      read_more _ _ _ _ _ _ _ _ _ _ _ _ _ _ _ _ some c.in_ok-count.ensures.bytes.0
      (c.in_ok-take.ensures.read before some.goes.read some.goes.so_far);
  reads = grind (arith, common_steps);
  writes = grind (arith, common_steps);
}

pub returns-in_err-take-clause-line : goal.returns-in_err-take-clause-line
returns-in_err-take-clause-line g c = if_err c.from_residual-in_err-take.result c.in_err-take.field-0.0 _ (search rules) (λ text before read e so.
    let some = c.loop.invariant.some text before read e so in
    read_wrong _ _ _ _ _ _ _ _ _ _ _ c.in_err-take.field-0.0 some c.in_ok-count.ensures.bytes.0
    (c.in_err-take.ensures.line before some.goes.read some.goes.so_far))
