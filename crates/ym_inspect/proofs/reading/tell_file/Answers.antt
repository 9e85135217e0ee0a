use Rattle.std.proofs.Common.{◌<◌, length, refl, arith}
use Rattle.std.proofs.lemmas.Grind.{common_steps}
use Rattle.ym_inspect.proofs.TellLemmas.{none_read, piece_read, all_read}
use Rattle.ym_inspect.proofs.reading.tell_file.Goals as goal

pub loop-init : goal.loop-init
loop-init g c = record {
  some = λ text e. none_read _ _ _ _ _ e;
  reads = refl;
  writes = refl;
}

pub returns-then-count-eq0-clause-tells : goal.returns-then-count-eq0-clause-tells
returns-then-count-eq0-clause-tells g c = λ text e.
    let read = rw c.if-count-eq0.true at c.in_ok-count.ensures.bytes in
    let room : 0 < length c.read_some.new.buffer = grind (arith, common_steps) in
    all_read _ _ _ _ _ _ _ _ (c.loop.invariant.some text e) read.0 (read.1 refl room)

pub loop-preserved : goal.loop-preserved
loop-preserved g c = record {
  some = λ text e.
      piece_read _ _ _ _ _ _ _ _ _ _ _ _ _ (c.loop.invariant.some text e)
      c.in_ok-count.ensures.bytes.0 c.in_ok-hold.ensures c.in_ok-tell_way.ensures.tells;
  reads = grind (arith, common_steps);
  writes = grind (arith, common_steps);
}
