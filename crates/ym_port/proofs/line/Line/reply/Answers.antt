-- Byte by byte.
use Rattle.std.proofs.Common.{◌<◌, length, take, arith, rules}
use Rattle.ym_port.proofs.Hearing.{hear-one}
use Rattle.ym_port.proofs.line.Line.reply.Goals as goal

pub loop-byte-preserved : goal.loop-byte-preserved
loop-byte-preserved c =
    let more : c.loop-byte.byte-index < length c.args.came.now = omega arith in
    let one = hear-one c.args.self.now c.loop-byte.self c.byte-said.new.self c.args.came.now c.loop-byte.byte-index c.byte-said.result
    (take c.loop-byte.count c.loop-byte.buf) (take c.put-count.result c.put-count.new.buf) more c.loop-byte.invariant.line c.byte-said.ensures.line c.byte-said.ensures.say
    c.put-count.ensures.heard c.loop-byte.invariant.after c.loop-byte.invariant.heard in
    record {
      within = omega arith;
      sized = search rules;
      line = one.0;
      role = search rules;
      after = one.1;
      heard = one.2;
    }
