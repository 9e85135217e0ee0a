-- Position by position.
use Rattle.std.proofs.Common.{◌≡◌, ◌≢◌, ◌<◌, ◌+◌, ◌-◌, ◌∙◌, sym, length, arith, rules}
use Rattle.std.proofs.lemmas.List.{drop-take, get_or-set_other}
use Rattle.ym_port.proofs.Hearing.{shift-one}
use Rattle.ym_port.proofs.line.shift.Goals as goal

pub loop-position-preserved : goal.loop-position-preserved
loop-position-preserved c =
    let within : c.loop-position.position + c.args.by < length c.args.buf.now = omega arith in
    record {
      sized = search rules;
      moved = shift-one c.args.buf.now c.loop-position.buf c.loop-position.position c.args.by c.loop-position.invariant.sized within
          c.loop-position.invariant.moved (c.loop-position.invariant.others (c.loop-position.position + c.args.by) (omega arith));
      others = λ k h.
          let ne : k ≢ c.loop-position.position = omega arith in
          rw get_or-set_other (c.loop-position.invariant.others k (omega arith));
    }

pub returns-clause-prefix : goal.returns-clause-prefix
returns-clause-prefix c =
    let at : c.loop-position.position ≡ c.args.count - c.args.by = omega arith in
    let whole : c.args.by + (c.args.count - c.args.by) ≡ c.args.count = omega arith in
    rw at at c.loop-position.invariant.moved
    ∙ sym (rw whole at (drop-take c.args.by (c.args.count - c.args.by) c.args.buf.now))
