use Rattle.std.proofs.Common.{◌≡◌, Bool, false, ap, rules}
use Rattle.ym_inspect.specs.Recorded.{is_open}
use Rattle.ym_inspect.specs.RecordRead.{ended, so_much}
use Rattle.ym_inspect.proofs.record.Recording.end.Goals as goal

pub returns-clause-ends : goal.returns-clause-ends
returns-clause-ends g c = λ before read so.
    let s = c.args.self.now in
    let e : is_open s.state ≡ false = search rules in (
      ap (λ (b : Bool). ended (so_much s.state s.number s.buffered.items read) b) e,
      record {
        at_end = s.inspection;
        between = g.O.Output.contents c.args.out.now;
        tells = so;
        ends = c.in_ok-verdict.ensures.ends;
      },
    )
