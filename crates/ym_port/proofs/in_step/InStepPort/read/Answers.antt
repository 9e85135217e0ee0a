-- What a read gives is an event that passes.
use Rattle.std.proofs.Common.{◌≡◌, ◌∷◌, ◌∙◌, List, ap, length, rules}
use Rattle.ym_link.specs.Port.{seen_of, event_of}
use Rattle.ym_link.specs.declared.event.Event.{Event}
use Rattle.ym_port.proofs.InStepPassing.{read-passes}
use Rattle.ym_port.proofs.Passing.{fits-seen, tape_of}
use Rattle.ym_port.proofs.in_step.InStepPort.read.Goals as goal

pub returns-clause-told : goal.returns-clause-told
returns-clause-told g c u p =
    let got = c.read_next.ensures.exact p.0 p.1 in
    let seen = seen_of c.read_next.result c.read_next.new.buf in
    let size : length c.args.buf.now ≡ length c.read_next.new.buf = search rules in
    let out = read-passes c.args.wait (length c.args.buf.now) c.args.self.now.turn c.read_next.new.self.turn seen got.0.coming p.0.coming u.coming
    (fits-seen (length c.args.buf.now) c.read_next.result c.read_next.new.buf size c.read_next.ensures.count) got.3 p.3 in (
      tape_of (event_of seen ∷ u.coming) u.written,
      (got.0, got.1, p.2 ∙ got.2, out.0),
      out.1,
      ap (λ (h : List Event). tape_of h u.written) out.2,
    )
