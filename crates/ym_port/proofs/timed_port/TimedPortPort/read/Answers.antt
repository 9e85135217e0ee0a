-- What a read gives is an event that passes.
use Rattle.std.proofs.Common.{◌≡◌, ◌∷◌, length, rules}
use Rattle.ym_link.specs.Port.{seen_of, event_of}
use Rattle.ym_port.proofs.Passing.{read-passes, fits-seen, tape_of}
use Rattle.ym_port.proofs.timed_port.TimedPortPort.read.Goals as goal

pub returns-clause-told : goal.returns-clause-told
returns-clause-told g c u p =
    let got = c.read_next.ensures.exact p.0 p.1 in
    let size : length c.args.buf.now ≡ length c.read_next.new.buf = search rules in
    let out = read-passes c.args.wait (length c.args.buf.now) c.args.self.now.line c.read_next.new.self.line (seen_of c.read_next.result c.read_next.new.buf) u p.0 got.0
    (fits-seen (length c.args.buf.now) c.read_next.result c.read_next.new.buf size c.read_next.ensures.count) got.2 p.2 p.3 in
    (tape_of (event_of (seen_of c.read_next.result c.read_next.new.buf) ∷ u.coming) u.written, (got.0, got.1, out.0, out.1), out.2, out.3)
