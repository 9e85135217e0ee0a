-- Each way out of the loop is what the definition says there.
use Rattle.std.proofs.Common.{◌≡◌, ◌∙◌, refl, length, Some, None, Ok, rules}
use Rattle.ym_link.specs.Port.{Failed, seen_of}
use Rattle.ym_port.specs.declared.line.TheConstants.{MOST_READS}
use Rattle.ym_port.specs.TimedPort.{answer_of, room_for}
use Rattle.ym_port.proofs.Reading.{read-ends, read-goes-on, reads-out}
use Rattle.ym_port.proofs.reads.read_on.Goals as goal

pub returns-in-Ok-Some-clause-exact : goal.returns-in-Ok-Some-clause-exact
returns-in-Ok-Some-clause-exact g c u e =
    let got = c.read_once.ensures.exact u e in
    let inv = c.loop-done.invariant.told got.0 got.1 in
    let room : room_for c.loop-done.line.timing.role (length c.loop-done.buf) ≡ room_for c.args.line.now.timing.role (length c.args.buf.now) = cc in
    let ends : answer_of c.read_once.result c.read_once.new.buf ≡ Some (seen_of (Ok c.in-Ok-Some.got) c.read_once.new.buf) = rw (c.in-Ok-Some.is, c.in-Ok-Some.field-0-is) refl in
    (inv.0, inv.1, read-ends MOST_READS c.loop-done._done c.args.wait c.args.start _ _ c.loop-done.line c.read_once.new.line got.0 u _ _ _ c.loop-done-test.true room got.2 ends inv.2)

pub returns-in-Err-clause-exact : goal.returns-in-Err-clause-exact
returns-in-Err-clause-exact g c u e =
    let got = c.read_once.ensures.exact u e in
    let inv = c.loop-done.invariant.told got.0 got.1 in
    let room : room_for c.loop-done.line.timing.role (length c.loop-done.buf) ≡ room_for c.args.line.now.timing.role (length c.args.buf.now) = cc in
    let ends : answer_of c.read_once.result c.read_once.new.buf ≡ Some Failed = rw c.in-Err.is refl in
    (inv.0, inv.1, read-ends MOST_READS c.loop-done._done c.args.wait c.args.start _ _ c.loop-done.line c.read_once.new.line got.0 u _ _ _ c.loop-done-test.true room got.2 ends inv.2)

pub loop-done-preserved : goal.loop-done-preserved
loop-done-preserved g c = record {
  role = c.read_once.ensures.role ∙ c.loop-done.invariant.role;
  sized = search rules;
  told = λ u e.
      let got = c.read_once.ensures.exact u e in
      let inv = c.loop-done.invariant.told got.0 got.1 in
      let room : room_for c.loop-done.line.timing.role (length c.loop-done.buf) ≡ room_for c.args.line.now.timing.role (length c.args.buf.now) = cc in
      let on : answer_of c.read_once.result c.read_once.new.buf ≡ None = rw (c.in-Ok-None.is, c.in-Ok-None.field-0-is) refl in
      (inv.0, inv.1, read-goes-on MOST_READS c.loop-done._done c.args.wait c.args.start _ _ c.loop-done.line c.read_once.new.line got.0 u _ _ c.loop-done-test.true room got.2 on inv.2);
  calm = search rules;
}

pub returns-clause-exact : goal.returns-clause-exact
returns-clause-exact g c u e =
    let inv = c.loop-done.invariant.told u e in
    (inv.0, inv.1, inv.2 ∙ reads-out MOST_READS c.loop-done._done c.args.wait c.args.start _ c.loop-done.line u c.loop-done-test.false)
