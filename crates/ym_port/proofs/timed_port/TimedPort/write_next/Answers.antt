-- A line that is clear at once.
use Rattle.std.proofs.Common.{◌≡◌, sym, refl, subst, true}
use Rattle.ym_port.specs.TimedPort.{Cleared, Writes, is_clear, purge_for, writes}
use Rattle.ym_port.specs.declared.line.Line.{Line}
use Rattle.ym_port.proofs.Dropping.{clears-at-once}
use Rattle.ym_port.proofs.timed_port.TimedPort.write_next.Goals as goal

pub returns-then-write_at_once-clause-exact : goal.returns-then-write_at_once-clause-exact
returns-then-write_at_once-clause-exact g c u e =
    let wrote = c.write.ensures.told u e in
    let told = c.moment-now.ensures.told wrote.0 wrote.1 in
    let l : Line = c.look.new.self in
    let clear : is_clear (purge_for c.args.bytes.now l) l ≡ true = c.write_at_once.ensures.clear c.if-write_at_once.true in
    let is : c.write_at_once.new.self ≡ writes c.args.bytes.now (purge_for c.args.bytes.now l) l = rw c.if-write_at_once.true at c.write_at_once.ensures.line in
    let at_once = clears-at-once c.args.bytes.now c.args.self.now.line l (purge_for c.args.bytes.now l) told.0 wrote.0 c.moment-now.result
    told.2 told.3 c.look.ensures refl clear in (
      told.0,
      told.1,
      subst (λ (s : Cleared). Writes c.args.bytes.now s c.write.result c.write_at_once.new.self u) (sym at_once) (is, wrote.2),
    )
