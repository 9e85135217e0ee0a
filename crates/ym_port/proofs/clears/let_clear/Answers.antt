-- Each way out of the loop is what the definition says there.
use Rattle.std.proofs.Common.{◌≡◌, ◌+◌, ◌-◌, ◌∙◌, sym, true, false, arith, rules}
use Rattle.ym_port.specs.declared.line.TheConstants.{MOST_READS}
use Rattle.ym_port.specs.TimedPort.{is_clear}
use Rattle.ym_port.proofs.Dropping.{cleared-ends, cleared-goes-on, cleared-over, cleared-out}
use Rattle.ym_port.proofs.clears.let_clear.Goals as goal

pub returns-then-is_clear-clause-exact : goal.returns-then-is_clear-clause-exact
returns-then-is_clear-clause-exact g c u e =
    let inv = c.loop-done.invariant.told u e in
    let more = c.loop-done-test.true in
    let clear : is_clear c.loop-done.purge c.loop-done.line ≡ true = sym c.is_clear.ensures ∙ c.if-is_clear.true in
    (inv.0, inv.1, inv.2 ∙ cleared-over (MOST_READS - c.loop-done._done) (MOST_READS - (c.loop-done._done + 1)) c.loop-done.purge c.loop-done.line u (omega (arith, more)) clear)

pub returns-in-Err-clause-exact : goal.returns-in-Err-clause-exact
returns-in-Err-clause-exact g c u e =
    let got = c.clear_once.ensures.exact u e in
    let inv = c.loop-done.invariant.told got.0 got.1 in
    let on : is_clear c.loop-done.purge c.loop-done.line ≡ false = sym c.is_clear.ensures ∙ c.if-is_clear.false in
    (inv.0, inv.1, cleared-ends MOST_READS c.loop-done._done c.loop-done.purge c.loop-done.line c.clear_once.new.line got.0 u _ _ _ c.loop-done-test.true on got.2 c.in-Err.is inv.2)

pub loop-done-preserved : goal.loop-done-preserved
loop-done-preserved g c = record {
  told = λ u e.
      let got = c.clear_once.ensures.exact u e in
      let inv = c.loop-done.invariant.told got.0 got.1 in
      let on : is_clear c.loop-done.purge c.loop-done.line ≡ false = sym c.is_clear.ensures ∙ c.if-is_clear.false in
      (inv.0, inv.1, cleared-goes-on MOST_READS c.loop-done._done c.loop-done.purge c.loop-done.line c.clear_once.new.line got.0 u _ _ _ c.loop-done-test.true on got.2 c.in-Ok.is inv.2);
  calm = search rules;
}

pub returns-clause-exact : goal.returns-clause-exact
returns-clause-exact g c u e =
    let inv = c.loop-done.invariant.told u e in
    (inv.0, inv.1, inv.2 ∙ cleared-out MOST_READS c.loop-done._done c.loop-done.purge c.loop-done.line u c.loop-done-test.false)
