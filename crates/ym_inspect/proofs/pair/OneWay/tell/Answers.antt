use Rattle.std.proofs.Common.{◌∙◌, refl, arith}
use Rattle.std.proofs.lemmas.Grind.{common_steps}
use Rattle.ym_inspect.proofs.PairLemmas.{filled_by, told_by, untold_by, way_none}
use Rattle.ym_inspect.proofs.pair.OneWay.tell.Goals as goal

pub loop-init : goal.loop-init
loop-init g c = record { way = refl; reads = way_none _ _ _ _; over = λ h. h; failures = refl }

pub loop-preserved : goal.loop-preserved
loop-preserved g c = record {
  way = c.in_ok-fill.ensures.way ∙ c.loop.invariant.way;
  reads = filled_by _ _ _ _ _ _ _ _ _ _ c.loop.invariant.way
      (untold_by _ _ _ _ _ _ _ _ _ _ _ c.loop.invariant.way c.loop.invariant.reads (rw c.if-branch.false at c.in_ok-tell_one.ensures.tells))
      c.in_ok-fill.ensures.reads;
  over = λ h e. c.in_ok-fill.ensures.over e;
  failures = grind (arith, common_steps);
}

pub returns-then-branch-clause-reads : goal.returns-then-branch-clause-reads
returns-then-branch-clause-reads g c =
    told_by _ _ _ _ _ _ _ _ _ _ _ c.loop.invariant.way c.loop.invariant.reads (rw c.if-branch.true at c.in_ok-tell_one.ensures.tells)
