use Rattle.std.proofs.Common.{refl, arith}
use Rattle.std.proofs.lemmas.Grind.{common_steps}
use Rattle.ym_inspect.specs.CaptureTold.{nothing}
use Rattle.ym_inspect.proofs.TellLemmas.{one_told}
use Rattle.ym_inspect.proofs.inspection.Inspection.tell_way.Goals as goal

pub loop-init : goal.loop-init
loop-init g c = record { tells = nothing _ _; failures = refl }

pub loop-preserved : goal.loop-preserved
loop-preserved g c = record {
  tells = one_told _ _ _ _ _ _ _ _ _ c.loop.invariant.tells
      (rw c.if-not-branch.false at c.in_ok-tell_one.ensures.tells);
  failures = grind (arith, common_steps);
}
