use Rattle.std.proofs.Common.{◌≡◌, ◌<◌, [], ◌∷◌}
use Rattle.ym_core.specs.Position.{IsPosition}
use Rattle.ym_core.specs.declared.state.SendState.TheVariants.{Running}
use Rattle.link_uses.proofs.tests.ends.sends_both.Given as goal

abbrev pub invariant-loop-bytes : goal.invariant-loop-bytes
invariant-loop-bytes l = record {
  position : IsPosition (2 ∷ 0 ∷ []) l.standing.position;
  retries : l.standing.state ≡ Running → l.standing.retries < 10;
}
