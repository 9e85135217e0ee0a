use Rattle.std.proofs.Common.{◌≡◌, ℕ, List, [], sym, subst, arith}
use Rattle.std.proofs.lemmas.Grind.{common_steps}
use Rattle.ym_inspect.specs.CaptureTold.{Tells, nothing, tagged}
use Rattle.ym_inspect.proofs.pcap.tell_fresh.Goals as goal

pub returns-then-is_empty-clause-tells : goal.returns-then-is_empty-clause-tells
returns-then-is_empty-clause-tells g c =
    let none : c.args.fresh.now ≡ [] = grind (arith, common_steps) in
    subst (λ (xs : List ℕ). Tells c.args.inspection.now (g.O.Output.contents c.args.out.now) (tagged c.args.way xs)
    c.args.inspection.now (g.O.Output.contents c.args.out.now)) (sym none) (nothing _ _)
