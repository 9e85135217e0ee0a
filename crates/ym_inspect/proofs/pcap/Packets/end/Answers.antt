use Rattle.std.proofs.Common.{◌≡◌, ◌∙◌, [], ap, sym, arith}
use Rattle.std.specs.Prelude.{◌≢◌}
use Rattle.std.proofs.lemmas.Grind.{common_steps}
use Rattle.ym_inspect.specs.PcapRead.{Underway}
use Rattle.ym_inspect.proofs.PcapLemmas.{ends_cut}
use Rattle.ym_inspect.proofs.pcap.Packets.end.Goals as goal

pub returns-then-not-is_empty-clause-position : goal.returns-then-not-is_empty-clause-position
returns-then-not-is_empty-clause-position g c =
    let some : c.args.self.now.buffered ≢ [] = λ e.
    let none : c.self.inside.buffered ≡ [] = ap (λ (u : Underway). u.buffered) c.self.view_is ∙ e in grind (arith, common_steps, none) in
    ends_cut c.args.self.now _ c.fault.result c.requires some c.fault.ensures
