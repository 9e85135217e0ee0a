use Rattle.std.proofs.Common.{◌∙◌, ℕ, List, sym, subst, ap}
use Rattle.ym_capture.specs.declared.fault.CaptureFault.TheVariants.{Long}
use Rattle.ym_inspect.specs.PcapRead.{Underway, StopsWith}
use Rattle.ym_inspect.specs.contracts.pcap.Packets.{the_view}
use Rattle.ym_inspect.specs.declared.fault.InspectFault.TheVariants as fault
use Rattle.ym_inspect.proofs.PcapLemmas.{packet_long}
use Rattle.ym_inspect.proofs.pcap.Packets.tell_one.Goals as goal

pub returns-then-head-gt-MOST_PACKET-clause-position :
    goal.returns-then-head-gt-MOST_PACKET-clause-position
returns-then-head-gt-MOST_PACKET-clause-position g c =
    subst (λ (u : Underway). (more : List ℕ) → StopsWith more u (g.O.Output.contents c.args.out.now) c.fault.result) c.self.view_is
    (packet_long (the_view c.self.inside) _ c.fault.result (rw c.as_slice-buffered.ensures at c.if-buffered-lt-PACKET_HEAD.false)
    (rw (c.packet_head-head.ensures, c.as_slice-buffered.ensures) at c.if-head-gt-MOST_PACKET.true)
    (c.fault.ensures ∙ ap (λ (u : Underway). fault.Packet u.at.position Long) (sym c.self.view_is)))
