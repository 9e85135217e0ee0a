use Rattle.std.proofs.Common.{◌≡◌, ◌∙◌, ◌+◌, ◌≤◌, ℕ, List, [], length, take, sym, subst, ap, refl}
use Rattle.ym_capture.specs.OneConnection.{behind_packet, fresh_in, way_in}
use Rattle.ym_capture.specs.declared.head.TheConstants.{PACKET_HEAD}
use Rattle.ym_inspect.specs.CaptureTold.{Tells, tagged}
use Rattle.ym_inspect.specs.PcapRead.{Underway, PacketsTold, StopsWith, length_in, reached}
use Rattle.ym_inspect.specs.contracts.pcap.Packets.{the_view}
use Rattle.ym_inspect.specs.declared.fault.InspectFault.TheVariants as fault
use Rattle.ym_inspect.proofs.PcapLemmas.{packet_told, packet_wrong, tail_is}
use Rattle.ym_inspect.proofs.pcap.Packets.tell_packet.Goals as goal

pub returns-in-Err-clause-position : goal.returns-in-Err-clause-position
returns-in-Err-clause-position g c =
    let same : the_view c.self.inside ≡ c.args.self.now = c.self.view_is ∙ c.moment-at.ensures in
    let there = subst (λ (u : Underway). PACKET_HEAD + c.args.count ≤ length u.buffered) (sym same) c.requires.there in
    let stated = subst (λ (u : Underway). c.args.count ≡ length_in u.at.form (take PACKET_HEAD u.buffered)) (sym same) c.requires.stated in
    let tail = tail_is PACKET_HEAD c.self.inside.buffered in
    subst (λ (u : Underway). (more : List ℕ) → StopsWith more u (g.O.Output.contents c.args.out.now) c.fault.result) same
    (packet_wrong (the_view c.self.inside) c.args.count _ c.in-Err.why _ there stated
    (ap (λ (xs : List ℕ). behind_packet c.self.inside.connection (take c.args.count xs)) (sym tail)
    ∙ (rw c.as_slice.ensures at (sym c.behind.ensures ∙ c.in-Err.is)))
    (c.fault.ensures ∙ ap (λ (u : Underway). fault.Packet u.at.position c.in-Err.why) (sym c.self.view_is)))

pub returns-clause-read : goal.returns-clause-read
returns-clause-read g c =
    let same : the_view c.self.inside ≡ c.args.self.now = c.self.view_is ∙ c.moment-at.ensures in
    let there = subst (λ (u : Underway). PACKET_HEAD + c.args.count ≤ length u.buffered) (sym same) c.requires.there in
    let stated = subst (λ (u : Underway). c.args.count ≡ length_in u.at.form (take PACKET_HEAD u.buffered)) (sym same) c.requires.stated in
    let tail = tail_is PACKET_HEAD c.self.inside.buffered in
    λ turned order part text before so.
    packet_told (the_view c.self.inside) _ c.args.count _ _ c.in-Ok.behind there stated
    (ap (λ (xs : List ℕ). behind_packet c.self.inside.connection (take c.args.count xs)) (sym tail)
    ∙ (rw c.as_slice.ensures at (sym c.behind.ensures ∙ c.in-Ok.is)))
    (subst (λ (xs : List ℕ). Tells c.self.inside.inspection (g.O.Output.contents c.args.out.now)
    (tagged (way_in c.in-Ok.behind (take c.args.count xs)) (fresh_in c.self.inside.connection (take c.args.count xs)))
    c.tell_fresh.new.inspection (g.O.Output.contents c.tell_fresh.new.out)) tail
    (rw (c.way.ensures, c.fresh-fresh.ensures, c.as_slice.ensures) at c.in_ok-tell_fresh.ensures.tells))
    (ap (λ (p : ℕ). reached c.self.inside.form c.in-Ok.behind p) c.saturating_add-self-inside.ensures) c.let_go.ensures
    turned order part text before
    (subst (λ (u : Underway). PacketsTold turned order part text before u (g.O.Output.contents c.args.out.now)) (sym same) so)
