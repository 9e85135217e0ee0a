use Rattle.std.proofs.Common.{◌∙◌, ◌++◌, ℕ, List, Err, sym, subst, ap, rules}
use Rattle.ym_capture.specs.CaptureHead.{kind_of}
use Rattle.ym_capture.specs.declared.head.CaptureKind.{CaptureKind}
use Rattle.ym_inspect.specs.FirstBytes.{Begins}
use Rattle.ym_inspect.specs.PcapRead.{FaultOfKind, SaysPosition, TellsKind, TellsPcap}
use Rattle.ym_inspect.specs.declared.fault.InspectFault.{InspectFault}
use Rattle.ym_inspect.proofs.PcapLemmas.{first_packets, no_fault_of}
use Rattle.ym_inspect.proofs.RecordLemmas.{also_err, also_ok, if_err, never_cut}
use Rattle.ym_inspect.proofs.capture.explain_capture.Goals as goal

pub returns-in_err-prefix-clause-fault : goal.returns-in_err-prefix-clause-fault
returns-in_err-prefix-clause-fault g c = if_err c.from_residual.result c.in_err-prefix.field-0.0 _ (search rules) (λ text e.
    no_fault_of _ _ _ _ (λ n why is. c.in_err-prefix.ensures.why.1 n why (ap (λ (f : InspectFault). Err f) is))
    (λ p why is. c.in_err-prefix.ensures.why.2 p why (ap (λ (f : InspectFault). Err f) is))
    (λ n is. c.in_err-prefix.ensures.why.3 n (ap (λ (f : InspectFault). Err f) is)))

pub returns-in_err-prefix-clause-cut : goal.returns-in_err-prefix-clause-cut
returns-in_err-prefix-clause-cut g c = if_err c.from_residual.result c.in_err-prefix.field-0.0 _ (search rules) (λ text e.
    never_cut _ _ _ _ (λ n is. c.in_err-prefix.ensures.why.3 n (ap (λ (f : InspectFault). Err f) is)))

pub returns-in-Other-clause-told : goal.returns-in-Other-clause-told
returns-in-Other-clause-told g c = also_ok c.tell_record.result _ _ c.tell_record.ensures.told (λ verdict told. λ text e.
    let b = subst (λ (xs : List ℕ). Begins xs text (g.I.Input.remaining c.first_bytes.new.input)) (sym c.as_slice-prefix.ensures.value)
    (c.in_ok-prefix.ensures.begins text e) in
    subst (λ (k : CaptureKind). TellsKind k c.args.turned text (g.O.Output.contents c.args.out.now) verdict (g.O.Output.contents c.tell_record.new.out))
    (sym (ap kind_of (sym b.first) ∙ sym c.kind_of.ensures ∙ c.in-Other.is)) (told text b))

pub returns-in-Other-clause-fault : goal.returns-in-Other-clause-fault
returns-in-Other-clause-fault g c = also_err c.tell_record.result _ _ c.tell_record.ensures.line (λ fault says. λ text e.
    let b = subst (λ (xs : List ℕ). Begins xs text (g.I.Input.remaining c.first_bytes.new.input)) (sym c.as_slice-prefix.ensures.value)
    (c.in_ok-prefix.ensures.begins text e) in
    subst (λ (k : CaptureKind). FaultOfKind k c.args.turned fault text)
    (sym (ap kind_of (sym b.first) ∙ sym c.kind_of.ensures ∙ c.in-Other.is)) (says text b))

pub returns-in-Other-clause-cut : goal.returns-in-Other-clause-cut
returns-in-Other-clause-cut g c = also_err c.tell_record.result _ _ c.tell_record.ensures.cut (λ fault cut. λ text e.
    cut text (subst (λ (xs : List ℕ). Begins xs text (g.I.Input.remaining c.first_bytes.new.input)) (sym c.as_slice-prefix.ensures.value)
    (c.in_ok-prefix.ensures.begins text e)))

pub returns-in_err-form-in-Pcap-clause-cut : goal.returns-in_err-form-in-Pcap-clause-cut
returns-in_err-form-in-Pcap-clause-cut g c =
    if_err c.from_residual-in_err-form-in-Pcap.result c.in_err-form-in-Pcap.field-0.0 _ (search rules) (λ text e.
    never_cut _ _ _ _ (λ n is. c.in_err-form-in-Pcap.ensures.uncut n (ap (λ (f : InspectFault). Err f) is)))

pub returns-in_err-form-in-Pcap-clause-fault : goal.returns-in_err-form-in-Pcap-clause-fault
returns-in_err-form-in-Pcap-clause-fault g c =
    if_err c.from_residual-in_err-form-in-Pcap.result c.in_err-form-in-Pcap.field-0.0 _ (search rules) (λ text e.
    let b = subst (λ (xs : List ℕ). Begins xs text (g.I.Input.remaining c.first_bytes.new.input)) (sym c.as_slice-prefix.ensures.value)
    (c.in_ok-prefix.ensures.begins text e) in
    subst (λ (k : CaptureKind). FaultOfKind k c.args.turned c.in_err-form-in-Pcap.field-0.0 text)
    (sym (ap kind_of (sym b.first) ∙ sym c.kind_of.ensures ∙ c.in-Pcap.is))
    (c.in_err-form-in-Pcap.ensures.position c.args.turned text _ b))

pub returns-clause-told : goal.returns-clause-told
returns-clause-told g c = also_ok c.explain.result _ _ c.explain.ensures.told (λ verdict told. λ text e.
    let b = subst (λ (xs : List ℕ). Begins xs text (g.I.Input.remaining c.first_bytes.new.input)) (sym c.as_slice-prefix.ensures.value)
    (c.in_ok-prefix.ensures.begins text e) in
    let before = g.O.Output.contents c.args.out.now in
    let first = first_packets c.args.turned c.in-Pcap.order c.in-Pcap.part c.as_slice-prefix.result.now text c.in_ok-form-in-Pcap.form before
    c.new-packets.result c.new-packets.ensures b.first c.in_ok-form-in-Pcap.ensures.there c.in_ok-form-in-Pcap.ensures.form in
    subst (λ (k : CaptureKind). TellsKind k c.args.turned text before verdict (g.O.Output.contents c.explain.new.out))
    (sym (ap kind_of (sym b.first) ∙ sym c.kind_of.ensures ∙ c.in-Pcap.is))
    (subst (λ (t : List ℕ). TellsPcap c.args.turned c.in-Pcap.order c.in-Pcap.part t before verdict (g.O.Output.contents c.explain.new.out)) (sym b.split)
    (told b.rest b.left_is c.args.turned c.in-Pcap.order c.in-Pcap.part c.as_slice-prefix.result.now before first)))

pub returns-clause-fault : goal.returns-clause-fault
returns-clause-fault g c = also_err c.explain.result _ _ c.explain.ensures.position (λ fault stop. λ text e.
    let b = subst (λ (xs : List ℕ). Begins xs text (g.I.Input.remaining c.first_bytes.new.input)) (sym c.as_slice-prefix.ensures.value)
    (c.in_ok-prefix.ensures.begins text e) in
    let before = g.O.Output.contents c.args.out.now in
    let first = first_packets c.args.turned c.in-Pcap.order c.in-Pcap.part c.as_slice-prefix.result.now text c.in_ok-form-in-Pcap.form before
    c.new-packets.result c.new-packets.ensures b.first c.in_ok-form-in-Pcap.ensures.there c.in_ok-form-in-Pcap.ensures.form in
    subst (λ (k : CaptureKind). FaultOfKind k c.args.turned fault text)
    (sym (ap kind_of (sym b.first) ∙ sym c.kind_of.ensures ∙ c.in-Pcap.is))
    (subst (λ (t : List ℕ). SaysPosition c.args.turned c.in-Pcap.order c.in-Pcap.part fault t) (sym b.split)
    (stop b.rest b.left_is c.args.turned c.in-Pcap.order c.in-Pcap.part c.as_slice-prefix.result.now before first)))

-- no packet is a line
pub returns-clause-cut : goal.returns-clause-cut
returns-clause-cut g c = also_err c.explain.result _ _ c.explain.ensures.position (λ fault stop. λ text e.
    let b = subst (λ (xs : List ℕ). Begins xs text (g.I.Input.remaining c.first_bytes.new.input)) (sym c.as_slice-prefix.ensures.value)
    (c.in_ok-prefix.ensures.begins text e) in
    let before = g.O.Output.contents c.args.out.now in
    let first = first_packets c.args.turned c.in-Pcap.order c.in-Pcap.part c.as_slice-prefix.result.now text c.in_ok-form-in-Pcap.form before
    c.new-packets.result c.new-packets.ensures b.first c.in_ok-form-in-Pcap.ensures.there c.in_ok-form-in-Pcap.ensures.form in
    let says = stop b.rest b.left_is c.args.turned c.in-Pcap.order c.in-Pcap.part c.as_slice-prefix.result.now before first in
    never_cut fault _ _ _ (λ n is.
    subst (λ (f : InspectFault). SaysPosition c.args.turned c.in-Pcap.order c.in-Pcap.part f (c.as_slice-prefix.result.now ++ b.rest)) is says))
