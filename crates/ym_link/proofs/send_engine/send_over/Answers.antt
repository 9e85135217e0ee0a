-- Each way out is a rule of `Sends`, behind the rules of the deliveries before.
use Rattle.std.proofs.Common.{◌≡◌, ◌≢◌, ◌≤◌, ◌+◌, ◌++◌, ◌∷◌, [], length, arith, None, Result, Ok, Err, take, is_ok, rules, refl, sym, ◌∙◌}
use Rattle.std.proofs.lemmas.List.{length-take}
use Rattle.ym_link.proofs.Names.{Tape, after_write, SenderParts, IsSender, spoken, Sends, heard, EndFault, Running, sender_progress_at, sender_none, sender_more, DELIVERY_LIMIT}
use Rattle.ym_link.specs.SendOver.{ended, unwritten, unread, written_for, said, behind, delivery_to}
use Rattle.ym_link.specs.declared.end_fault.EndFault.TheVariants as fault
use Rattle.ym_link.proofs.Histories.{asks-none, asks-more, asks-behind}
use Rattle.ym_link.proofs.SenderBound.{history-is, history-none, step-fewer}
use Rattle.ym_link.proofs.send_engine.send_over.Goals as goal

-- the last write
finishes : (s : SenderParts) (u new : Tape) (result : Result Unit EndFault) → IsSender s → s.standing.state ≢ Running
    → new ≡ after_write (is_ok result) u (written_for (spoken s))
    → ((e : EndFault) → result ≡ Err e → (e ≡ fault.Device) × (spoken s ≢ None))
    → Sends s u (record { sender = s; tape = new; answer = result })
finishes s u new (Ok done) is over wrote device = rw wrote (ended s u over)
finishes s u new (Err e) is over wrote device = rw (wrote, (device e refl).0) (unwritten s u is (device e refl).1)

-- the same, at a tape that is the one left
at : (s : SenderParts) (t : Tape) (new : SenderParts) (v w : Tape) (answer : Result Unit EndFault) → v ≡ w
    → Sends s t (record { sender = new; tape = w; answer = answer }) → Sends s t (record { sender = new; tape = v; answer = answer })
at s t new v w answer same sends = rw same sends

pub returns-clause-told : goal.returns-clause-told
returns-clause-told g c ran u e =
    let wrote = c.write_frame-2.ensures.told u e in
    let inv = c.loop-buf.invariant.told wrote.0 wrote.1 in
    let over : c.loop-buf.sender.standing.state ≢ Running = search rules in
    let last = finishes c.loop-buf.sender wrote.0 u c.write_frame-2.result c.write_frame-2.ensures.sender over wrote.2
    (λ f failed. let device = c.write_frame-2.ensures.device f failed in (device.0, device.1)) in
    (inv.0, inv.1, inv.2 _ last)

pub returns-in_err-write_frame-clause-told : goal.returns-in_err-write_frame-clause-told
returns-in_err-write_frame-clause-told g c ran u e =
    let wrote = c.write_frame.ensures.told u e in
    let inv = c.loop-buf.invariant.told wrote.0 wrote.1 in
    let same = rw c.in_err-write_frame.was at wrote.2 in
    let device = c.write_frame.ensures.device c.in_err-write_frame.field-0.0 c.in_err-write_frame.was in
    let answer : c.from_residual.result ≡ Err fault.Device = search (rules, device.0) in
    (inv.0, inv.1, rw answer (at _ _ _ _ _ _ same (inv.2 _ (unwritten c.loop-buf.sender wrote.0 c.write_frame.ensures.sender device.1))))

pub returns-in_err-len-clause-told : goal.returns-in_err-len-clause-told
returns-in_err-len-clause-told g c ran u e =
    let got = c.take_delivery.ensures.told u e in
    let wrote = c.write_frame.ensures.told got.0 got.1 in
    let inv = c.loop-buf.invariant.told wrote.0 wrote.1 in
    let on : c.loop-buf.sender.standing.state ≡ Running = search rules in
    let spoke = rw c.in_ok-write_frame.was at wrote.2 in
    let answer : c.from_residual-in_err-len.result ≡ Err c.in_err-len.field-0.0 = search rules in
    let none : (delivery_to c.loop-buf.sender wrote.0).delivery ≡ Err c.in_err-len.field-0.0 = rw spoke at (sym got.2) ∙ rw c.in_err-len.was refl in
    let left : u ≡ behind c.loop-buf.sender (said c.loop-buf.sender wrote.0) = rw spoke at got.3 in
    (inv.0, inv.1, rw answer (at _ _ _ _ _ _ left (inv.2 _ (unread c.loop-buf.sender wrote.0 c.in_err-len.field-0.0 c.write_frame.ensures.sender on none))))

pub loop-buf-smaller : goal.loop-buf-smaller
loop-buf-smaller g c =
    let on : c.loop-buf.sender.standing.state ≡ Running = search rules in
    step-fewer c.loop-buf.sender (take c.in_ok-len.len c.take_delivery.new.buf) c.hear_found.new.self c.write_frame.ensures.sender on (search rules)

pub loop-buf-preserved : goal.loop-buf-preserved
loop-buf-preserved g c = record {
  ran = c.loop-buf.invariant.ran;
  told = λ u e.
      let got = c.take_delivery.ensures.told u e in
      let wrote = c.write_frame.ensures.told got.0 got.1 in
      let inv = c.loop-buf.invariant.told wrote.0 wrote.1 in
      let on : c.loop-buf.sender.standing.state ≡ Running = search rules in
      let spoke = rw c.in_ok-write_frame.was at wrote.2 in
      let whole : (delivery_to c.loop-buf.sender wrote.0).delivery ≡ Ok (take c.in_ok-len.len c.take_delivery.new.buf) = rw spoke at (sym got.2) ∙ rw c.in_ok-len.was refl in
      let left : u ≡ behind c.loop-buf.sender (said c.loop-buf.sender wrote.0) = rw spoke at got.3 in (
        inv.0,
        inv.1,
        λ out later. inv.2 out (heard c.loop-buf.sender wrote.0 (take c.in_ok-len.len c.take_delivery.new.buf) c.hear_found.new.self out c.write_frame.ensures.sender on whole (search rules) (rw left at later)),
      );
  history =
      let old = c.loop-buf.invariant.history in
      let bytes = take c.in_ok-len.len c.take_delivery.new.buf in
      let on : c.loop-buf.sender.standing.state ≡ Running = search rules in
      let within : c.in_ok-len.len ≤ DELIVERY_LIMIT = search rules in
      let short : length bytes ≤ DELIVERY_LIMIT = let most = length-take c.in_ok-len.len c.take_delivery.new.buf in omega (arith, within, most) in (
        old.0 ++ bytes ∷ [],
        old.1 + sender_progress_at c.hear_found.new.self,
        sender_more c.args.sender.now old.0 old.1 c.loop-buf.sender bytes c.hear_found.new.self old.2 c.write_frame.ensures.sender on short (search rules),
        λ w e.
            let got = c.take_delivery.ensures.asked w e in
            let inv = old.3 got.0 (c.write_frame.ensures.asked got.0 got.1) in
            (inv.0, inv.1, asks-behind old.0 bytes inv.0 got.0 w inv.2 got.2),
      );
  calm = search rules;
}

pub loop-buf-init : goal.loop-buf-init
loop-buf-init g c = record { ran = search rules; told = search rules; history = ([], 0, sender_none c.args.sender.now, λ w e. (w, e, asks-none w)); calm = search rules }

pub returns-clause-history : goal.returns-clause-history
returns-clause-history g c =
    let old = c.loop-buf.invariant.history in (
      old.0,
      history-is c.args.sender.now old.0 old.1 c.loop-buf.sender c.write_frame-2.ensures.sender old.2,
      λ w e. let inv = old.3 w (c.write_frame-2.ensures.asked w e) in (inv.0, inv.1, length old.0, omega arith, inv.2),
    )

pub returns-in_err-write_frame-clause-history : goal.returns-in_err-write_frame-clause-history
returns-in_err-write_frame-clause-history g c =
    let old = c.loop-buf.invariant.history in (
      old.0,
      history-is c.args.sender.now old.0 old.1 c.loop-buf.sender c.write_frame.ensures.sender old.2,
      λ w e. let inv = old.3 w (c.write_frame.ensures.asked w e) in (inv.0, inv.1, length old.0, omega arith, inv.2),
    )

pub returns-in_err-len-clause-history : goal.returns-in_err-len-clause-history
returns-in_err-len-clause-history g c =
    let old = c.loop-buf.invariant.history in (
      old.0,
      history-is c.args.sender.now old.0 old.1 c.loop-buf.sender c.write_frame.ensures.sender old.2,
      λ w e.
          let got = c.take_delivery.ensures.asked w e in
          let inv = old.3 got.0 (c.write_frame.ensures.asked got.0 got.1) in
          (inv.0, inv.1, length old.0 + 1, omega arith, asks-more (length old.0) inv.0 got.0 w inv.2 got.2),
    )

pub returns-then-ne-clause-history : goal.returns-then-ne-clause-history
returns-then-ne-clause-history g c = ([], history-none c.args.sender.now, λ w e. (w, e, 0, omega arith, asks-none w))
