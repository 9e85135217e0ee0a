-- Each way out is a rule of `Receives`, behind the rules of the deliveries before.
use Rattle.std.proofs.Common.{◌≡◌, ◌≢◌, ◌+◌, ◌++◌, ◌∷◌, [], ℕ, List, take, length, arith, ap, rules, refl, sym, ◌∙◌, true, Result, Ok, Err}
use Rattle.ym_link.proofs.Names.{reply_bytes, heard_of, Tape, after_write, Receives, ended, unread, unheard, unwritten, heard_in, ReceiverParts, HearsGives, EndFault, progress_at, receiver_none, receiver_more}
use Rattle.ym_link.specs.Delivery.{bytes_read}
use Rattle.ym_link.specs.ReceiveOver.{heard, heard_at, delivery_at, behind}
use Rattle.ym_link.specs.declared.end_fault.EndFault.TheVariants as fault
use Rattle.ym_core.specs.declared.state.RecvState.TheVariants as state
use Rattle.ym_link.proofs.Histories.{asks-none, asks-more, asks-behind}
use Rattle.ym_link.proofs.ReceiverProgress.{history-is}
use Rattle.ym_link.proofs.ReceiverDeliveries.{step-fewer}
use Rattle.ym_link.proofs.receive_engine.receive_over.Goals as goal

-- a run, at a tape that is the one left
at : (r : ReceiverParts) (t : Tape) (new : ReceiverParts) (v w : Tape) (answer : Result Unit EndFault) → v ≡ w
    → Receives r t (record { receiver = new; tape = w; answer = answer }) → Receives r t (record { receiver = new; tape = v; answer = answer })
at r t new v w answer same gives = rw same gives

-- what is heard of the delivery that was read
heard-read : {A : Type 0} (t : Tape) (r x : Result (ℕ × A) EndFault) (buf : List ℕ) → bytes_read r buf ≡ (delivery_at t).delivery → r ≡ x → heard_at t ≡ heard_in (bytes_read x buf)
heard-read t r x buf told is = sym (ap heard_in told) ∙ ap (λ y. heard_in (bytes_read y buf)) is

pub returns-clause-told : goal.returns-clause-told
returns-clause-told g c u e =
    let inv = c.loop-buf.invariant.told u e in
    let over : c.loop-buf.receiver.receiver.state ≢ state.Running = search rules in
    (inv.0, inv.1, inv.2 _ (ended c.loop-buf.receiver u over))

pub returns-in_err-len-clause-told : goal.returns-in_err-len-clause-told
returns-in_err-len-clause-told g c u e =
    let got = c.take_delivery.ensures.told u e in
    let inv = c.loop-buf.invariant.told got.0 got.1 in
    let on : c.loop-buf.receiver.receiver.state ≡ state.Running = search rules in
    let answer : c.from_residual.result ≡ Err c.in_err-len.field-0.0 = search rules in
    let none : heard_at got.0 ≡ Err c.in_err-len.field-0.0 = heard-read got.0 c.take_delivery.result _ c.take_delivery.new.buf got.2 c.in_err-len.was in
    (inv.0, inv.1, rw answer (at _ _ _ _ _ _ got.3 (inv.2 _ (unread c.loop-buf.receiver got.0 c.in_err-len.field-0.0 c.is_running.ensures.receiver on none))))

pub returns-in-Err-clause-told : goal.returns-in-Err-clause-told
returns-in-Err-clause-told g c u e =
    let h = heard_of (take c.in_ok-len.len c.take_delivery.new.buf) in
    let got = c.take_delivery.ensures.told u e in
    let inv = c.loop-buf.invariant.told got.0 got.1 in
    let on : c.loop-buf.receiver.receiver.state ≡ state.Running = search rules in
    let some : heard_at got.0 ≡ Ok h = heard-read got.0 c.take_delivery.result _ c.take_delivery.new.buf got.2 c.in_ok-len.was in
    let gives : HearsGives c.loop-buf.receiver h (Err c.in-Err.field-0) c.hear_in.new.self = search rules in
    (inv.0, inv.1, rw gives.2.0 (at _ _ _ _ _ _ got.3 (inv.2 _ (unheard c.loop-buf.receiver got.0 h c.in-Err.field-0 c.is_running.ensures.receiver on some (gives.0, gives.1, (refl, gives.2.1))))))

pub returns-in_err-write_reply-in-Ok-clause-told : goal.returns-in_err-write_reply-in-Ok-clause-told
returns-in_err-write_reply-in-Ok-clause-told g c u e =
    let h = heard_of (take c.in_ok-len.len c.take_delivery.new.buf) in
    let wrote = c.write_reply.ensures.told u e in
    let got = c.take_delivery.ensures.told wrote.0 wrote.1 in
    let inv = c.loop-buf.invariant.told got.0 got.1 in
    let on : c.loop-buf.receiver.receiver.state ≡ state.Running = search rules in
    let some : heard_at got.0 ≡ Ok h = heard-read got.0 c.take_delivery.result _ c.take_delivery.new.buf got.2 c.in_ok-len.was in
    let gives : HearsGives c.loop-buf.receiver h (Ok c.in-Ok.reply) c.hear_in.new.self = search rules in
    let same : u ≡ wrote.0 = rw c.in_err-write_reply-in-Ok.was at wrote.2 in
    let device = c.write_reply.ensures.device c.in_err-write_reply-in-Ok.field-0.0 c.in_err-write_reply-in-Ok.was in
    let answer : c.from_residual-in_err-write_reply-in-Ok.result ≡ Err fault.Device = search (rules, device.0) in
    (inv.0, inv.1, rw answer (at _ _ _ _ _ _ (same ∙ got.3) (inv.2 _ (unwritten c.loop-buf.receiver got.0 h c.in-Ok.reply c.hear_in.new.self c.is_running.ensures.receiver on some gives device.1))))

pub loop-buf-smaller : goal.loop-buf-smaller
loop-buf-smaller g c =
    step-fewer c.loop-buf.receiver (heard_of (take c.in_ok-len.len c.take_delivery.new.buf)) c.in-Ok.reply c.hear_in.new.self c.is_running.ensures.receiver (search rules) (search rules) (search rules)

pub loop-buf-preserved : goal.loop-buf-preserved
loop-buf-preserved g c =
    let h = heard_of (take c.in_ok-len.len c.take_delivery.new.buf) in
    let on : c.loop-buf.receiver.receiver.state ≡ state.Running = search rules in
    let gives : HearsGives c.loop-buf.receiver h (Ok c.in-Ok.reply) c.hear_in.new.self = search rules in
    record {
      told = λ u e.
          let wrote = c.write_reply.ensures.told u e in
          let got = c.take_delivery.ensures.told wrote.0 wrote.1 in
          let inv = c.loop-buf.invariant.told got.0 got.1 in
          let some : heard_at got.0 ≡ Ok h = heard-read got.0 c.take_delivery.result _ c.take_delivery.new.buf got.2 c.in_ok-len.was in
          let spoke : u ≡ after_write true (behind got.0) (reply_bytes c.in-Ok.reply) = rw (c.in_ok-write_reply-in-Ok.was, got.3) at wrote.2 in
          (inv.0, inv.1, λ out later. inv.2 out (heard c.loop-buf.receiver got.0 h c.in-Ok.reply c.hear_in.new.self out c.is_running.ensures.receiver on some gives (rw spoke at later)));
      history =
          let old = c.loop-buf.invariant.history in (
            old.0 ++ h ∷ [],
            old.1 + progress_at c.hear_in.new.self,
            receiver_more c.args.receiver.now old.0 old.1 c.loop-buf.receiver h c.in-Ok.reply c.hear_in.new.self old.2 c.is_running.ensures.receiver on c.heard_by.ensures.large gives,
            λ w e.
                let got = c.take_delivery.ensures.asked w (c.write_reply.ensures.asked w e) in
                let inv = old.3 got.0 got.1 in
                (inv.0, inv.1, asks-behind old.0 h inv.0 got.0 w inv.2 got.2),
          );
      calm = search rules;
      left = search rules;
    }

pub loop-buf-init : goal.loop-buf-init
loop-buf-init g c = record { told = search rules; history = ([], 0, receiver_none c.args.receiver.now, λ w e. (w, e, asks-none w)); calm = search rules; left = search rules }

pub returns-clause-history : goal.returns-clause-history
returns-clause-history g c =
    let old = c.loop-buf.invariant.history in (
      old.0,
      history-is c.args.receiver.now old.0 old.1 c.loop-buf.receiver c.is_running.ensures.receiver old.2,
      λ w e. let inv = old.3 w e in (inv.0, inv.1, length old.0, omega arith, inv.2),
    )

pub returns-in_err-len-clause-history : goal.returns-in_err-len-clause-history
returns-in_err-len-clause-history g c =
    let old = c.loop-buf.invariant.history in (
      old.0,
      history-is c.args.receiver.now old.0 old.1 c.loop-buf.receiver c.is_running.ensures.receiver old.2,
      λ w e.
          let got = c.take_delivery.ensures.asked w e in
          let inv = old.3 got.0 got.1 in
          (inv.0, inv.1, length old.0 + 1, omega arith, asks-more (length old.0) inv.0 got.0 w inv.2 got.2),
    )

pub returns-in-Err-clause-history : goal.returns-in-Err-clause-history
returns-in-Err-clause-history g c =
    let old = c.loop-buf.invariant.history in
    let gives : HearsGives c.loop-buf.receiver (heard_of (take c.in_ok-len.len c.take_delivery.new.buf)) (Err c.in-Err.field-0) c.hear_in.new.self = search rules in (
      old.0,
      rw gives.2.0 (history-is c.args.receiver.now old.0 old.1 c.loop-buf.receiver c.is_running.ensures.receiver old.2),
      λ w e.
          let got = c.take_delivery.ensures.asked w e in
          let inv = old.3 got.0 got.1 in
          (inv.0, inv.1, length old.0 + 1, omega arith, asks-more (length old.0) inv.0 got.0 w inv.2 got.2),
    )

pub returns-in_err-write_reply-in-Ok-clause-history : goal.returns-in_err-write_reply-in-Ok-clause-history
returns-in_err-write_reply-in-Ok-clause-history g c =
    let h = heard_of (take c.in_ok-len.len c.take_delivery.new.buf) in
    let old = c.loop-buf.invariant.history in
    let on : c.loop-buf.receiver.receiver.state ≡ state.Running = search rules in
    let gives : HearsGives c.loop-buf.receiver h (Ok c.in-Ok.reply) c.hear_in.new.self = search rules in
    let heard_all = receiver_more c.args.receiver.now old.0 old.1 c.loop-buf.receiver h c.in-Ok.reply c.hear_in.new.self old.2 c.is_running.ensures.receiver on c.heard_by.ensures.large gives in (
      old.0 ++ h ∷ [],
      history-is c.args.receiver.now (old.0 ++ h ∷ []) (old.1 + progress_at c.hear_in.new.self) c.hear_in.new.self c.hear_in.ensures.receiver heard_all,
      λ w e.
          let got = c.take_delivery.ensures.asked w (c.write_reply.ensures.asked w e) in
          let inv = old.3 got.0 got.1 in
          (inv.0, inv.1, length (old.0 ++ h ∷ []), omega arith, asks-behind old.0 h inv.0 got.0 w inv.2 got.2),
    )
