-- Each way out of a read is what the definition says there.
use Rattle.std.proofs.Common.{ℕ, ◌≡◌, ◌≤◌, ◌++◌, false, ◌-◌, [], length, take, rules, refl, sym, ◌∙◌, ap, Ok, Err}
use Rattle.std.proofs.lemmas.Slice.{overwrites}
use borrow.Rule.Slice.PartMut.{put_mid, same_len_mid}
use Rattle.ym_link.specs.Delivery.{taken}
use Rattle.ym_link.specs.Port.{Tape, Data, Silence, End, Failed}
use Rattle.ym_link.specs.ReceiveOver.{has_item}
use Rattle.ym_link.specs.declared.end_fault.EndFault.TheVariants as fault
use Rattle.ym_link.specs.declared.port.TheConstants.{DELIVERY_LIMIT}
use Rattle.ym_port.proofs.Gathering.{onward, onward-full, way-out, read-into, read-out, after-read}
use Rattle.ym_port.proofs.in_step.gather.Goals as goal

rest-is : (len size : ℕ) → size ≡ DELIVERY_LIMIT → size - len ≡ DELIVERY_LIMIT - len
rest-is len size e = ap (λ (n : ℕ). n - len) e

pub returns-in-Ok-Closed-clause-told : goal.returns-in-Ok-Closed-clause-told
returns-in-Ok-Closed-clause-told g c u e =
    let got = c.read.ensures.told u e in
    read-out has_item c.loop-len.len (length c.loop-len.buf - c.loop-len.len) c.loop-len.buf c.loop-len-test.true c.loop-len.invariant.sized (rest-is _ _ c.loop-len.invariant.sized) End got.0 u (Err fault.Closed)
    (c.loop-len.invariant.told got.0 got.1) (rw (c.in-Ok-Closed.is, c.in-Ok-Closed.field-0-is) at got.2) (λ r. refl) got.3

pub returns-in-Err-clause-told : goal.returns-in-Err-clause-told
returns-in-Err-clause-told g c u e =
    let got = c.read.ensures.told u e in
    read-out has_item c.loop-len.len (length c.loop-len.buf - c.loop-len.len) c.loop-len.buf c.loop-len-test.true c.loop-len.invariant.sized (rest-is _ _ c.loop-len.invariant.sized) Failed got.0 u (Err fault.Device)
    (c.loop-len.invariant.told got.0 got.1) (rw c.in-Err.is at got.2) (λ r. refl) got.3

pub returns-in-Ok-Quiet-clause-told : goal.returns-in-Ok-Quiet-clause-told
returns-in-Ok-Quiet-clause-told g c u e =
    let got = c.read.ensures.told u e in
    let same : take c.loop-len.len (put_mid c.loop-len.len (length c.loop-len.buf - c.loop-len.len) c.loop-len.buf c.read.new.buf) ≡ take c.loop-len.len c.loop-len.buf = search (rules, overwrites) in
    rw same (read-out has_item c.loop-len.len (length c.loop-len.buf - c.loop-len.len) c.loop-len.buf c.loop-len-test.true c.loop-len.invariant.sized (rest-is _ _ c.loop-len.invariant.sized) Silence got.0 u (Ok (take c.loop-len.len c.loop-len.buf))
    (c.loop-len.invariant.told got.0 got.1) (rw (c.in-Ok-Quiet.is, c.in-Ok-Quiet.field-0-is) at got.2) (λ r. refl) got.3)

pub returns-then-has_frame-clause-told : goal.returns-then-has_frame-clause-told
returns-then-has_frame-clause-told g c u e =
    let got = c.read.ensures.told u e in
    let same = read-into c.loop-len.len c.in-Ok-Bytes.n (length c.loop-len.buf - c.loop-len.len) c.loop-len.buf c.read.new.buf (search rules) (search rules) in
    let done = rw same at (sym c.has_frame.ensures.exact ∙ c.if-has_frame.true) in
    rw same (read-out has_item c.loop-len.len (length c.loop-len.buf - c.loop-len.len) c.loop-len.buf c.loop-len-test.true c.loop-len.invariant.sized (rest-is _ _ c.loop-len.invariant.sized) (Data (take c.in-Ok-Bytes.n c.read.new.buf)) got.0 u
    (Ok (take c.loop-len.len c.loop-len.buf ++ take c.in-Ok-Bytes.n c.read.new.buf)) (c.loop-len.invariant.told got.0 got.1) (rw (c.in-Ok-Bytes.is, c.in-Ok-Bytes.field-0-is) at got.2) (λ r. rw done refl) got.3)

pub returns-clause-told : goal.returns-clause-told
returns-clause-told g c u e =
    let inv = c.loop-len.invariant.told u e in
    let had_len : length (take c.loop-len.len c.loop-len.buf) ≡ c.loop-len.len = search rules in
    let full : DELIVERY_LIMIT ≤ length (take c.loop-len.len c.loop-len.buf) = rw had_len c.loop-len-test.false in
    let out = way-out inv.0 _ (taken has_item [] inv.0.coming) (Ok (take c.loop-len.len c.loop-len.buf)) u.coming u.written (inv.3 ∙ onward-full has_item (take c.loop-len.len c.loop-len.buf) u.coming full) inv.2 refl in
    (inv.0, inv.1, out.0, out.1)

pub loop-len-preserved : goal.loop-len-preserved
loop-len-preserved g c =
    let same = read-into c.loop-len.len c.in-Ok-Bytes.n (length c.loop-len.buf - c.loop-len.len) c.loop-len.buf c.read.new.buf (search rules) (search rules) in
    record {
      within = search rules;
      sized = same_len_mid c.loop-len.len (length c.loop-len.buf - c.loop-len.len) c.loop-len.buf c.read.new.buf (search rules) ∙ c.loop-len.invariant.sized;
      told = λ u e.
          let got = c.read.ensures.told u e in
          let inv = c.loop-len.invariant.told got.0 got.1 in
          let on : has_item (take c.loop-len.len c.loop-len.buf ++ take c.in-Ok-Bytes.n c.read.new.buf) ≡ false = rw same at (sym c.has_frame.ensures.exact ∙ c.if-has_frame.false) in
          let after = after-read has_item c.loop-len.len (length c.loop-len.buf - c.loop-len.len) c.loop-len.buf c.loop-len-test.true c.loop-len.invariant.sized (rest-is _ _ c.loop-len.invariant.sized)
          (Data (take c.in-Ok-Bytes.n c.read.new.buf)) _ got.0.coming inv.3 (rw (c.in-Ok-Bytes.is, c.in-Ok-Bytes.field-0-is) at got.2) in
          let coming = ap (λ (x : Tape). onward has_item (take c.loop-len.len c.loop-len.buf ++ take c.in-Ok-Bytes.n c.read.new.buf) x.coming) (sym got.3) in
          (inv.0, inv.1, ap (λ (x : Tape). x.written) got.3 ∙ inv.2, rw same (rw on at after ∙ coming));
      calm = search rules;
    }

pub loop-len-init : goal.loop-len-init
loop-len-init g c = record { within = search rules; sized = search rules; told = search rules; calm = search rules }
