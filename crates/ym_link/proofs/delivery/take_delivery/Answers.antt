-- Each way out of a read is what the definition says there.
use Rattle.std.proofs.Common.{◌≡◌, ◌≤◌, ◌++◌, false, ◌-◌, [], length, take, rules, inl, inr, refl, sym, ◌∙◌, ap, Ok, Err}
use Rattle.std.proofs.lemmas.Slice.{overwrites}
use borrow.Rule.Slice.PartMut.{put_mid, same_len_mid}
use Rattle.ym_link.proofs.Names.{Tape, Data, Failed, taken, DELIVERY_LIMIT}
use Rattle.ym_link.specs.Port.{End, Silence}
use Rattle.ym_link.specs.declared.end_fault.EndFault.TheVariants as fault
use Rattle.ym_link.proofs.Histories.{scan-none, scan-more, scan-last, scan-full}
use Rattle.ym_link.proofs.Taking.{onward, onward-full, way-out, read-into, read-out, after-read}
use Rattle.ym_link.proofs.delivery.take_delivery.Goals as goal

pub returns-in-Ok-Closed-clause-told : goal.returns-in-Ok-Closed-clause-told
returns-in-Ok-Closed-clause-told g c u e =
    let got = c.read.ensures.told u e in
    read-out (g.L.Listener.ends c.args.listener.now) c.loop-len.len c.loop-len.buf c.loop-len-test.true c.loop-len.invariant.sized End got.0 u (Err fault.Closed)
    (c.loop-len.invariant.told got.0 got.1) (rw (c.in-Ok-Closed.is, c.in-Ok-Closed.field-0-is) at got.2) (λ r. refl) got.3

pub returns-in-Err-clause-told : goal.returns-in-Err-clause-told
returns-in-Err-clause-told g c u e =
    let got = c.read.ensures.told u e in
    read-out (g.L.Listener.ends c.args.listener.now) c.loop-len.len c.loop-len.buf c.loop-len-test.true c.loop-len.invariant.sized Failed got.0 u (Err fault.Device)
    (c.loop-len.invariant.told got.0 got.1) (rw c.in-Err.is at got.2) (λ r. refl) got.3

pub returns-in-Ok-Quiet-clause-told : goal.returns-in-Ok-Quiet-clause-told
returns-in-Ok-Quiet-clause-told g c u e =
    let got = c.read.ensures.told u e in
    let same : take c.loop-len.len (put_mid c.loop-len.len (DELIVERY_LIMIT - c.loop-len.len) c.loop-len.buf c.read.new.buf) ≡ take c.loop-len.len c.loop-len.buf = search (rules, overwrites) in
    rw same (read-out (g.L.Listener.ends c.args.listener.now) c.loop-len.len c.loop-len.buf c.loop-len-test.true c.loop-len.invariant.sized Silence got.0 u (Ok (take c.loop-len.len c.loop-len.buf))
    (c.loop-len.invariant.told got.0 got.1) (rw (c.in-Ok-Quiet.is, c.in-Ok-Quiet.field-0-is) at got.2) (λ r. refl) got.3)

pub returns-in-Some-clause-told : goal.returns-in-Some-clause-told
returns-in-Some-clause-told g c u e =
    let got = c.read.ensures.told u e in
    let same = read-into c.loop-len.len c.in-Ok-Bytes.n (DELIVERY_LIMIT - c.loop-len.len) c.loop-len.buf c.read.new.buf (search rules) (search rules) in
    let done = rw same at c.in-Some.ensures.0 in
    rw same (read-out (g.L.Listener.ends c.args.listener.now) c.loop-len.len c.loop-len.buf c.loop-len-test.true c.loop-len.invariant.sized (Data (take c.in-Ok-Bytes.n c.read.new.buf)) got.0 u
    (Ok (take c.loop-len.len c.loop-len.buf ++ take c.in-Ok-Bytes.n c.read.new.buf)) (c.loop-len.invariant.told got.0 got.1) (rw (c.in-Ok-Bytes.is, c.in-Ok-Bytes.field-0-is) at got.2) (λ r. rw done refl) got.3)

pub returns-clause-told : goal.returns-clause-told
returns-clause-told g c u e =
    let inv = c.loop-len.invariant.told u e in
    let had_len : length (take c.loop-len.len c.loop-len.buf) ≡ c.loop-len.len = search rules in
    let full : DELIVERY_LIMIT ≤ length (take c.loop-len.len c.loop-len.buf) = rw had_len c.loop-len-test.false in
    let out = way-out inv.0 _ (taken (g.L.Listener.ends c.args.listener.now) [] inv.0.coming) (Ok (take c.loop-len.len c.loop-len.buf)) u.coming u.written (inv.3 ∙ onward-full (g.L.Listener.ends c.args.listener.now) (take c.loop-len.len c.loop-len.buf) u.coming full) inv.2 refl in
    (inv.0, inv.1, out.0, out.1)

pub loop-len-preserved : goal.loop-len-preserved
loop-len-preserved g c =
    let same = read-into c.loop-len.len c.in-Ok-Bytes.n (DELIVERY_LIMIT - c.loop-len.len) c.loop-len.buf c.read.new.buf (search rules) (search rules) in
    record {
      within = search rules;
      goes_on = inr c.in_default.ensures;
      sized = same_len_mid c.loop-len.len (DELIVERY_LIMIT - c.loop-len.len) c.loop-len.buf c.read.new.buf (search rules) ∙ c.loop-len.invariant.sized;
      told = λ u e.
          let got = c.read.ensures.told u e in
          let inv = c.loop-len.invariant.told got.0 got.1 in
          let on : g.L.Listener.ends c.args.listener.now (take c.loop-len.len c.loop-len.buf ++ take c.in-Ok-Bytes.n c.read.new.buf) ≡ false = rw same at c.in_default.ensures in
          let after = after-read (g.L.Listener.ends c.args.listener.now) c.loop-len.len c.loop-len.buf c.loop-len-test.true c.loop-len.invariant.sized
          (Data (take c.in-Ok-Bytes.n c.read.new.buf)) _ got.0.coming inv.3 (rw (c.in-Ok-Bytes.is, c.in-Ok-Bytes.field-0-is) at got.2) in
          let coming = ap (λ (x : Tape). onward (g.L.Listener.ends c.args.listener.now) (take c.loop-len.len c.loop-len.buf ++ take c.in-Ok-Bytes.n c.read.new.buf) x.coming) (sym got.3) in
          (inv.0, inv.1, ap (λ (x : Tape). x.written) got.3 ∙ inv.2, rw same (rw on at after ∙ coming));
      asked = λ w e.
          let got = c.read.ensures.asked w e in
          let inv = c.loop-len.invariant.asked got.0 got.1 in
          (inv.0, inv.1, scan-more c.loop-len.len c.in-Ok-Bytes.n c.loop-len.wait inv.0 got.0 w inv.2 (search rules) got.2);
      calm = search rules;
    }

pub returns-in-Ok-Closed-clause-asked : goal.returns-in-Ok-Closed-clause-asked
returns-in-Ok-Closed-clause-asked g c w e = scan-last c.loop-len.len c.loop-len.wait w c.loop-len.invariant.asked (c.read.ensures.asked w e) c.loop-len-test.true

pub returns-in-Err-clause-asked : goal.returns-in-Err-clause-asked
returns-in-Err-clause-asked g c w e = scan-last c.loop-len.len c.loop-len.wait w c.loop-len.invariant.asked (c.read.ensures.asked w e) c.loop-len-test.true

pub returns-in-Ok-Quiet-clause-asked : goal.returns-in-Ok-Quiet-clause-asked
returns-in-Ok-Quiet-clause-asked g c w e = scan-last c.loop-len.len c.loop-len.wait w c.loop-len.invariant.asked (c.read.ensures.asked w e) c.loop-len-test.true

pub returns-in-Some-clause-asked : goal.returns-in-Some-clause-asked
returns-in-Some-clause-asked g c w e = scan-last c.loop-len.len c.loop-len.wait w c.loop-len.invariant.asked (c.read.ensures.asked w e) c.loop-len-test.true

pub returns-clause-asked : goal.returns-clause-asked
returns-clause-asked g c w e =
    let inv = c.loop-len.invariant.asked w e in
    (inv.0, inv.1, scan-full c.loop-len.len c.loop-len.wait inv.0 w inv.2 c.loop-len-test.false c.loop-len.invariant.within)

pub loop-len-init : goal.loop-len-init
loop-len-init g c = record { within = search rules; sized = search rules; goes_on = inl refl; told = search rules; asked = λ w e. (w, e, scan-none w); calm = search rules }
