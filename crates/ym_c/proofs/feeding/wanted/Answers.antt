use Rattle.std.proofs.Common.{rules, [], append-nil}
use Rattle.ym_c.proofs.Openings.{soh_verdict, stx_verdict, empty_open, can_open}
use Rattle.ym_c.proofs.feeding.wanted.Goals as goal

pub returns-then-is_empty-clause-wanted : goal.returns-then-is_empty-clause-wanted
returns-then-is_empty-clause-wanted c more few = empty_open c.args.bytes.now more (search rules) few

pub returns-then-first-eq-SOH-clause-wanted : goal.returns-then-first-eq-SOH-clause-wanted
returns-then-first-eq-SOH-clause-wanted c more few = rw (soh_verdict c.args.bytes.now more (search rules) c.if-first-eq-SOH.true) (c.wanted_of_block.ensures.wanted more few)

pub returns-then-first-eq-SOH-clause-some : goal.returns-then-first-eq-SOH-clause-some
returns-then-first-eq-SOH-clause-some c h =
    c.wanted_of_block.ensures.some (rw (rw append-nil at (soh_verdict c.args.bytes.now [] (search rules) c.if-first-eq-SOH.true)) at h)

pub returns-then-first-eq-STX-clause-wanted : goal.returns-then-first-eq-STX-clause-wanted
returns-then-first-eq-STX-clause-wanted c more few = rw (stx_verdict c.args.bytes.now more (search rules) c.if-first-eq-STX.true) (c.wanted_of_block-then-first-eq-STX.ensures.wanted more few)

pub returns-then-first-eq-STX-clause-some : goal.returns-then-first-eq-STX-clause-some
returns-then-first-eq-STX-clause-some c h =
    c.wanted_of_block-then-first-eq-STX.ensures.some (rw (rw append-nil at (stx_verdict c.args.bytes.now [] (search rules) c.if-first-eq-STX.true)) at h)

pub returns-then-bytes-eq1-clause-wanted : goal.returns-then-bytes-eq1-clause-wanted
returns-then-bytes-eq1-clause-wanted c more few = can_open c.args.bytes.now more c.if-bytes-eq1.true c.if-first-eq-CAN.true few

pub returns-clause-some : goal.returns-clause-some
returns-clause-some c h = absurd (c.open_bytes_begin_a_frame.ensures c.args.bytes.now (search rules) c.if-first-eq-SOH.false c.if-first-eq-STX.false (search rules) h)
