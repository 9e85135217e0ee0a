-- By what a read does to known bytes.
use Rattle.std.proofs.Common.{◌≡◌, ◌≤◌, ◌<◌, ◌+◌, ◌++◌, List, ℕ, [], length, take, arith, refl}
use Rattle.std.proofs.lemmas.Grind.{common_steps}
use Rattle.ym_play.proofs.BytesLemmas.{consumed, kept, one_read, all_read, cut_off}
use Rattle.ym_play.specs.declared.limits.TheConstants.{MOST_SCRIPT_BYTES}
use Rattle.ym_play.proofs.input.take_script.Goals as goal

pub returns-in-Ok-eq0-clause-taken : goal.returns-in-Ok-eq0-clause-taken
returns-in-Ok-eq0-clause-taken g c = (
  c.loop-buffer.invariant.short,
  λ text e.
      let inv = c.loop-buffer.invariant.told text e in
      let read = rw (c.in-Ok-eq0.is, c.in-Ok-eq0.field-0-test, inv.1) at c.read_some.ensures.bytes in
      let room : 0 < length c.read_some.new.buf = grind (arith, common_steps) in
      all_read (g.I.Input.remaining c.read_some.new.self) text c.loop-buffer.bytes.items inv.0 _ c.loop-buffer.invariant.short inv.2 read.0 (read.1 refl room),
)

pub returns-in-Ok-eq0-clause-within : goal.returns-in-Ok-eq0-clause-within
returns-in-Ok-eq0-clause-within g c text e =
    let inv = c.loop-buffer.invariant.told text e in
    let read = rw (c.in-Ok-eq0.is, c.in-Ok-eq0.field-0-test, inv.1) at c.read_some.ensures.bytes in
    let left = consumed (g.I.Input.remaining c.read_some.new.self) inv.0 [] read.0 in
    (c.loop-buffer.bytes.items, left.0, rw left.2 at inv.2, left.1, c.loop-buffer.invariant.short)

pub returns-then-is_err-clause-within : goal.returns-then-is_err-clause-within
returns-then-is_err-clause-within g c text e =
    let inv = c.loop-buffer.invariant.told text e in
    let read = rw (c.in-Ok.is, inv.1) at c.read_some.ensures.bytes in
    let piece : List ℕ = take c.in-Ok.count c.read_some.new.buf in
    let got = one_read (g.I.Input.remaining c.read_some.new.self) text c.loop-buffer.bytes.items inv.0 piece inv.2 read.0 in
    let short : length (c.loop-buffer.bytes.items ++ piece) ≤ MOST_SCRIPT_BYTES + 1 = grind (arith, common_steps) in
    (c.loop-buffer.bytes.items ++ piece, got.0, got.2, got.1, short)

pub returns-in-Err-clause-within : goal.returns-in-Err-clause-within
returns-in-Err-clause-within g c text e =
    let inv = c.loop-buffer.invariant.told text e in
    let read = rw (c.in-Err.is, inv.1) at c.read_some.ensures.bytes in
    (c.loop-buffer.bytes.items, inv.0, inv.2, kept (g.I.Input.remaining c.read_some.new.self) inv.0 read, c.loop-buffer.invariant.short)

pub returns-clause-taken : goal.returns-clause-taken
returns-clause-taken g c = (
  c.loop-buffer.invariant.short,
  λ text e.
      let inv = c.loop-buffer.invariant.told text e in
      let full : length c.loop-buffer.bytes.items ≡ MOST_SCRIPT_BYTES + 1 = omega arith in
      cut_off text c.loop-buffer.bytes.items inv.0 _ full inv.2,
)

pub returns-clause-within : goal.returns-clause-within
returns-clause-within g c text e =
    let inv = c.loop-buffer.invariant.told text e in
    (c.loop-buffer.bytes.items, inv.0, inv.2, inv.1, c.loop-buffer.invariant.short)

pub loop-buffer-preserved : goal.loop-buffer-preserved
loop-buffer-preserved g c = record {
  short = grind (arith, common_steps);
  calm = grind (arith, common_steps);
  told = λ text e.
      let inv = c.loop-buffer.invariant.told text e in
      let read = rw (c.in-Ok.is, inv.1) at c.read_some.ensures.bytes in
      let added : c.extend_from_slice.new.self.items ≡ c.loop-buffer.bytes.items ++ take c.in-Ok.count c.read_some.new.buf = grind (arith, common_steps) in
      rw added (one_read (g.I.Input.remaining c.read_some.new.self) text c.loop-buffer.bytes.items inv.0 (take c.in-Ok.count c.read_some.new.buf) inv.2 read.0);
}
