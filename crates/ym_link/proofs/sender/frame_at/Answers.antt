use Rattle.std.proofs.Common.{◌<◌, length, subst, sym, ap, ◌∙◌, arith, rules, Some, true, false}
use Rattle.std.specs.Prelude.{slice_set}
use Rattle.std.proofs.Common.{get_or-set_same}
use Rattle.std.proofs.lemmas.List.{length-map, get_or_default}
use Rattle.std.proofs.lemmas.Result.{on_ok_weaker, on_err_weaker}
use Rattle.ym_link.proofs.Names.{Counted, raised, HeaderParts, text, end_text, FileParts, no_file, filled, blocks_of, IsFilled, Position}
use Rattle.ym_frame.specs.declared.frame.Item.TheVariants as item
use Rattle.ym_link.proofs.Files.{filled_at, failed_at}
use Rattle.ym_link.proofs.Framed.{block_frame_at, frame_of_same, header_item_at}
use Rattle.ym_link.proofs.sender.frame_at.Goals as goal

pub returns-in-Header-clause-frame : goal.returns-in-Header-clause-frame
returns-in-Header-clause-frame g c =
    let files = c.args.files.now.items in
    let file = c.in-Header.file in
    let one = c.index.result.now in
    let fits = rw c.in-Header.is at c.requires in
    let within : file < length files = omega (arith, length-map files (blocks_of c.args.shape), fits) in
    let same = c.index.ensures ∙ sym (get_or_default files file no_file one within) in
    record {
      item = item.Block (record { number = 0; body = text c.header.result.now });
      there = header_item_at c.args.shape files file c.args.position c.in-Header.is (record { number = 0; body = text c.header.result.now })
          (ap (λ (h : HeaderParts). record { number = 0; body = text h }) (c.header.ensures.value ∙ ap (λ (f : FileParts). f.header) same));
      frame = c.copy_header.ensures.frame;
    }

pub returns-in-End-clause-frame : goal.returns-in-End-clause-frame
returns-in-End-clause-frame g c = record { item = item.Block (record { number = 0; body = end_text }); there = search rules; frame = c.copy_end.ensures.frame }

pub returns-in-Block-clause-frame : goal.returns-in-Block-clause-frame
returns-in-Block-clause-frame g c =
    let files = c.args.files.now.items in
    let fits = rw c.in-Block.is at c.requires in
    let within : c.in-Block.file < length files = omega (arith, length-map files (blocks_of c.args.shape), fits.0) in
    block_frame_at c.args.shape (slice_set files c.in-Block.file c.frame.new.self) c.in-Block.file c.in-Block.number c.args.position c.in-Block.is c.frame.new.self
    (sym (get_or-set_same files c.in-Block.file c.frame.new.self no_file within)) c.frame.result c.frame.new.buffer
    (frame_of_same c.args.shape c.index_mut-one.result.now c.frame.new.self c.in-Block.number c.frame.result c.frame.new.buffer c.frame.ensures.header c.frame.ensures.bytes c.frame.ensures.frame)

pub returns-in-Block-clause-ok : goal.returns-in-Block-clause-ok
returns-in-Block-clause-ok g c =
    let files = c.args.files.now.items in
    let fits = rw c.in-Block.is at c.requires in
    let within : c.in-Block.file < length files = omega (arith, length-map files (blocks_of c.args.shape), fits.0) in
    on_ok_weaker c.frame.result (λ same. subst (λ (p : Position). IsFilled false (Some p) files (slice_set files c.in-Block.file c.frame.new.self)) (sym c.in-Block.is)
    (filled_at files c.in-Block.file c.index_mut-one.result.now c.frame.new.self within (same ∙ ap filled c.index_mut-one.ensures.value))) c.frame.ensures.ok

pub returns-in-Block-clause-failed : goal.returns-in-Block-clause-failed
returns-in-Block-clause-failed g c =
    let files = c.args.files.now.items in
    let fits = rw c.in-Block.is at c.requires in
    let within : c.in-Block.file < length files = omega (arith, length-map files (blocks_of c.args.shape), fits.0) in
    let v = c.index_mut-one.ensures.value in
    on_err_weaker c.frame.result (λ counted_failure. subst (λ (p : Position). IsFilled true (Some p) files (slice_set files c.in-Block.file c.frame.new.self)) (sym c.in-Block.is)
    (failed_at files c.in-Block.file c.index_mut-one.result.now c.frame.new.self within
    (c.frame.ensures.header ∙ ap (λ (f : FileParts). f.header) v) (c.frame.ensures.bytes ∙ ap (λ (f : FileParts). f.bytes) v)
    (c.frame.ensures.counted ∙ ap (λ (f : FileParts). raised f.fills) v)
    (subst (λ (f : FileParts). Counted f.failures c.frame.new.self.failures) v counted_failure))) c.frame.ensures.failed
