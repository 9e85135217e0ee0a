-- A batch in which one file's source was asked to fill, or failed.
use Rattle.std.proofs.Common.{ℕ, ◌≡◌, ◌<◌, List, length, get_or, Option, Some, Bool, true, false, refl, ap, ap₂, sym, subst, ◌∙◌, slice_set}
use Rattle.std.specs.Prelude.{All}
use Rattle.std.proofs.Math.Seq.{map-set_same}
use Rattle.std.proofs.lemmas.List.{get_or_default}
use Rattle.std.proofs.lemmas.List.Elements.{All-set, All-get_or}
use Rattle.ym_link.proofs.Names.{HeaderParts, Counted, raised, Shape, FileParts, IsFile, file_at, filled, no_file, blocks_of, counts_of, Position, Block, IsFilled}
use Rattle.ym_link.specs.Sender.{FilledAt, FailedAt}

pub failed_at : (files : List FileParts) (file : ℕ) (d y : FileParts) → file < length files
    → y.header ≡ (get_or files file d).header → y.bytes ≡ (get_or files file d).bytes → y.fills ≡ raised (get_or files file d).fills
    → Counted (get_or files file d).failures y.failures → FailedAt file files (slice_set files file y)
failed_at files file d y less header bytes fills counted_failure =
    let e = get_or_default files file no_file d less in
    record {
      within = less;
      failures = y.failures;
      counted_failure = subst (λ (f : FileParts). Counted f.failures y.failures) (sym e) counted_failure;
      after = ap (slice_set files file)
          (ap₂ (λ (h : HeaderParts) (b : Option (List ℕ)). record { header = h; bytes = b; failures = y.failures; fills = y.fills }) (header ∙ ap (λ (f : FileParts). f.header) (sym e)) (bytes ∙ ap (λ (f : FileParts). f.bytes) (sym e))
          ∙ ap (λ n. record (file_at files file) { failures = y.failures; fills = n }) (fills ∙ ap (λ (f : FileParts). raised f.fills) (sym e)));
    }

pub filled_at : (files : List FileParts) (file : ℕ) (d y : FileParts) → file < length files → y ≡ filled (get_or files file d) → FilledAt file files (slice_set files file y)
filled_at files file d y less same = record { within = less; after = ap (slice_set files file) (same ∙ ap filled (sym (get_or_default files file no_file d less))) }

-- how many blocks the files have does not change
pub filled_counts : (shape : Shape) (failed : Bool) (position : Option Position) (old new : List FileParts) → IsFilled failed position old new → counts_of shape new ≡ counts_of shape old
filled_counts shape false (Some (Block file k)) old new h = ap (counts_of shape) h.after ∙ map-set_same (blocks_of shape) old file _ no_file refl
filled_counts shape false _ old new h = ap (counts_of shape) h
filled_counts shape true (Some (Block file k)) old new h = ap (counts_of shape) h.after ∙ map-set_same (blocks_of shape) old file _ no_file refl
filled_counts shape true _ old new h = absurd h

-- each file stays within its limits
pub filled_files : (failed : Bool) (position : Option Position) (old new : List FileParts) → IsFilled failed position old new → All IsFile old → All IsFile new
filled_files false (Some (Block file k)) old new h all =
    let one = All-get_or IsFile old file no_file h.within all in
    rw h.after (All-set IsFile old file _ (record { header = one.header; bytes = one.bytes }) all)
filled_files false _ old new h all = rw h all
filled_files true (Some (Block file k)) old new h all =
    let one = All-get_or IsFile old file no_file h.within all in
    rw h.after (All-set IsFile old file _ (record { header = one.header; bytes = one.bytes }) all)
filled_files true _ old new h all = absurd h
