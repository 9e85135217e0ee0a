-- what a sink tells after the calls of a receiver that refines a state of the machine
use Rattle.std.proofs.Common.{ℕ, ◌+◌, ◌-◌, ◌<◌, ◌≡◌, suc, zero, List, [], ◌∷◌, ◌++◌, length, take, map, refl, sym, ap, ◌∙◌, arith, add-one, min, Option, Some, None, length-append}
use Rattle.std.specs.Prelude.{option_to_list}
use Rattle.std.proofs.lemmas.List.{length-take, map-append}
use Rattle.ym_link.proofs.Names.{HeaderParts, Kept, Told, keep_all, File, count_within, files_within, body_at, kept_after, bytes_of, KeepsFirst, KeepsOpen}
use Rattle.ym_file.specs.Kept.{told_begun, told_added, told_committed, begun, added, committed}
use Rattle.ym_file.specs.Collecting.{keep}

-- ---- What is told

told-begun : (o : Option Told) (P : Told → Type 0) → ((t : Told) → o ≡ Some t → P (record { open_bytes = []; files = t.files })) → (new : Told) → told_begun o ≡ Some new → P new
told-begun None P f new e = absurd cc
told-begun (Some t) P f new e = let is : record { open_bytes = []; files = t.files } ≡ new = cc in rw (← is) (f t refl)

told-added : (bytes : List ℕ) (o : Option Told) (P : Told → Type 0) → ((t : Told) → o ≡ Some t → P (record { open_bytes = t.open_bytes ++ bytes; files = t.files })) → (new : Told) → told_added bytes o ≡ Some new → P new
told-added bytes None P f new e = absurd cc
told-added bytes (Some t) P f new e = let is : record { open_bytes = t.open_bytes ++ bytes; files = t.files } ≡ new = cc in rw (← is) (f t refl)

told-committed : (o : Option Told) (P : Told → Type 0) → ((t : Told) → o ≡ Some t → P (record { open_bytes = []; files = t.files ++ t.open_bytes ∷ [] })) → (new : Told) → told_committed o ≡ Some new → P new
told-committed None P f new e = absurd cc
told-committed (Some t) P f new e = let is : record { open_bytes = []; files = t.files ++ t.open_bytes ∷ [] } ≡ new = cc in rw (← is) (f t refl)

-- ---- The committed files

abbrev header_of : File HeaderParts → HeaderParts
header_of f = f.header

module _ (files : List (File HeaderParts)) (n m : ℕ) (kept : Kept) (k : KeepsFirst files n kept) where
  pub keeps-same : count_within files m ≡ count_within files n → KeepsFirst files m kept
  keeps-same e = record { headers = rw e k.headers; bytes = λ t is. rw e (k.bytes t is) }

  pub keeps-begun : (header : HeaderParts) → count_within files m ≡ count_within files n → KeepsFirst files m (begun header kept)
  keeps-begun header e =
      let same = keeps-same e in record { headers = same.headers; bytes = told-begun kept.told (λ t. t.files ≡ map bytes_of (files_within files m)) same.bytes }

  pub keeps-added : (bytes : List ℕ) → count_within files m ≡ count_within files n → KeepsFirst files m (added bytes kept)
  keeps-added bytes e =
      let same = keeps-same e in record { headers = same.headers; bytes = told-added bytes kept.told (λ t. t.files ≡ map bytes_of (files_within files m)) same.bytes }

  pub keeps-committed : (file : File HeaderParts) → KeepsOpen (Some (file, length file.pieces)) kept → files_within files m ≡ files_within files n ++ file ∷ [] → KeepsFirst files m (committed kept)
  keeps-committed file o e = record {
    headers = ap (λ h. kept.headers ++ option_to_list h) o.opened ∙ (ap (λ hs. hs ++ file.header ∷ []) k.headers ∙ sym (ap (map header_of) e ∙ map-append header_of (files_within files n) (file ∷ [])));
    bytes = told-committed kept.told (λ t. t.files ≡ map bytes_of (files_within files m)) (λ t is. ap (λ fs. fs ++ t.open_bytes ∷ []) (k.bytes t is) ∙ (ap (λ b. map bytes_of (files_within files n) ++ b ∷ []) (o.bytes t is) ∙ sym (ap (map bytes_of) e ∙ map-append bytes_of (files_within files n) (file ∷ []))));
  }

-- ---- The open file

keep-more : (wanted k : ℕ) (held : List ℕ) (pieces : List (List ℕ)) → k < length pieces → keep_all wanted held (take (suc k) pieces) ≡ keep wanted (keep_all wanted held (take k pieces)) (body_at k pieces)
keep-more wanted k held [] less = absurd (omega arith)
keep-more wanted zero held (piece ∷ pieces) less = refl
keep-more wanted (suc k) held (piece ∷ pieces) less = keep-more wanted k (keep wanted held piece) pieces (omega arith)

-- what one more piece adds
abbrev pub taken_from : File HeaderParts → ℕ → List ℕ
taken_from file k = take (file.header.length - length (kept_after file k)) (body_at k file.pieces)

pub kept-more : (file : File HeaderParts) (k : ℕ) → k < length file.pieces → kept_after file (k + 1) ≡ kept_after file k ++ taken_from file k
kept-more file k less = rw add-one (keep-more file.header.length k [] file.pieces less)

pub kept-length : (file : File HeaderParts) (k : ℕ) → k < length file.pieces → length (kept_after file (k + 1)) ≡ length (kept_after file k) + min (file.header.length - length (kept_after file k)) (length (body_at k file.pieces))
kept-length file k less =
    rw (kept-more file k less, length-append (kept_after file k) (taken_from file k), length-take (file.header.length - length (kept_after file k)) (body_at k file.pieces)) refl

pub open-begun : (file : File HeaderParts) (kept : Kept) → KeepsOpen (Some (file, 0)) (begun file.header kept)
open-begun file kept = record { opened = refl; taken = refl; bytes = told-begun kept.told (λ t. t.open_bytes ≡ []) (λ t is. refl) }

pub open-added : (file : File HeaderParts) (k : ℕ) (kept : Kept) → k < length file.pieces → KeepsOpen (Some (file, k)) kept → KeepsOpen (Some (file, (k + 1))) (added (taken_from file k) kept)
open-added file k kept less o = record {
  opened = o.opened;
  taken = ap (λ n. n + length (taken_from file k)) o.taken ∙ sym (ap length (kept-more file k less) ∙ length-append (kept_after file k) (taken_from file k));
  bytes = told-added (taken_from file k) kept.told (λ t. t.open_bytes ≡ kept_after file (k + 1)) (λ t is. ap (λ b. b ++ taken_from file k) (o.bytes t is) ∙ sym (kept-more file k less));
}

pub open-committed : (kept : Kept) → KeepsOpen None (committed kept)
open-committed kept = record { opened = refl; taken = refl; bytes = told-committed kept.told (λ t. t.open_bytes ≡ []) (λ t is. refl) }
