-- One byte more.
use Rattle.std.proofs.Common.{ℕ, ◌+◌, ◌≡◌, ◌<◌, List, [], ◌∷◌, ◌++◌, length, get_or, take, refl, ap, ◌∙◌, append_assoc, append-nil}
use Rattle.std.proofs.lemmas.List.{take_more}
use Rattle.ym_timing.specs.Clears.{dropped, after_dropped}
use Rattle.ym_timing.specs.Timing.{said, after_byte}
use Rattle.ym_timing.specs.declared.purge.Purge.{Purge}
use Rattle.ym_timing.specs.declared.timing.Timing.{Timing}
use Rattle.ym_timing.specs.ByteRows.{bytes_of, heard_of, after_bytes}
use Rattle.ym_line_c.specs.Bulk.{after_dropping, cleared_by}

module _ (written : List ℕ) (now : ℕ) where
  after_one : (xs : List ℕ) (b : ℕ) (t : Timing) → after_bytes (xs ++ b ∷ []) written now t ≡ after_byte b written now (after_bytes xs written now t)
  after_one [] b t = refl
  after_one (x ∷ xs) b t = after_one xs b (after_byte x written now t)

  heard_one : (xs : List ℕ) (b : ℕ) (t : Timing)
      → heard_of (xs ++ b ∷ []) written now t ≡ heard_of xs written now t ++ bytes_of (said b written now (after_bytes xs written now t)) b
  heard_one [] b t = append-nil _
  heard_one (x ∷ xs) b t = rw (heard_one xs b (after_byte x written now t), append_assoc) refl

  dropped_one : (xs : List ℕ) (b : ℕ) (c : Purge) (t : Timing)
      → after_dropping (xs ++ b ∷ []) c written now t ≡ after_dropped (cleared_by xs c written now t) b written now (after_dropping xs c written now t)
  dropped_one [] b c t = refl
  dropped_one (x ∷ xs) b c t = dropped_one xs b (dropped c x written now t) (after_dropped c x written now t)

  cleared_one : (xs : List ℕ) (b : ℕ) (c : Purge) (t : Timing)
      → cleared_by (xs ++ b ∷ []) c written now t ≡ dropped (cleared_by xs c written now t) b written now (after_dropping xs c written now t)
  cleared_one [] b c t = refl
  cleared_one (x ∷ xs) b c t = cleared_one xs b (dropped c x written now t) (after_dropped c x written now t)

  -- the byte at an index, behind those before it
  pub after_more : (xs : List ℕ) (i : ℕ) (t : Timing) → i < length xs → after_bytes (take (i + 1) xs) written now t ≡ after_byte (get_or xs i 0) written now (after_bytes (take i xs) written now t)
  after_more xs i t less = ap (λ l. after_bytes l written now t) (take_more xs i 0 less) ∙ after_one (take i xs) (get_or xs i 0) t

  pub heard_more : (xs : List ℕ) (i : ℕ) (t : Timing) → i < length xs
      → heard_of (take (i + 1) xs) written now t ≡ heard_of (take i xs) written now t ++ bytes_of (said (get_or xs i 0) written now (after_bytes (take i xs) written now t)) (get_or xs i 0)
  heard_more xs i t less = ap (λ l. heard_of l written now t) (take_more xs i 0 less) ∙ heard_one (take i xs) (get_or xs i 0) t

  pub dropped_more : (xs : List ℕ) (i : ℕ) (c : Purge) (t : Timing) → i < length xs
      → after_dropping (take (i + 1) xs) c written now t ≡ after_dropped (cleared_by (take i xs) c written now t) (get_or xs i 0) written now (after_dropping (take i xs) c written now t)
  dropped_more xs i c t less = ap (λ l. after_dropping l c written now t) (take_more xs i 0 less) ∙ dropped_one (take i xs) (get_or xs i 0) c t

  pub cleared_more : (xs : List ℕ) (i : ℕ) (c : Purge) (t : Timing) → i < length xs
      → cleared_by (take (i + 1) xs) c written now t ≡ dropped (cleared_by (take i xs) c written now t) (get_or xs i 0) written now (after_dropping (take i xs) c written now t)
  cleared_more xs i c t less = ap (λ l. cleared_by l c written now t) (take_more xs i 0 less) ∙ cleared_one (take i xs) (get_or xs i 0) c t
