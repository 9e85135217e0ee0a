-- each frame of a batch, with the open file and the files committed before it and behind it
use Rattle.std.proofs.Common.{ℕ, ◌+◌, ◌-◌, ◌%◌, ◌<◌, ◌≤◌, ◌≡◌, ◌⊎◌, inl, inr, suc, zero, List, [], ◌∷◌, ◌++◌, length, take, Some, None, refl, sym, ap, ◌∙◌, subst, arith, add-one}
use Rattle.std.specs.Prelude.{All}
use Rattle.std.proofs.lemmas.Bool.{le-leb, lt-leb, cases_order}
use Rattle.std.proofs.lemmas.List.Elements.{All-head, All-tail}
use Rattle.ym_link.proofs.Names.{HeaderParts, File, BlockZero, Piece, EndBlock, frames_of, frame_at, body_at, count_within, files_within, open_at}
use Rattle.ym_machine.specs.Frames.{Eot}

-- what the machine's laws say of the positions of a batch
pub record PositionLaws : Type 0 where
  pub piece : (file : File HeaderParts) (files : List (File HeaderParts)) (n : ℕ) → n < length file.pieces → frame_at (frames_of (file ∷ files)) (n + 1) ≡ Piece ((n + 1) % 256) (body_at n file.pieces)
  pub eot : (file : File HeaderParts) (files : List (File HeaderParts)) → frame_at (frames_of (file ∷ files)) (length file.pieces + 1) ≡ Eot
  pub behind : (file : File HeaderParts) (files : List (File HeaderParts)) (n : ℕ) → frame_at (frames_of (file ∷ files)) (length file.pieces + 2 + n) ≡ frame_at (frames_of files) n
  pub size : (file : File HeaderParts) (files : List (File HeaderParts)) → length (frames_of (file ∷ files)) ≡ length file.pieces + 2 + length (frames_of files)
  pub last : (files : List (File HeaderParts)) (i : ℕ) → i + 1 ≡ length (frames_of files) → frame_at (frames_of files) i ≡ EndBlock
  pub inside : (file : File HeaderParts) (files : List (File HeaderParts)) (n : ℕ) → n ≤ length file.pieces + 1 → count_within (file ∷ files) n ≡ 0
  pub counted : (file : File HeaderParts) (files : List (File HeaderParts)) (n : ℕ) → count_within (file ∷ files) (length file.pieces + 2 + n) ≡ count_within files n + 1

pub data Spot (P : File HeaderParts → Type 0) (files : List (File HeaderParts)) (i : ℕ) : Type 0 where
  opening : (file : File HeaderParts) → P file → frame_at (frames_of files) i ≡ BlockZero file.header
      → open_at files i ≡ None → open_at files (i + 1) ≡ Some (file, 0)
      → count_within files (i + 1) ≡ count_within files i → count_within files i < length files → Spot P files i
  piece : (file : File HeaderParts) (k : ℕ) → P file → k < length file.pieces → frame_at (frames_of files) i ≡ Piece ((k + 1) % 256) (body_at k file.pieces)
      → open_at files i ≡ Some (file, k) → open_at files (i + 1) ≡ Some (file, (k + 1))
      → count_within files (i + 1) ≡ count_within files i → Spot P files i
  closing : (file : File HeaderParts) → P file → frame_at (frames_of files) i ≡ Eot
      → open_at files i ≡ Some (file, length file.pieces) → open_at files (i + 1) ≡ None
      → count_within files (i + 1) ≡ count_within files i + 1 → files_within files (i + 1) ≡ files_within files i ++ file ∷ [] → Spot P files i
  ending : frame_at (frames_of files) i ≡ EndBlock → open_at files i ≡ None → open_at files (i + 1) ≡ None
      → count_within files (i + 1) ≡ count_within files i → i + 1 ≡ length (frames_of files) → Spot P files i

pub none-first : (files : List (File HeaderParts)) → open_at files 0 ≡ None
none-first [] = refl
none-first (file ∷ files) = refl

module _ (laws : PositionLaws) (P : File HeaderParts → Type 0) where
  module _ (file : File HeaderParts) (files : List (File HeaderParts)) where
    open-in : (i n : ℕ) → i ≡ suc n → n ≤ length file.pieces → open_at (file ∷ files) i ≡ Some (file, n)
    open-in i n e h = let le = le-leb n (length file.pieces) h in ap (open_at (file ∷ files)) e ∙ rw le refl

    open-out : (i m : ℕ) → i ≡ length file.pieces + 2 + m → open_at (file ∷ files) i ≡ open_at files m
    open-out i m e =
        let up : i ≡ suc (length file.pieces + 1 + m) = omega (arith, e) in
        let le = lt-leb (length file.pieces + 1 + m) (length file.pieces) (omega arith) in
        ap (open_at (file ∷ files)) up ∙ rw le (ap (open_at files) (omega arith))

    count-out : (i m : ℕ) → i ≡ length file.pieces + 2 + m → count_within (file ∷ files) i ≡ count_within files m + 1
    count-out i m e = ap (count_within (file ∷ files)) e ∙ laws.counted file files m

    within-out : (i m : ℕ) → i ≡ length file.pieces + 2 + m → files_within (file ∷ files) i ≡ file ∷ files_within files m
    within-out i m e = ap (λ c. take c (file ∷ files)) (count-out i m e ∙ add-one (count_within files m))

    frame-out : (i m : ℕ) → i ≡ length file.pieces + 2 + m → frame_at (frames_of (file ∷ files)) i ≡ frame_at (frames_of files) m
    frame-out i m e = ap (frame_at (frames_of (file ∷ files))) e ∙ laws.behind file files m

    same-out : (i m : ℕ) → i ≡ length file.pieces + 2 + m → count_within files (m + 1) ≡ count_within files m → count_within (file ∷ files) (i + 1) ≡ count_within (file ∷ files) i
    same-out i m e same = let x = count-out i m e in let y = count-out (i + 1) (m + 1) (omega (arith, e)) in omega (arith, x, y, same)

    -- behind a file
    rest-at : (i m : ℕ) → i ≡ length file.pieces + 2 + m → Spot P files m → Spot P (file ∷ files) i
    rest-at i m e (opening f p a b c d less) =
        let x = count-out i m e in opening f p (frame-out i m e ∙ a) (open-out i m e ∙ b) (open-out (i + 1) (m + 1) (omega (arith, e)) ∙ c) (same-out i m e d) (omega (arith, x, less))
    rest-at i m e (piece f k p less a b c d) = piece f k p less (frame-out i m e ∙ a) (open-out i m e ∙ b) (open-out (i + 1) (m + 1) (omega (arith, e)) ∙ c) (same-out i m e d)
    rest-at i m e (closing f p a b c d w) =
        let next : i + 1 ≡ length file.pieces + 2 + (m + 1) = omega (arith, e) in
        let x = count-out i m e in
        let y = count-out (i + 1) (m + 1) next in
        closing f p (frame-out i m e ∙ a) (open-out i m e ∙ b) (open-out (i + 1) (m + 1) next ∙ c) (omega (arith, x, y, d)) (rw (within-out (i + 1) (m + 1) next, within-out i m e, w) refl)
    rest-at i m e (ending a b c d l) =
        let x = laws.size file files in ending (frame-out i m e ∙ a) (open-out i m e ∙ b) (open-out (i + 1) (m + 1) (omega (arith, e)) ∙ c) (same-out i m e d) (omega (arith, e, l, x))

    none-within : (i : ℕ) → i ≤ length file.pieces + 1 → files_within (file ∷ files) i ≡ []
    none-within i h = ap (λ c. take c (file ∷ files)) (laws.inside file files i h)

    at-piece : (n : ℕ) → P file → n < length file.pieces → Spot P (file ∷ files) (n + 1)
    at-piece n p less = piece file n p less (laws.piece file files n less)
        (open-in (n + 1) n (omega arith) (omega (arith, less))) (open-in (n + 1 + 1) (n + 1) (omega arith) (omega (arith, less)))
        (laws.inside file files (n + 1 + 1) (omega (arith, less)) ∙ sym (laws.inside file files (n + 1) (omega (arith, less))))

    at-closing : (n : ℕ) → P file → n ≡ length file.pieces → Spot P (file ∷ files) (n + 1)
    at-closing n p e = closing file p (ap (λ k. frame_at (frames_of (file ∷ files)) (k + 1)) e ∙ laws.eot file files)
        (open-in (n + 1) n (omega arith) (omega (arith, e)) ∙ ap (λ k. Some (file, k)) e)
        (open-out (n + 1 + 1) 0 (omega (arith, e)) ∙ none-first files)
        (count-out (n + 1 + 1) 0 (omega (arith, e)) ∙ ap (λ c. c + 1) (sym (laws.inside file files (n + 1) (omega (arith, e)))))
        (within-out (n + 1 + 1) 0 (omega (arith, e)) ∙ ap (λ fs. fs ++ file ∷ []) (sym (none-within (n + 1) (omega (arith, e)))))

  pub spot : (files : List (File HeaderParts)) → All P files → (i : ℕ) → i < length (frames_of files) → Spot P files i
  spot [] all zero below = ending refl refl refl refl refl
  spot [] all (suc i) below = absurd (omega arith)
  spot (file ∷ files) all zero below = opening file (All-head P file files all) refl refl (open-in file files 1 0 refl (omega arith))
      (laws.inside file files 1 (omega arith) ∙ sym (laws.inside file files 0 (omega arith))) (let x = laws.inside file files 0 (omega arith) in omega (arith, x))
  spot (file ∷ files) all (suc n) below = subst (Spot P (file ∷ files)) (add-one n)
      (choose (cases_order n (length file.pieces)) (λ more. spot files (All-tail P file files all) (n - (length file.pieces + 1)) (let x = laws.size file files in omega (arith, more, x, below))))
    where
      choose : (n ≡ length file.pieces) ⊎ ((n < length file.pieces) ⊎ (length file.pieces < n)) → (length file.pieces < n → Spot P files (n - (length file.pieces + 1))) → Spot P (file ∷ files) (n + 1)
      choose (inr (inl less)) rest = at-piece file files n (All-head P file files all) less
      choose (inl same) rest = at-closing file files n (All-head P file files all) same
      choose (inr (inr more)) rest = rest-at file files (n + 1) (n - (length file.pieces + 1)) (omega (arith, more)) (rest more)
