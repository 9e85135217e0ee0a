-- The place of each frame of a batch.
use Rattle.std.proofs.Common.{ℕ, ◌+◌, ◌-◌, ◌%◌, ◌<◌, ◌≤◌, ◌≡◌, inl, inr, suc, zero, List, [], ◌∷◌, ◌++◌, length, true, false, refl, sym, ap, ◌∙◌, arith, add-zero, nat_lt, cond, take, get_or}
use Rattle.std.proofs.lemmas.Bool.{cases_order}
use Rattle.std.proofs.lemmas.Bool.Decides.{nat_tests}
use Rattle.ym_link.proofs.Names.{HeaderParts, File, Frame, BlockZero, Piece, EotFrame, EndBlock, frames_of, frame_at, body_at, Position, Header, Block, Eot, End, count_at, next_of, done_at, Batch, counts_in, position_from, position_at}
use Rattle.ym_machine.specs.Frames.{numbered_from, eots}

pub data Ordered (a b : ℕ) : Type 0 where
  below : a < b → Ordered a b
  equal : a ≡ b → Ordered a b
  above : (m : ℕ) → a ≡ m + (b + 1) → Ordered a b

pub ordered : (a b : ℕ) → Ordered a b
ordered a b = elim (cases_order a b) [ inl h ↦ equal h | inr (inl h) ↦ below h | inr (inr h) ↦ above (a - (b + 1)) (omega (arith, h)) ]

module _ (i : ℕ) (file : File HeaderParts) (files : Batch) where
  pub position_block : (n : ℕ) → n < length file.pieces → position_from i (file ∷ files) (suc n) ≡ Block i (n + 1)
  position_block n h = grind (arith, nat_tests)

  pub position_eot : (n : ℕ) → n ≡ length file.pieces → position_from i (file ∷ files) (suc n) ≡ Eot i
  position_eot n h = grind (arith, nat_tests)

  pub position_rest : (n m : ℕ) → n ≡ m + (length file.pieces + 1) → position_from i (file ∷ files) (suc n) ≡ position_from (i + 1) files m
  position_rest n m h = let same : n - (length file.pieces + 1) ≡ m = omega (arith, h) in rw same (grind (arith, nat_tests))

  -- behind the header or a block
  position_next : (n : ℕ) → n ≤ length file.pieces → cond (nat_lt n (length file.pieces)) (Block i (n + 1)) (Eot i) ≡ position_from i (file ∷ files) (suc n)
  position_next n h = grind (arith, nat_tests)

count_first : (i : ℕ) (counts : List ℕ) (file : File HeaderParts) (files : Batch) → ((j : ℕ) → count_at counts (i + j) ≡ count_at (counts_in (file ∷ files)) j) → count_at counts i ≡ length file.pieces
count_first i counts file files h = ap (count_at counts) (omega arith) ∙ h 0

behind_last : (counts : List ℕ) (i : ℕ) (files : Batch) → length counts ≡ i + suc (length files) → next_of counts (Eot i) ≡ position_from (i + 1) files 0
behind_last counts i [] e = let x : nat_lt (i + 1) (length counts) ≡ false = grind (arith, nat_tests) in rw x
behind_last counts i (f ∷ fs) e = let x : nat_lt (i + 1) (length counts) ≡ true = grind (arith, nat_tests) in rw x

-- the next position is that of the next frame
next_from : (counts : List ℕ) (i : ℕ) (files : Batch) (n : ℕ) → ((j : ℕ) → count_at counts (i + j) ≡ count_at (counts_in files) j) → length counts ≡ i + length files
    → next_of counts (position_from i files n) ≡ position_from i files (n + 1)
next_from counts i [] n here all = refl
next_from counts i (file ∷ files) zero here all = rw (count_first i counts file files here) (position_next i file files 0 (omega arith))
next_from counts i (file ∷ files) (suc n) here all =
    let rest : (j : ℕ) → count_at counts (i + 1 + j) ≡ count_at (counts_in files) j = λ j. ap (count_at counts) (omega arith) ∙ here (suc j) in
    let up : suc n + 1 ≡ suc (n + 1) = omega arith in
    rw up (elim (ordered n (length file.pieces)) [
      | below h ↦ rw (position_block i file files n h, count_first i counts file files here) (position_next i file files (n + 1) (omega (arith, h)))
      | equal h ↦ rw (position_eot i file files n h) (behind_last counts i files all ∙ sym (position_rest i file files (n + 1) 0 (omega (arith, h))))
      | above m h ↦ rw (position_rest i file files n m h) (next_from counts (i + 1) files m rest (omega (arith, all)) ∙ sym (position_rest i file files (n + 1) (m + 1) (omega (arith, h))))
    ])

pub counts_length : (files : Batch) → length (counts_in files) ≡ length files
counts_length [] = refl
counts_length (file ∷ files) = ap suc (counts_length files)

pub next_at : (files : Batch) (n : ℕ) → next_of (counts_in files) (position_at files n) ≡ position_at files (n + 1)
next_at files n = next_from (counts_in files) 0 files n (λ j. ap (count_at (counts_in files)) (omega arith)) (counts_length files ∙ omega arith)

-- a place of a frame's kind
abbrev pub SameKind : Frame HeaderParts → Position → Type 0
SameKind (BlockZero h) (Header i) = Unit {0}
SameKind (Piece number body) (Block i k) = number ≡ k % 256
SameKind EotFrame (Eot i) = Unit {0}
SameKind EndBlock End = Unit {0}
SameKind _ _ = ⊥

pub in_blocks : (k n : ℕ) (pieces : List (List ℕ)) (rest : List (Frame HeaderParts)) → n < length pieces → frame_at (numbered_from k pieces ++ rest) n ≡ Piece ((k + n) % 256) (body_at n pieces)
in_blocks k n [] rest less = absurd (omega arith)
in_blocks k zero (head ∷ pieces) rest less = rw add-zero refl
in_blocks k (suc n) (head ∷ pieces) rest less = in_blocks (k + 1) n pieces rest (omega arith) ∙ ap (λ x. Piece (x % 256) (body_at n pieces)) (omega arith)

pub behind_blocks : (k m n : ℕ) (pieces : List (List ℕ)) (rest : List (Frame HeaderParts)) → n ≡ length pieces + m → frame_at (numbered_from k pieces ++ rest) n ≡ frame_at rest m
behind_blocks k m n [] rest h = ap (frame_at rest) (omega (arith, h))
behind_blocks k m zero (head ∷ pieces) rest h = absurd (omega (arith, h))
behind_blocks k m (suc n) (head ∷ pieces) rest h = behind_blocks (k + 1) m n pieces rest (omega (arith, h))

kind_from : (i : ℕ) (files : Batch) (n : ℕ) → SameKind (frame_at (frames_of files) n) (position_from i files n)
kind_from i [] zero = tt
kind_from i (file ∷ files) (suc n) =
    elim (ordered n (length file.pieces)) [
      | below h ↦ rw (position_block i file files n h, in_blocks 1 n file.pieces (EotFrame ∷ frames_of files) h) (ap (λ x. x % 256) (omega arith))
      | equal h ↦ rw (position_eot i file files n h, behind_blocks 1 0 n file.pieces (EotFrame ∷ frames_of files) (omega (arith, h))) tt
      | above m h ↦ rw (position_rest i file files n m h, behind_blocks 1 (suc m) n file.pieces (EotFrame ∷ frames_of files) (omega (arith, h))) (kind_from (i + 1) files m)
    ]
kind_from i _ _ = tt

pub kind_at : (files : Batch) (n : ℕ) → SameKind (frame_at (frames_of files) n) (position_at files n)
kind_at files n = kind_from 0 files n

-- the files whose EOT is among the first n frames
eots_in : (k n : ℕ) (pieces : List (List ℕ)) (rest : List (Frame HeaderParts)) → n ≤ length pieces → eots (take n (numbered_from k pieces ++ rest)) ≡ 0
eots_in k zero pieces rest h = refl
eots_in k (suc n) [] rest h = absurd (omega arith)
eots_in k (suc n) (head ∷ pieces) rest h = eots_in (k + 1) n pieces rest (omega arith)

eots_behind : (k m n : ℕ) (pieces : List (List ℕ)) (rest : List (Frame HeaderParts)) → n ≡ length pieces + m → eots (take n (numbered_from k pieces ++ rest)) ≡ eots (take m rest)
eots_behind k m n [] rest h = ap (λ x. eots (take x rest)) (omega (arith, h))
eots_behind k m zero (head ∷ pieces) rest h = absurd (omega (arith, h))
eots_behind k m (suc n) (head ∷ pieces) rest h = eots_behind (k + 1) m n pieces rest (omega (arith, h))

eots_nil : (n : ℕ) → eots {H = HeaderParts} (take n []) ≡ 0
eots_nil zero = refl
eots_nil (suc n) = refl

done_from : (all i : ℕ) (files : Batch) (n : ℕ) → all ≡ i + length files → done_at all (position_from i files n) ≡ i + eots (take n (frames_of files))
done_from all i [] zero e = omega (arith, e)
done_from all i [] (suc n) e = let x = eots_nil n in omega (arith, e, x)
done_from all i (file ∷ files) zero e = omega arith
done_from all i (file ∷ files) (suc n) e =
    elim (ordered n (length file.pieces)) [
      | below h ↦ let x = eots_in 1 n file.pieces (EotFrame ∷ frames_of files) (omega (arith, h)) in rw (position_block i file files n h) (omega (arith, x))
      | equal h ↦ let x = eots_in 1 n file.pieces (EotFrame ∷ frames_of files) (omega (arith, h)) in rw (position_eot i file files n h) (omega (arith, x))
      | above m h ↦
          let x = eots_behind 1 (suc m) n file.pieces (EotFrame ∷ frames_of files) (omega (arith, h)) in
          let r = done_from all (i + 1) files m (omega (arith, e)) in
          rw (position_rest i file files n m h) (omega (arith, x, r))
    ]

pub done_is : (files : Batch) (n : ℕ) → done_at (length files) (position_at files n) ≡ eots (take n (frames_of files))
done_is files n = done_from (length files) 0 files n (omega arith) ∙ omega arith

-- a body by its place, as a piece is given
pub body_is : (n : ℕ) (pieces : List (List ℕ)) → body_at n pieces ≡ get_or pieces n []
body_is n [] = refl
body_is zero (piece ∷ pieces) = refl
body_is (suc n) (piece ∷ pieces) = body_is n pieces
