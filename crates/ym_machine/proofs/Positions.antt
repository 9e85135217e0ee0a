-- what stands at each place of the list of frames
use Rattle.std.proofs.Common.{ℕ, ◌+◌, ◌%◌, ◌<◌, ◌≤◌, ◌≡◌, ◌≢◌, ◌⊎◌, inl, inr, suc, zero, List, [], ◌∷◌, ◌++◌, length, refl, sym, ap, ◌∙◌, arith, add-one, add-zero, take}
use Rattle.std.proofs.Math.Seq.{take-length}
use Rattle.std.proofs.lemmas.List.{length-take-le, take-take}
use Rattle.ym_machine.proofs.Names.{Confirm, EndBlock, EndsOnce, Eot, File, Frame, Piece, files_within, frame_at, frames_of, numbered_from, State, Invariant}
use Rattle.ym_machine.specs.Frames.{BlockZero, IsPrefix, body_at, count_within, eots}
use Rattle.ym_machine.specs.State.{committed, reported}

-- a frame that is not the end block has another behind it
pub more_behind : {H : Type 0} (frames : List (Frame H)) (i : ℕ) → EndsOnce frames → i < length frames → frame_at frames i ≢ EndBlock → i + 1 < length frames
more_behind frames i ends below other = let no : i + 1 ≢ length frames = λ w. other (ends.last i w) in omega arith

-- the end block has none
pub none_behind : {H : Type 0} (frames : List (Frame H)) (i : ℕ) → EndsOnce frames → i < length frames → frame_at frames i ≡ EndBlock → i + 1 ≡ length frames
none_behind frames i ends below is = let no : i + 1 < length frames → ⊥ = λ w. ends.only i w is in omega arith

-- the frames of a batch
cons-ends : {H : Type 0} (frame : Frame H) (frames : List (Frame H)) → frame ≢ EndBlock → EndsOnce frames → EndsOnce (frame ∷ frames)
cons-ends frame frames other ends = grind (arith, other, ends)

pieces-end : {H : Type 0} (k : ℕ) (pieces : List (List ℕ)) (frames : List (Frame H)) → EndsOnce frames → EndsOnce (numbered_from k pieces ++ frames)
pieces-end k [] frames ends = ends
pieces-end k (piece ∷ pieces) frames ends = cons-ends (Piece (k % 256) piece) (numbered_from (k + 1) pieces ++ frames) (λ w. cc) (pieces-end (k + 1) pieces frames ends)

pub frames-end : {H : Type 0} (files : List (File H)) → EndsOnce (frames_of files)
frames-end [] = grind arith
frames-end (file ∷ files) =
    cons-ends (BlockZero file.header) (numbered_from 1 file.pieces ++ Eot ∷ frames_of files) (λ w. cc)
    (pieces-end 1 file.pieces (Eot ∷ frames_of files) (cons-ends Eot (frames_of files) (λ w. cc) (frames-end files)))

-- all files are within all frames
eots-pieces : {H : Type 0} (k : ℕ) (pieces : List (List ℕ)) (rest : List (Frame H)) → eots (numbered_from k pieces ++ rest) ≡ eots rest
eots-pieces k [] rest = refl
eots-pieces k (piece ∷ pieces) rest = eots-pieces (k + 1) pieces rest

pub eots-frames : {H : Type 0} (files : List (File H)) → eots (frames_of files) ≡ length files
eots-frames [] = refl
eots-frames (file ∷ files) = let x = eots-pieces 1 file.pieces (Eot ∷ frames_of files) in let z = eots-frames files in omega (arith, x, z)

pub all-within : {H : Type 0} (files : List (File H)) → files_within files (length (frames_of files)) ≡ files
all-within files = ap (λ fs. take (eots fs) files) (take-length (frames_of files)) ∙ ap (λ n. take n files) (eots-frames files) ∙ take-length files

module _ {H : Type 0} where
  in-pieces : (k n : ℕ) (pieces : List (List ℕ)) (rest : List (Frame H)) → n < length pieces → frame_at (numbered_from k pieces ++ rest) n ≡ Piece ((k + n) % 256) (body_at n pieces)
  in-pieces k n [] rest less = absurd (omega arith)
  in-pieces k zero (piece ∷ pieces) rest less = rw add-zero refl
  in-pieces k (suc n) (piece ∷ pieces) rest less = in-pieces (k + 1) n pieces rest (omega arith) ∙ ap (λ x. Piece (x % 256) (body_at n pieces)) (omega arith)

  behind-pieces : (k m n : ℕ) (pieces : List (List ℕ)) (rest : List (Frame H)) → n ≡ length pieces + m → frame_at (numbered_from k pieces ++ rest) n ≡ frame_at rest m
  behind-pieces k m n [] rest h = ap (frame_at rest) (omega (arith, h))
  behind-pieces k m zero (piece ∷ pieces) rest h = absurd (omega (arith, h))
  behind-pieces k m (suc n) (piece ∷ pieces) rest h = behind-pieces (k + 1) m n pieces rest (omega (arith, h))

  pub piece-at : (file : File H) (files : List (File H)) (n : ℕ) → n < length file.pieces → frame_at (frames_of (file ∷ files)) (n + 1) ≡ Piece ((n + 1) % 256) (body_at n file.pieces)
  piece-at file files n less = rw add-one (in-pieces 1 n file.pieces (Eot ∷ frames_of files) less ∙ ap (λ x. Piece (x % 256) (body_at n file.pieces)) (omega arith))

  pub eot-at : (file : File H) (files : List (File H)) → frame_at (frames_of (file ∷ files)) (length file.pieces + 1) ≡ Eot
  eot-at file files = rw add-one (behind-pieces 1 0 (length file.pieces) file.pieces (Eot ∷ frames_of files) (omega arith))

  pub behind-at : (file : File H) (files : List (File H)) (n : ℕ) → frame_at (frames_of (file ∷ files)) (length file.pieces + 2 + n) ≡ frame_at (frames_of files) n
  behind-at file files n =
      let up : length file.pieces + 2 + n ≡ suc (length file.pieces + suc n) = omega arith in
      ap (frame_at (frames_of (file ∷ files))) up ∙ behind-pieces 1 (suc n) (length file.pieces + suc n) file.pieces (Eot ∷ frames_of files) refl

  length-pieces : (k : ℕ) (pieces : List (List ℕ)) (rest : List (Frame H)) → length (numbered_from k pieces ++ rest) ≡ length pieces + length rest
  length-pieces k [] rest = omega arith
  length-pieces k (piece ∷ pieces) rest = let x = length-pieces (k + 1) pieces rest in omega (arith, x)

  pub length-frames : (file : File H) (files : List (File H)) → length (frames_of (file ∷ files)) ≡ length file.pieces + 2 + length (frames_of files)
  length-frames file files = let x = length-pieces 1 file.pieces (Eot ∷ frames_of files) in omega (arith, x)

  -- the files whose EOT is among the first n frames
  eots-in : (k n : ℕ) (pieces : List (List ℕ)) (rest : List (Frame H)) → n ≤ length pieces → eots (take n (numbered_from k pieces ++ rest)) ≡ 0
  eots-in k zero pieces rest h = refl
  eots-in k (suc n) [] rest h = absurd (omega arith)
  eots-in k (suc n) (piece ∷ pieces) rest h = eots-in (k + 1) n pieces rest (omega arith)

  eots-behind : (k m n : ℕ) (pieces : List (List ℕ)) (rest : List (Frame H)) → n ≡ length pieces + m → eots (take n (numbered_from k pieces ++ rest)) ≡ eots (take m rest)
  eots-behind k m n [] rest h = ap (λ x. eots (take x rest)) (omega (arith, h))
  eots-behind k m zero (piece ∷ pieces) rest h = absurd (omega (arith, h))
  eots-behind k m (suc n) (piece ∷ pieces) rest h = eots-behind (k + 1) m n pieces rest (omega (arith, h))

  pub within-inside : (file : File H) (files : List (File H)) (n : ℕ) → n ≤ length file.pieces + 1 → count_within (file ∷ files) n ≡ 0
  within-inside file files zero h = refl
  within-inside file files (suc n) h = eots-in 1 n file.pieces (Eot ∷ frames_of files) (omega (arith, h))

  pub within-behind : (file : File H) (files : List (File H)) (n : ℕ) → count_within (file ∷ files) (length file.pieces + 2 + n) ≡ count_within files n + 1
  within-behind file files n =
      let up : length file.pieces + 2 + n ≡ suc (length file.pieces + suc n) = omega arith in
      ap (count_within (file ∷ files)) up ∙ eots-behind 1 (suc n) (length file.pieces + suc n) file.pieces (Eot ∷ frames_of files) refl

  -- one frame more has one EOT more at most
  eots-more : (frames : List (Frame H)) (n : ℕ) → (eots (take (suc n) frames) ≡ eots (take n frames)) ⊎ (eots (take (suc n) frames) ≡ eots (take n frames) + 1)
  eots-more [] zero = inl refl
  eots-more [] (suc n) = inl refl
  eots-more (frame ∷ frames) zero = grind arith
  eots-more (frame ∷ frames) (suc n) = let x = eots-more frames n in grind (arith, x)

  eots-next : (frames : List (Frame H)) (n : ℕ) → (eots (take (n + 1) frames) ≡ eots (take n frames)) ⊎ (eots (take (n + 1) frames) ≡ eots (take n frames) + 1)
  eots-next frames n = rw add-one (eots-more frames n)

  -- and no more than all
  eots-least : (frames : List (Frame H)) (n : ℕ) → eots (take n frames) ≤ eots frames
  eots-least [] (suc n) = omega arith
  eots-least (frame ∷ frames) (suc n) = let x = eots-least frames n in grind (arith, x)
  eots-least _ zero = omega arith

  pub counted : (files : List (File H)) (n : ℕ) → length (files_within files n) ≡ count_within files n
  counted files n = length-take-le (count_within files n) files (let x = eots-least (frames_of files) n in let y = eots-frames files in omega (arith, x, y))

  pub first-files : (files : List (File H)) (n : ℕ) → IsPrefix (files_within files n) files
  first-files files n = ap (λ k. take k files) (counted files n)

  -- the files of the machine
  module _ (files : List (File H)) (confirm : Confirm) (st : State) (m : Invariant confirm (frames_of files) st) where
    more : (count_within files st.taken ≡ count_within files st.acknowledged) ⊎ (count_within files st.taken ≡ count_within files st.acknowledged + 1)
    more = elim m.counters.ahead [ inl e ↦ inl (ap (count_within files) e) | inr e ↦ rw e (eots-next (frames_of files) st.acknowledged) ]

    pub one-more : (length (committed files st) ≡ length (reported files st)) ⊎ (length (committed files st) ≡ length (reported files st) + 1)
    one-more = let c = counted files st.taken in let r = counted files st.acknowledged in elim more [ inl e ↦ inl (c ∙ (e ∙ sym r)) | inr e ↦ inr (c ∙ (e ∙ ap (λ n. n + 1) (sym r))) ]

    pub reported-within : IsPrefix (reported files st) (committed files st)
    reported-within = ap (λ k. take k (committed files st)) (counted files st.acknowledged) ∙ take-take (count_within files st.acknowledged) (count_within files st.taken) files (elim more [ inl e ↦ omega (arith, e) | inr e ↦ omega (arith, e) ])
