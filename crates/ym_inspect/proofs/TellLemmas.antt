-- What is told goes on.
use Rattle.std.proofs.Common.{◌≡◌, ◌∙◌, ◌<◌, ◌+◌, ◌||◌, Bool, false, length, drop, get_or, ◌++◌, ◌∷◌, [], ℕ, List, Option, Some, None, true, refl, sym, subst, ap, append_assoc}
use Rattle.std.proofs.Math.Numerals.{add-one}
use Rattle.std.proofs.Math.Seq.{drop-cons}
use Rattle.std.proofs.lemmas.List.{append-nil}
use Rattle.ym_explain.specs.PrefixOf.{has_block}
use Rattle.std.specs.Io.KnownBytes.{Consumes, IsAtEnd}
use Rattle.ym_told.specs.declared.prefix.Settle.{Settle}
use Rattle.ym_told.specs.declared.way.Direction.{Direction}
use Rattle.ym_inspect.specs.CaptureTold.{Tells, TellsAll, has_frame, nothing, came, passed, told, tagged, at_moment}
use Rattle.ym_inspect.specs.Inspecting.{Parts, with_piece, IsTold}

-- what is told, and then more of it
pub tells_on :
    (old : Parts) (before : Option (List ℕ)) (read : List (Direction × ℕ)) (mid : Parts) (between : Option (List ℕ)) (more : List (Direction × ℕ)) (new : Parts)
    (after : Option (List ℕ)) → Tells old before read mid between → Tells mid between more new after → Tells old before (read ++ more) new after
tells_on old before read mid between more new after p (nothing _ _) =
    subst (λ (zs : List (Direction × ℕ)). Tells old before zs mid between) (sym (append-nil read)) p
tells_on old before read mid between more new after p (came _ _ ys at out way piece q) =
    subst (λ (zs : List (Direction × ℕ)). Tells old before zs (with_piece at way piece) out) (append_assoc read ys (tagged way piece))
    (came _ _ _ _ _ way piece (tells_on old before read mid between ys at out p q))
tells_on old before read mid between more new after p (passed _ _ _ at out way now q) =
    passed _ _ _ _ _ way now (tells_on old before read mid between more at out p q)
tells_on old before read mid between more new after p (told _ _ _ at out way settle prefix _ _ q is tells) =
    told _ _ _ _ _ way settle prefix _ _ (tells_on old before read mid between more at out p q) is tells

-- one front more
pub one_told :
    (old : Parts) (before : Option (List ℕ)) (read : List (Direction × ℕ)) (mid : Parts) (between : Option (List ℕ)) (way : Direction) (settle : Settle) (new : Parts)
    (after : Option (List ℕ)) → Tells old before read mid between → IsTold mid way settle true new between after → Tells old before read new after
one_told old before read mid between way settle new after p t =
    told old before read mid between way settle t.0 new after p t.1 t.2

-- bytes that come behind what was told, at another moment, and what is told then
pub took :
    (old : Parts) (before : Option (List ℕ)) (mid : Parts) (between : Option (List ℕ)) (way : Direction) (now : ℕ) (piece : List ℕ) (passed_at buffered new : Parts)
    (after : Option (List ℕ)) → Tells old before [] mid between → passed_at ≡ at_moment mid way now → buffered ≡ with_piece passed_at way piece
    → Tells buffered between [] new after → Tells old before (tagged way piece) new after
took old before mid between way now piece passed_at buffered new after p e f q =
    let moved : Tells (with_piece (at_moment mid way now) way piece) between [] new after =
    subst (λ (h : Parts). Tells h between [] new after) (f ∙ ap (λ (m : Parts). with_piece m way piece) e) q in
    subst (λ (zs : List (Direction × ℕ)). Tells old before zs new after) (append-nil (tagged way piece))
    (tells_on old before (tagged way piece) (with_piece (at_moment mid way now) way piece) between [] new after
    (came old before [] (at_moment mid way now) between way piece (passed old before [] mid between way now p)) moved)

pub tagged-append : (way : Direction) (xs ys : List ℕ) → tagged way (xs ++ ys) ≡ tagged way xs ++ tagged way ys
tagged-append way [] ys = refl
tagged-append way (x ∷ xs) ys = ap (λ (zs : List (Direction × ℕ)). (way, x) ∷ zs) (tagged-append way xs ys)

-- what was read of a text, what is left of it, and what was told
pub record ReadSoFar (text : List ℕ) (way : Direction) (old : Parts) (before remaining : Option (List ℕ)) (new : Parts) (after : Option (List ℕ)) : Type 0 where
  pub taken : List ℕ
  pub rest : List ℕ
  pub split : text ≡ taken ++ rest
  pub left : remaining ≡ Some rest
  pub tells : Tells old before (tagged way taken) new after

pub none_read :
    (text : List ℕ) (way : Direction) (old : Parts) (before remaining : Option (List ℕ)) → remaining ≡ Some text → ReadSoFar text way old before remaining old before
none_read text way old before remaining e =
    record { taken = []; rest = text; split = refl; left = e; tells = nothing old before }

pub consumed : (left : Option (List ℕ)) (rest piece : List ℕ) → Consumes (Some rest) left piece → (ys : List ℕ) × (left ≡ Some ys) × (rest ≡ piece ++ ys)
consumed None rest piece h = absurd h
consumed (Some ys) rest piece h = (ys, refl, h)

-- a piece more was read, held and told
pub piece_read :
    (text : List ℕ) (way : Direction) (old : Parts) (before remaining : Option (List ℕ)) (mid : Parts) (between left : Option (List ℕ)) (piece : List ℕ) (buffered : Parts)
    (settle : Settle) (new : Parts) (after : Option (List ℕ)) → ReadSoFar text way old before remaining mid between → Consumes remaining left piece
    → buffered ≡ with_piece mid way piece → TellsAll buffered between way settle new after → ReadSoFar text way old before left new after
piece_read text way old before remaining mid between left piece buffered settle new after so con e all =
    let known : Consumes (Some so.rest) left piece = subst (λ (r : Option (List ℕ)). Consumes r left piece) so.left con in
    let more : (ys : List ℕ) × (left ≡ Some ys) × (so.rest ≡ piece ++ ys) = consumed left so.rest piece known in
    let both : List (Direction × ℕ) = tagged way so.taken ++ tagged way piece in
    let holds : Tells old before both buffered between =
    subst (λ (h : Parts). Tells old before both h between) (sym e) (came old before (tagged way so.taken) mid between way piece so.tells) in
    record {
      taken = so.taken ++ piece;
      rest = more.0;
      split = so.split ∙ ap (λ (ys : List ℕ). so.taken ++ ys) more.2 ∙ sym (append_assoc so.taken piece more.0);
      left = more.1;
      tells = subst (λ (zs : List (Direction × ℕ)). Tells old before zs new after) (append-nil both ∙ sym (tagged-append way so.taken piece))
          (tells_on old before both buffered between [] new after holds all.tells);
    }

-- nothing is left to read: the whole text was
pub all_read :
    (text : List ℕ) (way : Direction) (old : Parts) (before remaining : Option (List ℕ)) (new : Parts) (after left : Option (List ℕ))
    → ReadSoFar text way old before remaining new after → Consumes remaining left [] → IsAtEnd left → Tells old before (tagged way text) new after
all_read text way old before remaining new after left so con at_end =
    let known : Consumes (Some so.rest) left [] = subst (λ (r : Option (List ℕ)). Consumes r left []) so.left con in
    let more : (ys : List ℕ) × (left ≡ Some ys) × (so.rest ≡ [] ++ ys) = consumed left so.rest [] known in
    let none : IsAtEnd (Some more.0) = subst (λ (r : Option (List ℕ)). IsAtEnd r) more.1 at_end in
    let rest_is : so.rest ≡ [] = more.2 ∙ none in
    let whole : text ≡ so.taken = so.split ∙ ap (λ (ys : List ℕ). so.taken ++ ys) rest_is ∙ append-nil so.taken in
    subst (λ (t : List ℕ). Tells old before (tagged way t) new after) (sym whole) so.tells

-- where no block begins at a position, one that is there begins behind it
pub frame_later :
    (xs : List ℕ) (i : ℕ) → i < length xs → has_block (drop i xs) ≡ false → has_frame (drop (i + 1) xs) ≡ has_frame (drop i xs)
frame_later xs i within none =
    let e : drop i xs ≡ get_or xs i 0 ∷ drop (i + 1) xs = rw add-one (drop-cons xs i 0 within) in
    let h : has_block (get_or xs i 0 ∷ drop (i + 1) xs) ≡ false = subst (λ (ys : List ℕ). has_block ys ≡ false) e none in
    sym (ap has_frame e ∙ ap (λ (v : Bool). v || has_frame (drop (i + 1) xs)) h)
