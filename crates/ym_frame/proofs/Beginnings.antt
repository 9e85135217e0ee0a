-- The beginning of a frame: what one byte more makes of it, and how long it is at most.
use Rattle.std.specs.Prelude.{◌≡◌, ℕ, ◌+◌, ◌-◌, take, drop, ◌*◌, ◌<◌, ◌≤◌, true, false, nat_lt, ◌==◌, cond, List, [], ◌∷◌, ◌++◌, length, slice_index, Ok, Err, refl}
use Rattle.std.proofs.Common.{sym, ◌∙◌, ap, arith, inl, inr, length-append, length-take}
use Rattle.std.proofs.Math.ListN.{get_or-append}
use Rattle.std.proofs.Math.Seq.{get_or-append_seam}
use Rattle.std.proofs.lemmas.Bool.{le-ltb, eq-eqb, ne_eqb, cases_Bool}
use Rattle.std.proofs.lemmas.List.{take-take, drop-take}
use Rattle.ym_frame.proofs.Names.{length_of, check_of, IsOpen, verdict_of, block_verdict, cancel_verdict, body_of, fault_at, Block, FirstByte, Complement, Check, Cut}
use Rattle.ym_frame.specs.declared.block.Size.{Size}
use Rattle.ym_frame.specs.declared.block.Size.TheVariants.{Short, Long}
use Rattle.ym_frame.specs.declared.frame.Why.TheVariants.{SecondCan}
use Rattle.ym_frame.proofs.Verdicts.{wrong, cut, good, bad, wrong_at, block_case, wrong_more, body_of-more, first_case, FirstCase, nothing, eot, can, soh, stx, other}

-- ---- one byte more behind the beginning of a frame
-- a block that goes on has the right complement, if any, and is not whole
open_parts : (size : ℕ) (bytes : List ℕ) → IsOpen (block_verdict size bytes) → (wrong_at bytes ≡ false) × (length bytes < size + 5)
open_parts size bytes still =
    elim (block_case size bytes) [
      | wrong w e ↦ let no : Complement ≡ Cut = rw e at still in cc
      | cut w l e ↦ (w, l)
      | good w l m e ↦ absurd (rw e at still)
      | bad w l m e ↦ let no : Check ≡ Cut = rw e at still in cc
    ]

pub block_last : (size : ℕ) (buffered : List ℕ) (byte : ℕ) → IsOpen (block_verdict size buffered) → size + 4 ≤ length buffered →
    block_verdict size (buffered ++ byte ∷ []) ≡
    cond (check_of (body_of size buffered) == slice_index buffered (size + 3) * 256 + byte) (Ok (Block (record { number = slice_index buffered 1; body = body_of size buffered }), size + 5)) (Err (fault_at (size + 3) Check))
block_last size buffered byte still h =
    let all = buffered ++ byte ∷ [] in
    let parts = open_parts size buffered still in
    let long : length all ≡ size + 5 = omega (arith, length-append buffered (byte ∷ []), parts.1) in
    let right : wrong_at all ≡ false = wrong_more buffered (byte ∷ []) (omega arith) ∙ parts.0 in
    let whole : nat_lt (length all) (size + 5) ≡ false = le-ltb (length all) (size + 5) (omega arith) in
    let number : slice_index all 1 ≡ slice_index buffered 1 = get_or-append buffered (byte ∷ []) 0 1 (omega arith) in
    let high : slice_index all (size + 3) ≡ slice_index buffered (size + 3) = get_or-append buffered (byte ∷ []) 0 (size + 3) (omega arith) in
    let place : size + 4 ≡ length buffered = omega (arith, parts.1) in
    let low : slice_index all (size + 4) ≡ byte = rw place (get_or-append_seam buffered byte [] 0) in
    let body : body_of size all ≡ body_of size buffered = body_of-more size buffered (byte ∷ []) (omega arith) in
    rw (right, whole, number, high, low, body) refl

pub block_last_good : (size : ℕ) (buffered : List ℕ) (byte : ℕ) → IsOpen (block_verdict size buffered) → size + 4 ≤ length buffered →
    check_of (body_of size buffered) ≡ slice_index buffered (size + 3) * 256 + byte →
    block_verdict size (buffered ++ byte ∷ []) ≡ Ok (Block (record { number = slice_index buffered 1; body = body_of size buffered }), size + 5)
block_last_good size buffered byte still h m = rw (block_last size buffered byte still h, eq-eqb (check_of (body_of size buffered)) (slice_index buffered (size + 3) * 256 + byte) m) refl

pub block_last_bad : (size : ℕ) (buffered : List ℕ) (byte : ℕ) → IsOpen (block_verdict size buffered) → size + 4 ≤ length buffered →
    (check_of (body_of size buffered) ≡ slice_index buffered (size + 3) * 256 + byte → ⊥) →
    block_verdict size (buffered ++ byte ∷ []) ≡ Err (fault_at (size + 3) Check)
block_last_bad size buffered byte still h m = rw (block_last size buffered byte still h, ne_eqb (check_of (body_of size buffered)) (slice_index buffered (size + 3) * 256 + byte) m) refl

-- once its complement has passed, a block that is not whole goes on
pub block_goes_on : (size : ℕ) (buffered more : List ℕ) → IsOpen (block_verdict size buffered) → 2 < length buffered → length buffered + length more < size + 5 →
    IsOpen (block_verdict size (buffered ++ more))
block_goes_on size buffered more still longer short =
    let parts = open_parts size buffered still in
    elim (block_case size (buffered ++ more)) [
      | wrong v f ↦ let no : false ≡ true = sym parts.0 ∙ sym (wrong_more buffered more longer) ∙ v in cc
      | cut v k f ↦ rw f refl
      | good v k m f ↦ absurd (omega (arith, length-append buffered more))
      | bad v k m f ↦ absurd (omega (arith, length-append buffered more))
    ]

pub cancel_short : (more : List ℕ) → IsOpen (cancel_verdict more) → more ≡ []
cancel_short [] h = refl
cancel_short (second ∷ more) h = elim (cases_Bool (second == 0x18)) [ inl e ↦ absurd (rw e at h) | inr e ↦ let no : SecondCan ≡ Cut = rw e at h in cc ]

-- the beginning of a frame is shorter than the longest frame
short_at : (bytes : List ℕ) → FirstCase bytes → IsOpen (verdict_of bytes) → length bytes < 1029
unfolding verdict_of
short_at bytes (nothing e) h = omega (arith, ap length e)
short_at bytes (eot more e) h = absurd (rw e at h)
short_at bytes (can more e) h = omega (arith, ap length e, ap length (cancel_short more (rw e at h)))
short_at bytes (soh more e) h = omega (arith, ap length e, (open_parts 128 (0x01 ∷ more) (rw e at h)).1)
short_at bytes (stx more e) h = omega (arith, ap length e, (open_parts 1024 (0x02 ∷ more) (rw e at h)).1)
short_at bytes (other first more e a b c d) h = let no : FirstByte ≡ Cut = rw (e, a, b, c, d) at h in cc

pub open_short : (bytes : List ℕ) → IsOpen (verdict_of bytes) → length bytes < 1029
open_short bytes h = short_at bytes (first_case bytes) h

-- the body of a block whose frame is held, among the bytes of a buffer
long_enough : (size : Size) → length_of size ≤ 1024
long_enough Short = omega arith
long_enough Long = omega arith

pub body_buffered : (size : Size) (len : ℕ) (bytes buffered rest chunk : List ℕ) → take len bytes ≡ buffered → rest ≡ take 1026 (drop 3 bytes) → chunk ≡ take 1024 rest →
    length_of size + 3 ≤ length buffered → take (length_of size) chunk ≡ body_of (length_of size) buffered
body_buffered size len bytes buffered rest chunk is all first h =
    let n = length_of size in
    let within : length buffered ≤ len = omega (arith, ap length is, length-take len bytes) in
    let split : 3 + (len - 3) ≡ len = omega arith in
    let body = drop 3 bytes in
    ap (take n) (first ∙ ap (take 1024) all) ∙
    take-take n 1024 (take 1026 body) (long_enough size) ∙
    take-take n 1026 body (omega (arith, long_enough size)) ∙
    sym (take-take n (len - 3) body (omega arith)) ∙
    ap (take n) (sym (drop-take 3 (len - 3) bytes) ∙ ap (λ k. drop 3 (take k bytes)) split) ∙
    ap (body_of n) is

pub first_within : (len : ℕ) (bytes buffered : List ℕ) (i : ℕ) → take len bytes ≡ buffered → i < length buffered → i < len
first_within len bytes buffered i is h = omega (arith, ap length is, length-take len bytes)
