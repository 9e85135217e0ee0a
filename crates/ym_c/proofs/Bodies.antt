-- A body in its frame.
use Rattle.std.specs.Prelude.{◌≡◌, ℕ, ◌+◌, ◌-◌, ◌/◌, ◌%◌, List, [], ◌∷◌, ◌++◌, length, take, drop, refl}
use Rattle.std.proofs.Common.{◌∙◌, ap, ap₂, arith, inl, inr, length-append, length-drop}
use Rattle.std.proofs.lemmas.List.{length-take-le, take_at, drop_at}
use borrow.Rule.Slice.PartMut.{put_mid}
use Rattle.ym_frame.specs.Check.{check_of}
use Rattle.ym_frame.specs.Seal.{IsBlockFrame}

-- a body that was put behind the first three bytes and before the last two
pub body_put : (n : ℕ) (frame body : List ℕ) → length frame ≡ n + 5 → length body ≡ n → take (length (put_mid 3 n frame body) - 5) (drop 3 (put_mid 3 n frame body)) ≡ body
body_put n frame body p q =
    let front : length (take 3 frame) ≡ 3 = length-take-le 3 frame (omega arith) in
    let whole = length-append (take 3 frame) (body ++ drop n (drop 3 frame)) in
    let behind = length-append body (drop n (drop 3 frame)) in
    let last = length-drop n (drop 3 frame) in
    let others = length-drop 3 frame in
    let size : length (put_mid 3 n frame body) - 5 ≡ length body = omega (arith, whole, behind, last, others, front) in
    ap₂ take size (drop_at (take 3 frame) (body ++ drop n (drop 3 frame)) 3 front) ∙ take_at body (drop n (drop 3 frame)) (length body) refl

-- the frame of a block has five bytes more than its body
pub frame_length : (number : ℕ) (body frame : List ℕ) → IsBlockFrame number body frame → length frame ≡ length body + 5
frame_length number body frame (inl (l, e)) = ap length e ∙ (let all = length-append body (check_of body / 256 ∷ check_of body % 256 ∷ []) in omega (arith, all))
frame_length number body frame (inr (l, e)) = ap length e ∙ (let all = length-append body (check_of body / 256 ∷ check_of body % 256 ∷ []) in omega (arith, all))

-- a frame at the front of a longer buffer
pub frame_front : (number : ℕ) (body frame more : List ℕ) (n : ℕ) → IsBlockFrame number body frame → length body + 5 ≡ n → IsBlockFrame number body (take n (frame ++ more))
frame_front number body frame more n h e =
    rw (take_at frame more n (frame_length number body frame h ∙ e)) h
