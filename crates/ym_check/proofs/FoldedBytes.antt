-- Bytes as words that are folded, and the check of the bytes before them.
use Rattle.std.specs.Prelude.{◌≡◌, ℕ, ◌+◌, ◌*◌, ◌^◌, ◌<◌, ◌≤◌, suc, Bool, false, List, [], ◌∷◌, ◌++◌, length, get_or, replicate, refl}
use Rattle.std.specs.Int.{from_be_bytes, w128}
use Rattle.std.proofs.Common.{sym, ◌∙◌, ap, arith}
use Rattle.std.proofs.lemmas.Nat.{pow-add, mul-add-lt, div-mul-add}
use Rattle.ym_check.specs.Check.{bits, minus, subtract, divided, body_bits}
use Rattle.ym_check.proofs.Division.{run, start, length-run, length-subtract, divided-run, subtract-zeros, zeros-subtract}
use Rattle.ym_check.proofs.CheckNumbers.{bits-split, bits-above}

subtract_front : (bs v rest : List Bool) → length v ≤ length bs → subtract (bs ++ rest) v ≡ subtract bs v ++ rest
subtract_front bs [] rest h = refl
subtract_front [] (v ∷ vs) rest h = absurd (omega arith)
subtract_front (b ∷ bs) (v ∷ vs) rest h =
    let k : length vs ≤ length bs = omega arith in
    ap (λ t. minus b v ∷ t) (subtract_front bs vs rest k)

pub zeros_behind : (n : ℕ) (xs vs : List Bool) → subtract xs (vs ++ replicate n false) ≡ subtract xs vs
zeros_behind n xs [] = subtract-zeros n xs
zeros_behind n [] (v ∷ vs) = refl
zeros_behind n (x ∷ xs) (v ∷ vs) = ap (λ t. minus x v ∷ t) (zeros_behind n xs vs)

-- a register that is not at the start goes into the bits that come
pub entered : (v bs : List Bool) → length v ≡ 16 → 16 ≤ length bs → run v bs ≡ run start (subtract bs v)
entered v bs h l =
    let less = subtract bs v in
    let ways : divided (length bs) (less ++ start) ≡ run v bs = rw (subtract_front bs v start (omega arith), zeros-subtract 16 (run v bs) (length-run v bs ∙ h)) at (divided-run bs v start h) in
    let other : divided (length bs) (less ++ start) ≡ run start less =
    rw (length-subtract bs v, subtract-zeros 16 (less ++ start), zeros-subtract 16 (run start less) (length-run start less)) at (divided-run less start start refl) in
    sym ways ∙ other

-- ---- eight bytes as a number, the first byte highest

abbrev high_first : List ℕ → ℕ
high_first [] = 0
high_first (b ∷ bs) = b * 2 ^ (8 * length bs) + high_first bs

high_first-lt : (bs : List ℕ) → ((i : ℕ) → get_or bs i 0 < 256) → high_first bs < 2 ^ (8 * length bs)
high_first-lt [] h = omega arith
high_first-lt (b ∷ bs) h =
    let rest : high_first bs < 2 ^ (8 * length bs) = high_first-lt bs (λ i. h (suc i)) in
    let small : b < 2 ^ 8 = omega (arith, h 0) in
    let more : 2 ^ (8 + 8 * length bs) ≡ 2 ^ 8 * 2 ^ (8 * length bs) = pow-add 2 8 (8 * length bs) in
    let same : 8 * suc (length bs) ≡ 8 + 8 * length bs = omega arith in
    rw same (omega (arith, more, mul-add-lt b (2 ^ (8 * length bs)) (high_first bs) (2 ^ 8) small rest))

bits-high_first : (bs : List ℕ) → ((i : ℕ) → get_or bs i 0 < 256) → bits (8 * length bs) (high_first bs) ≡ body_bits bs
bits-high_first [] h = refl
bits-high_first (b ∷ bs) h =
    let k = 8 * length bs in
    let n = b * 2 ^ k + high_first bs in
    let same : 8 * suc (length bs) ≡ 8 + k = omega arith in
    let rest : high_first bs < 2 ^ k = high_first-lt bs (λ i. h (suc i)) in
    ap (λ j. bits j n) same ∙
    bits-split 8 k n ∙
    ap (λ q. bits 8 q ++ bits k n) (div-mul-add b (2 ^ k) (high_first bs) rest) ∙
    ap (λ t. bits 8 b ++ t) (bits-above k k b (high_first bs) (omega arith) ∙ bits-high_first bs (λ i. h (suc i)))

pub word_bits : (bs : List ℕ) (n : ℕ) → length bs ≡ 16 → ((i : ℕ) → get_or bs i 0 < 256) → n ≡ from_be_bytes w128 bs → bits 128 n ≡ body_bits bs
word_bits (a ∷ b ∷ c ∷ d ∷ e ∷ f ∷ g ∷ h ∷ i ∷ j ∷ k ∷ l ∷ m ∷ n ∷ o ∷ p ∷ []) number long small is =
    let bytes = a ∷ b ∷ c ∷ d ∷ e ∷ f ∷ g ∷ h ∷ i ∷ j ∷ k ∷ l ∷ m ∷ n ∷ o ∷ p ∷ [] in
    let same : number ≡ high_first bytes = omega arith in
    ap (bits 128) same ∙ bits-high_first bytes small
word_bits bs number long small is = absurd (omega arith)
