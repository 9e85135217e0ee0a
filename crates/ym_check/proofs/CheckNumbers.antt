-- The check of a body as a number of sixteen bits, which takes one byte after another.
use Rattle.std.specs.Prelude.{◌≡◌, ℕ, ◌+◌, ◌*◌, ◌/◌, ◌%◌, ◌^◌, ◌<◌, ◌≤◌, zero, suc, Bool, true, false, eqb, cond, List, [], ◌∷◌, ◌++◌, length, replicate, bit_xor, refl}
use Rattle.std.specs.Int.{bit_at}
use Rattle.std.proofs.Common.{sym, ◌∙◌, ap, arith}
use Rattle.std.proofs.Math.Nat.{zero-add, suc-add, pow-suc}
use Rattle.std.proofs.lemmas.List.{append-nil}
use Rattle.std.proofs.lemmas.Grind.{flat_map-append}
use Rattle.std.proofs.lemmas.Nat.{shr-shr, div-mul-add, pow_pos, shr_split, mod_below, div_below, xor_comm, xor_lt}
use Rattle.std.proofs.lemmas.Nat.Bits.{bit_at_xor, bit_at-lt, bit_at_cat_low}
use Rattle.ym_check.specs.Check.{bits, number_of, minus, subtract, body_bits, remainder, check_of}
use Rattle.ym_check.proofs.Division.{run, start, remainder_is_run, run-append, run-byte, length-run}

pub length-bits : (k n : ℕ) → length (bits k n) ≡ k
length-bits zero n = refl
length-bits (suc k) n = ap suc (length-bits k n)

parity : (x y : ℕ) → x < 2 → y < 2 → eqb ((x + y) % 2) 1 ≡ minus (eqb x 1) (eqb y 1)
parity zero zero h k = refl
parity zero (suc zero) h k = refl
parity (suc zero) zero h k = refl
parity (suc zero) (suc zero) h k = refl
parity (suc (suc x)) y h k = absurd (omega arith)
parity x (suc (suc y)) h k = absurd (omega arith)

pub bits-xor : (k a b : ℕ) → bits k (bit_xor a b) ≡ subtract (bits k a) (bits k b)
bits-xor zero a b = refl
bits-xor (suc k) a b =
    let head : eqb (bit_at (bit_xor a b) k) 1 ≡ minus (eqb (bit_at a k) 1) (eqb (bit_at b k) 1) =
    rw (bit_at_xor a b k) (parity (bit_at a k) (bit_at b k) (bit_at-lt a k) (bit_at-lt b k)) in
    rw (head, bits-xor k a b) refl

-- the high bits and the low ones
pub bits-split : (j k n : ℕ) → bits (j + k) n ≡ bits j (n / 2 ^ k) ++ bits k n
bits-split zero k n = ap (λ i. bits i n) (zero-add k)
bits-split (suc j) k n =
    let power : n / 2 ^ k / 2 ^ j ≡ n / 2 ^ (j + k) = shr-shr n k j ∙ ap (λ i. n / 2 ^ i) (omega arith) in
    rw (suc-add j k, power, bits-split j k n) refl

-- what stands above the low bits does not change them
pub bits-above : (k m a b : ℕ) → k ≤ m → bits k (a * 2 ^ m + b) ≡ bits k b
bits-above zero m a b h = refl
bits-above (suc k) m a b h = rw (bit_at_cat_low a m b k (omega arith), bits-above k m a b (omega arith)) refl

pub bits-low : (k n : ℕ) → bits k n ≡ bits k (n % 2 ^ k)
bits-low k n = ap (bits k) (sym (shr_split n k)) ∙ bits-above k k (n / 2 ^ k) (n % 2 ^ k) (omega arith)

number_of-lt : (bs : List Bool) → number_of bs < 2 ^ length bs
number_of-lt [] = omega arith
number_of-lt (true ∷ bs) = omega (arith, pow-suc 2 (length bs), number_of-lt bs)
number_of-lt (false ∷ bs) = omega (arith, pow-suc 2 (length bs), number_of-lt bs)

pub bits-number_of : (bs : List Bool) → bits (length bs) (number_of bs) ≡ bs
bits-number_of [] = refl
bits-number_of (true ∷ bs) =
    let k = length bs in
    let same : 2 ^ k + number_of bs ≡ 1 * 2 ^ k + number_of bs = omega arith in
    let quotient : (1 * 2 ^ k + number_of bs) / 2 ^ k ≡ 1 = div-mul-add 1 (2 ^ k) (number_of bs) (number_of-lt bs) in
    rw (same, quotient, bits-above k k 1 (number_of bs) (omega arith), bits-number_of bs) refl
bits-number_of (false ∷ bs) =
    let k = length bs in
    let same : 0 * 2 ^ k + number_of bs ≡ number_of bs = omega arith in
    let quotient : number_of bs / 2 ^ k ≡ 0 = rw same at (div-mul-add 0 (2 ^ k) (number_of bs) (number_of-lt bs)) in
    rw (quotient, bits-number_of bs) refl

number_of-first : (c : Bool) (bs : List Bool) → number_of (c ∷ bs) ≡ cond c (2 ^ length bs) 0 + number_of bs
number_of-first true bs = refl
number_of-first false bs = omega arith

first_bit : (q p m : ℕ) → q < 2 → cond (eqb (q % 2) 1) p 0 + m ≡ q * p + m
first_bit zero p m h = omega arith
first_bit (suc zero) p m h = omega arith
first_bit (suc (suc q)) p m h = absurd (omega arith)

pub number_of-bits : (k n : ℕ) → n < 2 ^ k → number_of (bits k n) ≡ n
number_of-bits zero n h = omega arith
number_of-bits (suc k) n h =
    let q = n / 2 ^ k in
    let r = n % 2 ^ k in
    let positive : 0 < 2 ^ k = pow_pos k in
    let twice : 2 ^ suc k ≡ 2 ^ k * 2 = pow-suc 2 k in
    let below : n < 2 * 2 ^ k = omega arith in
    let bit : q < 2 = div_below n (2 ^ k) 2 positive below in
    let whole : q * 2 ^ k + r ≡ n = shr_split n k in
    let low : bits k n ≡ bits k r = ap (bits k) (sym whole) ∙ bits-above k k q r (omega arith) in
    let rest : number_of (bits k n) ≡ r = rw low (number_of-bits k r (mod_below n (2 ^ k) positive)) in
    rw (number_of-first (eqb (q % 2) 1) (bits k n), length-bits k n, rest, first_bit q (2 ^ k) r bit) whole

-- the bits that a shift by eight leaves of sixteen
shifted : (n : ℕ) → bits 16 (n * 2 ^ 8 % 2 ^ 16) ≡ bits 8 n ++ replicate 8 false
shifted n =
    let high : n * 2 ^ 8 % 2 ^ 16 / 2 ^ 8 ≡ n % 2 ^ 8 = omega arith in
    let low : n * 2 ^ 8 % 2 ^ 16 ≡ n % 2 ^ 8 * 2 ^ 8 + 0 = omega arith in
    bits-split 8 8 (n * 2 ^ 8 % 2 ^ 16) ∙
    ap (λ q. bits 8 q ++ bits 8 (n * 2 ^ 8 % 2 ^ 16)) high ∙
    ap (λ q. bits 8 (n % 2 ^ 8) ++ bits 8 q) low ∙
    ap (λ t. bits 8 (n % 2 ^ 8) ++ t) (bits-above 8 8 (n % 2 ^ 8) 0 (omega arith)) ∙
    ap (λ t. t ++ replicate 8 false) (sym (bits-low 8 n))

pub check_bits : (bytes : List ℕ) → bits 16 (check_of bytes) ≡ run start (body_bits bytes)
unfolding check_of
check_bits bytes =
    let same : remainder (body_bits bytes) ≡ run start (body_bits bytes) = remainder_is_run (body_bits bytes) in
    let long : length (run start (body_bits bytes)) ≡ 16 = length-run start (body_bits bytes) in
    ap (λ t. bits 16 (number_of t)) same ∙
    ap (λ k. bits k (number_of (run start (body_bits bytes)))) (sym long) ∙
    bits-number_of (run start (body_bits bytes))

pub check_of-lt : (bytes : List ℕ) → check_of bytes < 2 ^ 16
unfolding check_of
check_of-lt bytes =
    let less : number_of (run start (body_bits bytes)) < 2 ^ 16 = rw (length-run start (body_bits bytes)) at (number_of-lt (run start (body_bits bytes))) in
    rw (remainder_is_run (body_bits bytes)) less

-- One byte more: the low byte of the check moves up, and the check of the one byte that is the high byte with the new one is added.
pub check_of-push : (old byte word : ℕ) (bytes : List ℕ) → old ≡ check_of bytes → word ≡ check_of (bit_xor (old / 2 ^ 8) byte ∷ []) →
    bit_xor (old * 2 ^ 8 % 2 ^ 16) word ≡ check_of (bytes ++ byte ∷ [])
unfolding check_of
check_of-push old byte word bytes is e =
    let index = bit_xor byte (old / 2 ^ 8) in
    let turned : bit_xor (old / 2 ^ 8) byte ≡ index = xor_comm (old / 2 ^ 8) byte in
    let word_bits : bits 16 word ≡ run start (subtract (bits 8 byte) (bits 8 (old / 2 ^ 8))) =
    ap (bits 16) (e ∙ ap (λ i. check_of (i ∷ [])) turned) ∙
    check_bits (index ∷ []) ∙
    ap (run start) (append-nil (bits 8 index) ∙ bits-xor 8 byte (old / 2 ^ 8)) in
    let old_bits : bits 8 (old / 2 ^ 8) ++ bits 8 old ≡ run start (body_bits bytes) =
    sym (bits-split 8 8 old) ∙ ap (bits 16) is ∙ check_bits bytes in
    let new_bits : bits 16 (bit_xor (old * 2 ^ 8 % 2 ^ 16) word) ≡ run start (body_bits (bytes ++ byte ∷ [])) =
    bits-xor 16 (old * 2 ^ 8 % 2 ^ 16) word ∙
    ap (λ t. subtract t (bits 16 word)) (shifted old) ∙
    ap (subtract (bits 8 old ++ replicate 8 false)) word_bits ∙
    sym (run-byte (bits 8 (old / 2 ^ 8)) (bits 8 old) (bits 8 byte) (length-bits 8 (old / 2 ^ 8)) (length-bits 8 old) (length-bits 8 byte)) ∙
    ap (λ v. run v (bits 8 byte)) old_bits ∙
    sym (run-append start (body_bits bytes) (bits 8 byte)) ∙
    ap (λ t. run start (body_bits bytes ++ t)) (sym (append-nil (bits 8 byte))) ∙
    ap (run start) (sym (flat_map-append (bits 8) bytes (byte ∷ []))) in
    let small : bit_xor (old * 2 ^ 8 % 2 ^ 16) word < 2 ^ 16 =
    xor_lt 16 (old * 2 ^ 8 % 2 ^ 16) word (mod_below (old * 2 ^ 8) (2 ^ 16) (omega arith))
    (rw e (check_of-lt (bit_xor (old / 2 ^ 8) byte ∷ []))) in
    sym (number_of-bits 16 (bit_xor (old * 2 ^ 8 % 2 ^ 16) word) small) ∙
    ap number_of (new_bits ∙ sym (remainder_is_run (body_bits (bytes ++ byte ∷ []))))
