-- Sixteen bytes in front of sixteen others, added to these: modulo the divisor, x^128 is x^96 + x^40 + 1.
use Rattle.std.specs.Prelude.{◌≡◌, ℕ, ◌+◌, ◌*◌, ◌/◌, ◌%◌, ◌^◌, ◌<◌, zero, suc, Bool, false, List, [], ◌∷◌, ◌++◌, length, take, drop, get_or, replicate, bit_xor, refl}
use Rattle.std.specs.Int.{w16, w128, bytes_low_first, to_le_bytes, from_le_bytes, from_be_bytes, swap_bytes}
use Rattle.std.specs.Simd.Lanes.{number_l, digits_l}
use Rattle.std.proofs.Common.{sym, ◌∙◌, ap, arith, append_assoc}
use Rattle.std.proofs.lemmas.Grind.{flat_map-append}
use Rattle.std.proofs.lemmas.List.{append-nil}
use Rattle.std.proofs.lemmas.Nat.{mod_below, xor_shr, xor_mod, xor_comm}
use Rattle.std.proofs.Math.Nat.{pow-suc, div-div-eq-div-mul}
use Rattle.std.proofs.Math.Seq.{take-add}
use Rattle.ym_check.specs.Check.{bits, number_of, subtract, remainder, body_bits, check_of}
use Rattle.ym_check.specs.Fold.{sixteen}
use Rattle.ym_check.proofs.Division.{run, start, run-append, subtract-append, remainder_is_run}
use Rattle.ym_check.proofs.CheckNumbers.{length-bits, bits-xor, bits-split, bits-low, number_of-bits, check_bits, check_of-lt}
use Rattle.ym_check.proofs.Linear.{IsLinear, IsLinearInBits, right, left, AgreeBelow, same_below}
use Rattle.ym_check.proofs.Register.{start-subtract, zeros_in_front}
use Rattle.ym_check.proofs.Folding.{padded-linear, agree_quickly, added_behind, folded_by, folded_by-linear}
use Rattle.ym_check.proofs.FoldedBytes.{entered, zeros_behind, word_bits}

-- ---- the bits of a word's bytes are linear in the word

digits-xor : (k a b : ℕ) → body_bits (digits_l 256 k (bit_xor a b)) ≡ subtract (body_bits (digits_l 256 k a)) (body_bits (digits_l 256 k b))
digits-xor zero a b = refl
digits-xor (suc k) a b =
    let rest_a = body_bits (digits_l 256 k (a / 256)) in
    let rest_b = body_bits (digits_l 256 k (b / 256)) in
    ap (λ n. bits 8 n ++ body_bits (digits_l 256 k (bit_xor a b / 256))) (xor_mod a b 8) ∙
    ap (λ n. bits 8 (bit_xor (a % 256) (b % 256)) ++ body_bits (digits_l 256 k n)) (xor_shr a b 8) ∙
    ap (λ t. bits 8 (bit_xor (a % 256) (b % 256)) ++ t) (digits-xor k (a / 256) (b / 256)) ∙
    ap (λ t. t ++ subtract rest_a rest_b) (bits-xor 8 (a % 256) (b % 256)) ∙
    sym (subtract-append (bits 8 (a % 256)) rest_a (bits 8 (b % 256)) rest_b refl)

-- the bits of a word's bytes
unfoldable pub word_bytes_bits : ℕ → List Bool
word_bytes_bits n = body_bits (sixteen n)

abbrev E : ℕ → List Bool
E n = word_bytes_bits n

pub E-xor : IsLinearInBits word_bytes_bits
unfolding word_bytes_bits sixteen
E-xor a b = digits-xor 16 a b

pub length-E : (n : ℕ) → length (word_bytes_bits n) ≡ 128
unfolding word_bytes_bits sixteen
length-E n = refl

pub same_long : (a b : ℕ) → length (word_bytes_bits a) ≡ length (word_bytes_bits b)
same_long a b = length-E a ∙ sym (length-E b)

-- ---- sixteen bytes in front of as many zeros, and what they become

abbrev pub folded_128 : ℕ → ℕ
folded_128 n = folded_by (λ m. m * 2 ^ 32 % 2 ^ 128) (λ m. m * 2 ^ 64 % 2 ^ 128) (λ m. m * 2 ^ 88 % 2 ^ 128) (λ m. m / 2 ^ 40) (λ m. m / 2 ^ 96) n

folded_128-linear : IsLinear folded_128
folded_128-linear =
    folded_by-linear (λ m. m * 2 ^ 32 % 2 ^ 128) (λ m. m * 2 ^ 64 % 2 ^ 128) (λ m. m * 2 ^ 88 % 2 ^ 128) (λ m. m / 2 ^ 40) (λ m. m / 2 ^ 96) (left 32 128) (left 64 128) (left 88 128) (right 40) (right 96)

alone-linear : IsLinearInBits (λ n. run start (E (folded_128 n)))
alone-linear a b =
    rw (folded_128-linear a b, E-xor (folded_128 a) (folded_128 b)) (start-subtract (E (folded_128 a)) (E (folded_128 b)) (same_long (folded_128 a) (folded_128 b)))

agree : AgreeBelow (λ n. run start (E n ++ replicate 128 false)) (λ n. run start (E (folded_128 n))) 128
unfolding word_bytes_bits sixteen
agree = agree_quickly (λ n. E n ++ replicate 128 false) (λ n. E (folded_128 n)) 128 refl

none : run start (E 0 ++ replicate 128 false) ≡ run start (E (folded_128 0))
unfolding word_bytes_bits sixteen
none = refl

pub fold_128 : (n : ℕ) → n < 2 ^ 128 → remainder (body_bits (sixteen n) ++ replicate 128 false) ≡ remainder (body_bits (sixteen (folded_128 n)))
unfolding word_bytes_bits
fold_128 n l =
    rw (remainder_is_run (E n ++ replicate 128 false), remainder_is_run (E (folded_128 n)))
    (same_below (λ k. run start (E k ++ replicate 128 false)) (λ k. run start (E (folded_128 k))) (padded-linear 128 word_bytes_bits E-xor same_long) alone-linear none 128 agree n l)

-- ---- the bytes of words

pub check_from : (xs ys : List ℕ) → run start (body_bits xs) ≡ run start (body_bits ys) → check_of xs ≡ check_of ys
unfolding check_of
check_from xs ys e = ap number_of (remainder_is_run (body_bits xs) ∙ e ∙ sym (remainder_is_run (body_bits ys)))

run_from : (xs ys : List ℕ) → check_of xs ≡ check_of ys → run start (body_bits xs) ≡ run start (body_bits ys)
run_from xs ys e = sym (check_bits xs) ∙ ap (bits 16) e ∙ check_bits ys

-- the next word is added to what the word before it becomes
pub folded_on : (n f m : ℕ) → remainder (body_bits (sixteen n) ++ replicate 128 false) ≡ remainder (body_bits (sixteen f)) →
    check_of (sixteen n ++ sixteen m) ≡ check_of (sixteen (bit_xor f m))
unfolding word_bytes_bits
folded_on n f m e =
    let held : run start (E n ++ replicate 128 false) ≡ run start (E f) = rw (remainder_is_run (E n ++ replicate 128 false), remainder_is_run (E f)) at e in
    check_from (sixteen n ++ sixteen m) (sixteen (bit_xor f m))
    (rw (flat_map-append (bits 8) (sixteen n) (sixteen m), xor_comm f m, E-xor m f) (added_behind 128 128 (E n) (E m) (E f) (length-E n) (length-E m) (length-E f) held))

digits-small : (k n i : ℕ) → get_or (digits_l 256 k n) i 0 < 256
digits-small zero n i = omega arith
digits-small (suc k) n zero = mod_below n 256 (omega arith)
digits-small (suc k) n (suc i) = digits-small k (n / 256) i

low_first-digits : (k i n : ℕ) → bytes_low_first (suc i) k n ≡ digits_l 256 k (n / 256 ^ suc i)
low_first-digits zero i n = refl
low_first-digits (suc k) i n =
    let next : n / 256 ^ suc i / 256 ≡ n / 256 ^ suc (suc i) = div-div-eq-div-mul n (256 ^ suc i) 256 ∙ ap (λ p. n / p) (sym (pow-suc 256 (suc i))) in
    ap (λ t. n / 256 ^ suc i % 256 ∷ t) (low_first-digits k (suc i) n ∙ ap (digits_l 256 k) (sym next))

-- a word with its bytes turned is the number of which the first byte is the highest
pub turned : (n m r : ℕ) → m ≡ swap_bytes w128 n → r < 2 ^ 16 → bits 16 r ≡ remainder (bits 128 m) → r ≡ check_of (sixteen n)
unfolding check_of sixteen
turned n m r is l e =
    let same : to_le_bytes w128 n ≡ digits_l 256 16 n = ap (λ t. n % 256 ∷ t) (low_first-digits 15 0 n) in
    let digits = word_bits (digits_l 256 16 n) m refl (λ i. digits-small 16 n i) (is ∙ ap (from_be_bytes w128) same) in
    sym (number_of-bits 16 r l) ∙ ap number_of (e ∙ ap remainder digits)

digits_of : (bs : List ℕ) → ((i : ℕ) → get_or bs i 0 < 256) → digits_l 256 (length bs) (number_l 256 bs) ≡ bs
digits_of [] h = refl
digits_of (b ∷ bs) h =
    let n = number_l 256 bs in
    let low : (b + 256 * n) % 256 ≡ b = omega (arith, h 0) in
    let high : (b + 256 * n) / 256 ≡ n = omega (arith, h 0) in
    rw (low, high, digits_of bs (λ i. h (suc i))) refl

-- sixteen bytes as a word
pub written : (bs : List ℕ) (n : ℕ) → length bs ≡ 16 → ((i : ℕ) → get_or bs i 0 < 256) → n ≡ number_l 256 bs → sixteen n ≡ bs
unfolding sixteen
written bs n long small is = ap (digits_l 256 16) is ∙ ap (λ k. digits_l 256 k (number_l 256 bs)) (sym long) ∙ digits_of bs small

pub read_as : (bs : List ℕ) → length bs ≡ 16 → from_le_bytes w128 bs ≡ number_l 256 bs
read_as (a ∷ b ∷ c ∷ d ∷ e ∷ f ∷ g ∷ h ∷ i ∷ j ∷ k ∷ l ∷ m ∷ n ∷ o ∷ p ∷ []) long = omega arith
read_as bs long = absurd (omega arith)

-- ---- bytes that come

-- the two bytes of a check, high byte first, at the place of the first two
entering : (n : ℕ) → n < 2 ^ 16 → body_bits (sixteen (swap_bytes w16 n)) ≡ bits 16 n ++ replicate 112 false
unfolding sixteen
entering n l =
    let m = swap_bytes w16 n in
    let low : m % 256 ≡ n / 2 ^ 8 = omega arith in
    let high : m / 256 % 256 ≡ n % 2 ^ 8 = omega arith in
    let rest : m / 256 / 256 ≡ 0 = omega arith in
    ap (λ b. bits 8 b ++ (bits 8 (m / 256 % 256) ++ body_bits (digits_l 256 14 (m / 256 / 256)))) low ∙
    ap (λ b. bits 8 (n / 2 ^ 8) ++ (bits 8 b ++ body_bits (digits_l 256 14 (m / 256 / 256)))) high ∙
    ap (λ k. bits 8 (n / 2 ^ 8) ++ (bits 8 (n % 2 ^ 8) ++ body_bits (digits_l 256 14 k))) rest ∙
    ap (λ t. bits 8 (n / 2 ^ 8) ++ (t ++ replicate 112 false)) (sym (bits-low 8 n)) ∙
    ap (λ t. t ++ replicate 112 false) (sym (bits-split 8 8 n))

-- the first word takes the check of the bytes before it
pub first_word : (old next place : ℕ) (bytes more : List ℕ) → old ≡ check_of bytes → sixteen next ≡ more → place ≡ swap_bytes w16 old →
    check_of (bytes ++ more) ≡ check_of (sixteen (bit_xor next place))
unfolding word_bytes_bits
first_word old next place bytes more is reads placed =
    let N = E next in
    let here : E place ≡ bits 16 old ++ replicate 112 false = ap word_bytes_bits placed ∙ entering old (rw is (check_of-lt bytes)) in
    check_from (bytes ++ more) (sixteen (bit_xor next place))
    (ap (run start) (flat_map-append (bits 8) bytes more) ∙
    run-append start (body_bits bytes) (body_bits more) ∙
    ap (λ v. run v (body_bits more)) (sym (ap (bits 16) is ∙ check_bits bytes)) ∙
    ap (λ t. run (bits 16 old) (body_bits t)) (sym reads) ∙
    entered (bits 16 old) N (length-bits 16 old) (omega (arith, length-E next)) ∙
    ap (run start) (sym (E-xor next place ∙ ap (subtract N) here ∙ zeros_behind 112 N (bits 16 old))))

pub check-append : (xs ys more : List ℕ) → check_of xs ≡ check_of ys → check_of (xs ++ more) ≡ check_of (ys ++ more)
check-append xs ys more e =
    let cut : (zs : List ℕ) → run start (body_bits (zs ++ more)) ≡ run (run start (body_bits zs)) (body_bits more) =
    λ zs. rw (flat_map-append (bits 8) zs more) (run-append start (body_bits zs) (body_bits more)) in
    check_from (xs ++ more) (ys ++ more) (rw (cut xs, cut ys, run_from xs ys e) refl)

-- the next bytes of some, from m to n
pub taken_more : (state next : List ℕ) (m j n : ℕ) (before bytes : List ℕ) → m + j ≡ n → check_of (before ++ take m bytes) ≡ check_of state →
    next ≡ take j (drop m bytes) → check_of (before ++ take n bytes) ≡ check_of (state ++ next)
taken_more state next m j n before bytes total is reads =
    rw (sym total, take-add m j bytes, sym reads, sym (append_assoc before (take m bytes) next)) (check-append (before ++ take m bytes) state next is)

-- a byte alone
pub one_byte : (b r : ℕ) → b < 2 ^ 8 → r < 2 ^ 16 → bits 16 r ≡ remainder (bits 16 b) → r ≡ check_of (b ∷ [])
unfolding check_of
one_byte b r l m e =
    let nothing : b / 2 ^ 8 ≡ 0 = omega arith in
    let alone : run start (bits 16 b) ≡ run start (bits 8 b) = ap (run start) (bits-split 8 8 b ∙ ap (λ q. bits 8 q ++ bits 8 b) nothing) ∙ zeros_in_front 8 (bits 8 b) in
    sym (number_of-bits 16 r m) ∙ ap number_of (e ∙ remainder_is_run (bits 16 b) ∙ alone ∙ ap (run start) (sym (append-nil (bits 8 b))) ∙ sym (remainder_is_run (body_bits (b ∷ []))))
