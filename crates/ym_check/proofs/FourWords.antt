-- Sixteen bytes in front of sixty-four others, added to these: modulo the divisor, x^512 is x^384 + x^160 + 1.
use Rattle.std.specs.Prelude.{◌≡◌, ℕ, ◌+◌, ◌*◌, ◌/◌, ◌%◌, ◌^◌, ◌<◌, Bool, false, List, [], ◌∷◌, ◌++◌, length, take, drop, get_or, replicate, bit_xor, refl}
use Rattle.std.specs.Int.{w8, w32}
use Rattle.std.specs.Simd.Lanes.{number_l, digits_l, zip2, pick_l, Each1}
use Rattle.std.proofs.Common.{sym, ◌∙◌, ap, arith, append_assoc, Fits}
use Rattle.std.proofs.Math.Seq.{take-add}
use Rattle.std.proofs.lemmas.Grind.{flat_map-append}
use Rattle.std.proofs.lemmas.List.{take_all}
use Rattle.std.proofs.lemmas.Nat.{xor_block, xor_comm}
use Rattle.std.specs.Int.Bits.{xor_shifted}
use Rattle.ym_check.specs.Check.{subtract, body_bits, check_of}
use Rattle.ym_check.specs.Fold.{sixteen, row_number, row_bytes}
use Rattle.ym_check.proofs.Division.{run, start, subtract-append}
use Rattle.ym_check.proofs.Linear.{IsLinearInBits, right, left, AgreeBelow, same_below}
use Rattle.ym_check.proofs.Register.{start-subtract}
use Rattle.ym_check.proofs.Folding.{padded-linear, agree_quickly, added_behind}
use Rattle.ym_check.proofs.Words.{word_bytes_bits, E-xor, length-E, same_long, check_from, check-append, written}

abbrev E : ℕ → List Bool
E n = word_bytes_bits n

-- ---- four words in a row

abbrev pub AreWords : List ℕ → Type 0
AreWords row = (length row ≡ 4) × Each1 (Fits w32) row

xor_words : (xs ys : List ℕ) → length xs ≡ length ys → Each1 (Fits w32) xs → Each1 (Fits w32) ys →
    row_number (zip2 bit_xor xs ys) ≡ bit_xor (row_number xs) (row_number ys)
xor_words [] [] l h k = refl
xor_words [] (y ∷ ys) l h k = absurd (omega arith)
xor_words (x ∷ xs) [] l h k = absurd (omega arith)
xor_words (x ∷ xs) (y ∷ ys) l h k =
    let same : length xs ≡ length ys = omega arith in
    let turned : (b n : ℕ) → b + 2 ^ 32 * n ≡ n * 2 ^ 32 + b = λ b n. omega arith in
    let sums = xor_block 32 (row_number xs) (row_number ys) x y (omega (arith, h.0)) (omega (arith, k.0)) in
    rw (xor_words xs ys same h.1 k.1, turned (bit_xor x y) (bit_xor (row_number xs) (row_number ys)), turned x (row_number xs), turned y (row_number ys)) (sym sums)

pub row_xor : (xs ys : List ℕ) → AreWords xs → AreWords ys → row_number (zip2 bit_xor xs ys) ≡ bit_xor (row_number xs) (row_number ys)
row_xor xs ys h k = xor_words xs ys (h.0 ∙ sym k.0) h.1 k.1

pub row_across : (row next : List ℕ) → AreWords row → AreWords next →
    row_number (pick_l 0 (row ++ next) (1 ∷ 2 ∷ 3 ∷ 4 ∷ [])) ≡ bit_xor (row_number row / 2 ^ 32) (row_number next * 2 ^ 96 % 2 ^ 128)
row_across (a ∷ b ∷ c ∷ d ∷ []) (e ∷ f ∷ g ∷ h ∷ []) k l =
    let rest = row_number (b ∷ c ∷ d ∷ []) in
    let low : row_number (a ∷ b ∷ c ∷ d ∷ []) / 2 ^ 32 ≡ rest = omega (arith, k.1.0) in
    let high : row_number (e ∷ f ∷ g ∷ h ∷ []) * 2 ^ 96 % 2 ^ 128 ≡ e * 2 ^ 96 = omega (arith, l.1.0) in
    let small : rest < 2 ^ 96 = omega (arith, k.1.1.0, k.1.1.1.0, k.1.1.1.1.0) in
    let sum : e * 2 ^ 96 + rest ≡ row_number (b ∷ c ∷ d ∷ e ∷ []) = omega arith in
    sym (ap (λ n. bit_xor n (row_number (e ∷ f ∷ g ∷ h ∷ []) * 2 ^ 96 % 2 ^ 128)) low ∙ ap (bit_xor rest) high ∙ xor_comm rest (e * 2 ^ 96) ∙ xor_shifted e 96 rest small ∙ sum)
row_across row next k l = absurd (omega (arith, k.0, l.0))

pub row_fits : (row : List ℕ) → AreWords row → row_number row < 2 ^ 128
row_fits (a ∷ b ∷ c ∷ d ∷ []) h = omega (arith, h.1.0, h.1.1.0, h.1.1.1.0, h.1.1.1.1.0)
row_fits row h = absurd (omega (arith, h.0))

number_of_digits : (n : ℕ) → n < 2 ^ 128 → row_number (digits_l (2 ^ 32) 4 n) ≡ n
number_of_digits n l = omega arith

-- sixteen bytes as four words
pub row_read : (bs : List ℕ) → length bs ≡ 16 → ((i : ℕ) → Fits w8 (get_or bs i 0)) → row_bytes (digits_l (2 ^ 32) 4 (number_l 256 (take 16 bs))) ≡ bs
row_read (a ∷ b ∷ c ∷ d ∷ e ∷ f ∷ g ∷ h ∷ i ∷ j ∷ k ∷ l ∷ m ∷ n ∷ o ∷ p ∷ []) long small =
    let bytes = a ∷ b ∷ c ∷ d ∷ e ∷ f ∷ g ∷ h ∷ i ∷ j ∷ k ∷ l ∷ m ∷ n ∷ o ∷ p ∷ [] in
    let lower : a + 256 * (b + 256 * (c + 256 * (d + 256 * (e + 256 * (f + 256 * (g + 256 * h)))))) < 2 ^ 64 = omega (arith, small 0, small 1, small 2, small 3, small 4, small 5, small 6, small 7) in
    let upper : i + 256 * (j + 256 * (k + 256 * (l + 256 * (m + 256 * (n + 256 * (o + 256 * p)))))) < 2 ^ 64 = omega (arith, small 8, small 9, small 10, small 11, small 12, small 13, small 14, small 15) in
    let fits : number_l 256 bytes < 2 ^ 128 = omega arith in
    written bytes (row_number (digits_l (2 ^ 32) 4 (number_l 256 bytes))) long (λ i. omega (arith, small i)) (number_of_digits (number_l 256 bytes) fits)
row_read bs long small = absurd (omega arith)

-- ---- sixteen bytes in front of sixty-four zeros, and what they become

abbrev fours : ℕ → ℕ → ℕ → ℕ → List Bool
fours a b c d = E a ++ (E b ++ (E c ++ E d))

fours-xor : (a b c d s t u v : ℕ) → fours (bit_xor a s) (bit_xor b t) (bit_xor c u) (bit_xor d v) ≡ subtract (fours a b c d) (fours s t u v)
fours-xor a b c d s t u v =
    rw (
      E-xor a s,
      E-xor b t,
      E-xor c u,
      E-xor d v,
      subtract-append (E a) (E b ++ (E c ++ E d)) (E s) (E t ++ (E u ++ E v)) (same_long a s),
      subtract-append (E b) (E c ++ E d) (E t) (E u ++ E v) (same_long b t),
      subtract-append (E c) (E d) (E u) (E v) (same_long c u),
    ) refl

length-fours : (a b c d : ℕ) → length (fours a b c d) ≡ 512
unfolding word_bytes_bits sixteen
length-fours a b c d = refl

abbrev in_front : ℕ → List Bool
in_front n = E n ++ replicate 512 false

abbrev behind : ℕ → List Bool
behind n = fours n (n * 2 ^ 96 % 2 ^ 128) (n / 2 ^ 32) n

behind-linear : IsLinearInBits (λ n. run start (behind n))
behind-linear a b =
    let down : ℕ → ℕ = λ n. n * 2 ^ 96 % 2 ^ 128 in
    let up : ℕ → ℕ = λ n. n / 2 ^ 32 in
    let same : length (behind a) ≡ length (behind b) = length-fours a (down a) (up a) a ∙ sym (length-fours b (down b) (up b) b) in
    rw (left 96 128 a b, right 32 a b, fours-xor a (down a) (up a) a b (down b) (up b) b) (start-subtract (behind a) (behind b) same)

agree : AgreeBelow (λ n. run start (in_front n)) (λ n. run start (behind n)) 128
unfolding word_bytes_bits sixteen
agree = agree_quickly (λ n. in_front n) (λ n. behind n) 128 refl

none : run start (in_front 0) ≡ run start (behind 0)
unfolding word_bytes_bits sixteen
none = refl

becomes : (n : ℕ) → n < 2 ^ 128 → run start (in_front n) ≡ run start (behind n)
becomes n l = same_below (λ k. run start (in_front k)) (λ k. run start (behind k)) (padded-linear 512 word_bytes_bits E-xor same_long) behind-linear none 128 agree n l

-- ---- the bytes of rows

abbrev numbers_bytes : ℕ → ℕ → ℕ → ℕ → List ℕ
numbers_bytes a b c d = sixteen a ++ sixteen b ++ sixteen c ++ sixteen d

numbers_bits : (a b c d : ℕ) → body_bits (numbers_bytes a b c d) ≡ fours a b c d
unfolding word_bytes_bits
numbers_bits a b c d = simp (flat_map-append, append_assoc)

with_next_bits : (a b c d n : ℕ) → body_bits (numbers_bytes a b c d ++ sixteen n) ≡ E a ++ fours b c d n
unfolding word_bytes_bits
with_next_bits a b c d n = simp (flat_map-append, append_assoc)

-- the next sixteen bytes come, and the first sixteen are added to those behind them
pub moved_on : (a b c d n : ℕ) → a < 2 ^ 128 →
    check_of (numbers_bytes a b c d ++ sixteen n) ≡ check_of (numbers_bytes (bit_xor b a) (bit_xor c (a * 2 ^ 96 % 2 ^ 128)) (bit_xor d (a / 2 ^ 32)) (bit_xor n a))
moved_on a b c d n l =
    let s = a * 2 ^ 96 % 2 ^ 128 in
    let t = a / 2 ^ 32 in
    check_from (numbers_bytes a b c d ++ sixteen n) (numbers_bytes (bit_xor b a) (bit_xor c s) (bit_xor d t) (bit_xor n a))
    (rw (with_next_bits a b c d n, numbers_bits (bit_xor b a) (bit_xor c s) (bit_xor d t) (bit_xor n a), fours-xor b c d n a s t a)
    (added_behind 128 512 (E a) (fours b c d n) (behind a) (length-E a) (length-fours b c d n) (length-fours a s t a) (becomes a l)))

-- sixty-four bytes, row by row
pub four_slices : (bs : List ℕ) → length bs ≡ 64 → take 16 bs ++ take 16 (drop 16 bs) ++ take 16 (drop 32 bs) ++ take 16 (drop 48 bs) ≡ bs
four_slices bs long =
    rw (sym (take-add 16 16 bs)) (rw (sym (take-add 32 16 bs)) (rw (sym (take-add 48 16 bs)) (take_all 64 bs (omega (arith, long)))))

-- four rows behind other bytes, of which the first one takes the check of these
pub entered_front : (before a b c d first : List ℕ) → check_of (before ++ a) ≡ check_of first → check_of (before ++ (a ++ b ++ c ++ d)) ≡ check_of (first ++ b ++ c ++ d)
entered_front before a b c d first is =
    let left_same : before ++ (a ++ b ++ c ++ d) ≡ (before ++ a) ++ (b ++ c ++ d) = simp append_assoc in
    let right_same : first ++ (b ++ c ++ d) ≡ first ++ b ++ c ++ d = simp append_assoc in
    ap check_of left_same ∙ check-append (before ++ a) first (b ++ c ++ d) is ∙ ap check_of right_same
