-- Bytes in front of others, folded into them: modulo the divisor, x^16 is x^12 + x^5 + 1, and so x^16n is x^12n + x^5n + 1 for n = 2, 4.
use Rattle.std.specs.Prelude.{◌≡◌, ℕ, ◌+◌, ◌*◌, ◌/◌, ◌%◌, ◌^◌, ◌<◌, zero, suc, Bool, true, false, eqb, cond, List, [], ◌∷◌, ◌++◌, length, replicate, bit_xor, refl}
use Rattle.std.proofs.Common.{sym, ◌∙◌, ap, arith, length-append}
use Rattle.std.proofs.lemmas.Nat.{shl-shr, xor_mod}
use Rattle.std.proofs.Math.ListN.{length-replicate}
use Rattle.std.proofs.Math.Nat.{div-one}
use Rattle.ym_check.specs.Check.{bits, minus, subtract, remainder}
use Rattle.ym_check.proofs.Division.{moved, below_divisor, run, start, subtract-append, subtract-zeros, zeros-subtract, remainder_is_run}
use Rattle.ym_check.proofs.CheckNumbers.{bits-xor, bits-split, bits-low}
use Rattle.ym_check.proofs.Linear.{IsLinear, IsLinearInBits, added, right, left, at_powers, AgreeBelow, agree_nowhere, agree_further, same_below}
use Rattle.ym_check.proofs.Register.{start-subtract, zeros_in_front}

-- ---- the number that a word in front becomes

-- with so many functions that move the bits of a word
module _ (s t u v w : ℕ → ℕ) where
  abbrev first_by : ℕ → ℕ
  first_by n = bit_xor n (s n)

  abbrev above_by : ℕ → ℕ
  above_by n = bit_xor (bit_xor (first_by n) (t (first_by n))) (u n)

  abbrev pub folded_by : ℕ → ℕ
  folded_by n = bit_xor (bit_xor (above_by n) (v (above_by n))) (w (above_by n))

  pub folded_by-linear : IsLinear s → IsLinear t → IsLinear u → IsLinear v → IsLinear w → IsLinear folded_by
  folded_by-linear ls lt lu lv lw x y =
      let same : IsLinear (λ n. n) = λ a b. refl in
      let first : IsLinear first_by = added (λ n. n) s same ls in
      let twice : IsLinear (λ n. bit_xor (first_by n) (t (first_by n))) =
      λ a b. ap (λ n. bit_xor n (t n)) (first a b) ∙ added (λ n. n) t same lt (first_by a) (first_by b) in
      let above : IsLinear above_by = added (λ n. bit_xor (first_by n) (t (first_by n))) u twice lu in
      ap (λ n. bit_xor (bit_xor n (v n)) (w n)) (above x y) ∙
      added (λ n. bit_xor n (v n)) w (added (λ n. n) v same lv) lw (above_by x) (above_by y)

-- ---- bits in front of zero bits

pub padded-linear : (n : ℕ) (F : ℕ → List Bool) → IsLinearInBits F → ((a b : ℕ) → length (F a) ≡ length (F b)) → IsLinearInBits (λ k. run start (F k ++ replicate n false))
padded-linear n F linear same a b =
    let zeros = replicate n false in
    let long : length (F a ++ zeros) ≡ length (F b ++ zeros) = omega (arith, length-append (F a) zeros, length-append (F b) zeros, same a b) in
    rw (subtract-append (F a) zeros (F b) zeros (same a b), subtract-zeros n zeros, sym (linear a b)) at (start-subtract (F a ++ zeros) (F b ++ zeros) long)

-- ---- two bytes

abbrev pub folded_16 : ℕ → ℕ
folded_16 n = folded_by (λ m. m / 2 ^ 4) (λ m. m / 2 ^ 8) (λ m. m / 2 ^ 11) (λ m. m * 2 ^ 5 % 2 ^ 16) (λ m. m * 2 ^ 12 % 2 ^ 16) n

folded_16-linear : IsLinear folded_16
folded_16-linear =
    folded_by-linear (λ m. m / 2 ^ 4) (λ m. m / 2 ^ 8) (λ m. m / 2 ^ 11) (λ m. m * 2 ^ 5 % 2 ^ 16) (λ m. m * 2 ^ 12 % 2 ^ 16) (right 4) (right 8) (right 11) (left 5 16) (left 12 16)

-- ---- the register as a number, with which the checker computes: its low sixteen bits count

abbrev pub number_next : ℕ → Bool → ℕ
number_next n b = elim (minus b (eqb (n / 2 ^ 15 % 2) 1)) [ true ↦ bit_xor (n * 2) 0x1021 | false ↦ n * 2 ]

abbrev pub number_run : ℕ → List Bool → ℕ
number_run n [] = n
number_run n (b ∷ more) = number_run (number_next n b) more

moved_bits : (n : ℕ) → bits 16 (n * 2) ≡ moved (bits 15 n)
moved_bits n =
    let even : n * 2 % 2 ≡ 0 = omega arith in
    let same : n * 2 ≡ n * 2 ^ 1 = refl in
    bits-split 15 1 (n * 2) ∙
    ap (λ m. bits 15 m ++ bits 1 (n * 2)) (shl-shr n 1) ∙
    ap (λ m. bits 15 n ++ eqb m 1 ∷ []) (ap (λ m. m % 2) (div-one (n * 2)) ∙ even)

next_bits : (n : ℕ) (c : Bool) → bits 16 (elim c [ true ↦ bit_xor (n * 2) 0x1021 | false ↦ n * 2 ]) ≡ cond c (subtract (moved (bits 15 n)) below_divisor) (moved (bits 15 n))
next_bits n true = bits-xor 16 (n * 2) 0x1021 ∙ ap (λ t. subtract t below_divisor) (moved_bits n)
next_bits n false = moved_bits n

number_run-run : (n : ℕ) (bs : List Bool) → bits 16 (number_run n bs) ≡ run (bits 16 n) bs
number_run-run n [] = refl
number_run-run n (b ∷ bs) =
    number_run-run (number_next n b) bs ∙
    ap (λ v. run v bs) (next_bits n (minus b (eqb (n / 2 ^ 15 % 2) 1)))

abbrev pub quick : (ℕ → List Bool) → ℕ → List Bool
quick F n = bits 16 (number_run 0 (F n))

at_powers-quick : (F : ℕ → List Bool) (low n : ℕ) → at_powers (quick F) low n ≡ at_powers (λ k. run start (F k)) low n
at_powers-quick F low zero = refl
at_powers-quick F low (suc n) =
    ap (λ t. t ∷ at_powers (quick F) low n) (number_run-run 0 (F (2 ^ (low + n)))) ∙
    ap (λ t. run start (F (2 ^ (low + n))) ∷ t) (at_powers-quick F low n)

-- two rows of bits have the same check at so many powers of two, where their registers as numbers are the same at each of them
pub agree_quickly : (F G : ℕ → List Bool) (n : ℕ) → at_powers (quick F) 0 n ≡ at_powers (quick G) 0 n →
    AgreeBelow (λ k. run start (F k)) (λ k. run start (G k)) (0 + n)
agree_quickly F G n e =
    let f : ℕ → List Bool = λ k. run start (F k) in
    let g : ℕ → List Bool = λ k. run start (G k) in
    agree_further f g 0 n (agree_nowhere f g) (sym (at_powers-quick F 0 n) ∙ e ∙ at_powers-quick G 0 n)

-- ---- sixteen bytes become their check

-- a word and itself moved down by each of these, added up
abbrev shifted : List ℕ → ℕ → ℕ
shifted [] n = n
shifted (k ∷ ks) n = bit_xor (shifted ks n) (n / 2 ^ k)

shifted-linear : (ks : List ℕ) → IsLinear (shifted ks)
shifted-linear [] a b = refl
shifted-linear (k ∷ ks) a b = added (shifted ks) (λ n. n / 2 ^ k) (shifted-linear ks) (right k) a b

after : (f g : ℕ → ℕ) → IsLinear f → IsLinear g → IsLinear (λ n. f (g n))
after f g lf lg a b = ap f (lg a b) ∙ lf (g a) (g b)

-- the fourth power and those above it, of which the last sixty-four bits count
abbrev upper : ℕ → ℕ
upper n = shifted (64 ∷ 44 ∷ 16 ∷ []) (shifted (88 ∷ 32 ∷ []) (shifted (64 ∷ []) n)) % 2 ^ 64

abbrev quotient : ℕ → ℕ
quotient n = shifted (16 ∷ 11 ∷ 4 ∷ []) (shifted (32 ∷ 22 ∷ 8 ∷ []) (upper n))

abbrev check_128 : ℕ → ℕ
check_128 n = bit_xor (bit_xor (quotient n) (quotient n * 2 ^ 5 % 2 ^ 64)) (quotient n * 2 ^ 12 % 2 ^ 64)

check_128-linear : IsLinear check_128
check_128-linear =
    let eighth : IsLinear (λ n. shifted (88 ∷ 32 ∷ []) (shifted (64 ∷ []) n)) = after (shifted (88 ∷ 32 ∷ [])) (shifted (64 ∷ [])) (shifted-linear (88 ∷ 32 ∷ [])) (shifted-linear (64 ∷ [])) in
    let fourth = after (shifted (64 ∷ 44 ∷ 16 ∷ [])) (λ n. shifted (88 ∷ 32 ∷ []) (shifted (64 ∷ []) n)) (shifted-linear (64 ∷ 44 ∷ 16 ∷ [])) eighth in
    let cut : IsLinear upper = after (λ m. m % 2 ^ 64) (λ n. shifted (64 ∷ 44 ∷ 16 ∷ []) (shifted (88 ∷ 32 ∷ []) (shifted (64 ∷ []) n))) (λ a b. xor_mod a b 64) fourth in
    let second = after (shifted (32 ∷ 22 ∷ 8 ∷ [])) upper (shifted-linear (32 ∷ 22 ∷ 8 ∷ [])) cut in
    let whole : IsLinear quotient = after (shifted (16 ∷ 11 ∷ 4 ∷ [])) (λ n. shifted (32 ∷ 22 ∷ 8 ∷ []) (upper n)) (shifted-linear (16 ∷ 11 ∷ 4 ∷ [])) second in
    let five : IsLinear (λ n. quotient n * 2 ^ 5 % 2 ^ 64) = after (λ m. m * 2 ^ 5 % 2 ^ 64) quotient (left 5 64) whole in
    let twelve : IsLinear (λ n. quotient n * 2 ^ 12 % 2 ^ 64) = after (λ m. m * 2 ^ 12 % 2 ^ 64) quotient (left 12 64) whole in
    added (λ n. bit_xor (quotient n) (quotient n * 2 ^ 5 % 2 ^ 64)) (λ n. quotient n * 2 ^ 12 % 2 ^ 64) (added quotient (λ n. quotient n * 2 ^ 5 % 2 ^ 64) whole five) twelve

abbrev word_check : ℕ → List Bool
word_check n = run start (bits 128 n)

abbrev quotient_bits : ℕ → List Bool
quotient_bits n = bits 16 (check_128 n)

word_check-linear : IsLinearInBits word_check
word_check-linear a b = ap (run start) (bits-xor 128 a b) ∙ start-subtract (bits 128 a) (bits 128 b) refl

quotient_bits-linear : IsLinearInBits quotient_bits
quotient_bits-linear a b = ap (bits 16) (check_128-linear a b) ∙ bits-xor 16 (check_128 a) (check_128 b)

agree_quotient : AgreeBelow word_check quotient_bits 128
agree_quotient =
    let same : at_powers (quick (bits 128)) 0 128 ≡ at_powers quotient_bits 0 128 = refl in
    agree_further word_check quotient_bits 0 128 (agree_nowhere word_check quotient_bits) (sym (at_powers-quick (bits 128) 0 128) ∙ same)

pub quotient_128 : (n : ℕ) → n < 2 ^ 128 → bits 16 (check_128 n % 2 ^ 16) ≡ remainder (bits 128 n)
quotient_128 n l =
    sym (bits-low 16 (check_128 n)) ∙
    sym (remainder_is_run (bits 128 n) ∙ same_below word_check quotient_bits word_check-linear quotient_bits-linear refl 128 agree_quotient n l)

-- two bytes become their check
abbrev check_16 : ℕ → List Bool
check_16 n = run start (bits 16 n)

abbrev folded_bits : ℕ → List Bool
folded_bits n = bits 16 (folded_16 n)

check_16-linear : IsLinearInBits check_16
check_16-linear a b = ap (run start) (bits-xor 16 a b) ∙ start-subtract (bits 16 a) (bits 16 b) refl

folded_bits-linear : IsLinearInBits folded_bits
folded_bits-linear a b = ap (bits 16) (folded_16-linear a b) ∙ bits-xor 16 (folded_16 a) (folded_16 b)

agree_16 : AgreeBelow check_16 folded_bits 16
agree_16 = agree_further check_16 folded_bits 0 16 (agree_nowhere check_16 folded_bits) refl

pub fold_16 : (n : ℕ) → n < 2 ^ 16 → bits 16 (folded_16 n) ≡ remainder (bits 16 n)
fold_16 n l = sym (remainder_is_run (bits 16 n) ∙ same_below check_16 folded_bits check_16-linear folded_bits-linear refl 16 agree_16 n l)

-- ---- a word and the next one

-- bits in front of others are added to these as what they become
pub added_behind : (w k : ℕ) (prefix rest becomes : List Bool) → length prefix ≡ w → length rest ≡ k → length becomes ≡ k →
    run start (prefix ++ replicate k false) ≡ run start becomes → run start (prefix ++ rest) ≡ run start (subtract rest becomes)
added_behind w k prefix rest becomes high low same e =
    let before = replicate w false in
    let behind = replicate k false in
    let zeros_long : length before ≡ length prefix = length-replicate w false ∙ sym high in
    let long : length (before ++ rest) ≡ length (prefix ++ behind) =
    omega (arith, length-append before rest, length-append prefix behind, length-replicate k false) in
    rw (subtract-append before rest prefix behind zeros_long, zeros-subtract w prefix high, subtract-zeros k rest, zeros_in_front w rest, e, sym (start-subtract rest becomes (low ∙ sym same)))
    at (start-subtract (before ++ rest) (prefix ++ behind) long)
