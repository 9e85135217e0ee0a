-- Functions of numbers that are linear over bitwise sums, of any width: two that agree at the powers of two agree everywhere.
use Rattle.std.specs.Prelude.{◌≡◌, ℕ, ◌+◌, ◌*◌, ◌/◌, ◌%◌, ◌^◌, ◌<◌, zero, suc, Bool, List, [], ◌∷◌, bit_xor, refl}
use Rattle.std.specs.Int.Bits.{xor_assoc, xor_shifted}
use Rattle.std.proofs.Common.{sym, ◌∙◌, ap, arith}
use Rattle.std.proofs.Math.Nat.{pow-suc}
use Rattle.std.proofs.lemmas.Nat.{pow_pos, shr_split, mod_below, div_below, xor_comm, xor_shr, xor_mod, xor_block}
use Rattle.ym_check.specs.Check.{subtract}

-- ---- linear functions of numbers

abbrev pub IsLinear : (ℕ → ℕ) → Type 0
IsLinear f = (a b : ℕ) → f (bit_xor a b) ≡ bit_xor (f a) (f b)

abbrev pub IsLinearInBits : (ℕ → List Bool) → Type 0
IsLinearInBits f = (a b : ℕ) → f (bit_xor a b) ≡ subtract (f a) (f b)

xor_four : (a b c d : ℕ) → bit_xor (bit_xor a b) (bit_xor c d) ≡ bit_xor (bit_xor a c) (bit_xor b d)
xor_four a b c d =
    rw (xor_assoc a b (bit_xor c d), sym (xor_assoc b c d), xor_comm b c, xor_assoc c b d, sym (xor_assoc a c (bit_xor b d))) refl

pub added : (f g : ℕ → ℕ) → IsLinear f → IsLinear g → IsLinear (λ n. bit_xor (f n) (g n))
added f g hf hg a b = rw (hf a b, hg a b, xor_four (f a) (f b) (g a) (g b)) refl

pub right : (k : ℕ) → IsLinear (λ n. n / 2 ^ k)
right k a b = xor_shr a b k

pub left : (k w : ℕ) → IsLinear (λ n. n * 2 ^ k % 2 ^ w)
left k w a b =
    let low : 0 < 2 ^ k = pow_pos k in
    let plain : (n : ℕ) → n * 2 ^ k + 0 ≡ n * 2 ^ k = λ n. omega arith in
    let whole : bit_xor a b * 2 ^ k ≡ bit_xor (a * 2 ^ k) (b * 2 ^ k) = rw (plain (bit_xor a b), plain a, plain b) at (sym (xor_block k a b 0 0 low low)) in
    ap (λ t. t % 2 ^ w) whole ∙ xor_mod (a * 2 ^ k) (b * 2 ^ k) w

-- ---- what holds at the powers of two holds at every number

-- the values at so many powers, from 2 ^ low up, the highest first
abbrev pub at_powers : (ℕ → List Bool) → ℕ → ℕ → List (List Bool)
at_powers f low zero = []
at_powers f low (suc k) = f (2 ^ (low + k)) ∷ at_powers f low k

pub AgreeBelow : (f g : ℕ → List Bool) → ℕ → Type 0
AgreeBelow f g n = (k : ℕ) → k < n → f (2 ^ k) ≡ g (2 ^ k)

pub agree_nowhere : (f g : ℕ → List Bool) → AgreeBelow f g 0
unfolding AgreeBelow
agree_nowhere f g k h = absurd (omega arith)

-- the values at the next powers are computed and compared
pub agree_further : (f g : ℕ → List Bool) (low n : ℕ) → AgreeBelow f g low → at_powers f low n ≡ at_powers g low n → AgreeBelow f g (low + n)
unfolding AgreeBelow
agree_further f g low zero below e k h = below k (omega arith)
agree_further f g low (suc n) below e k h =
    let first : f (2 ^ (low + n)) ≡ g (2 ^ (low + n)) = cc in
    let rest : at_powers f low n ≡ at_powers g low n = cc in
    let more : AgreeBelow f g (low + n) = agree_further f g low n below rest in
    grind (arith, more k, first)

one_bit_more : (f g : ℕ → List Bool) → IsLinearInBits f → IsLinearInBits g → (k q r h : ℕ) → q < 2 → r < 2 ^ k → q * 2 ^ k + r ≡ h →
    f (2 ^ k) ≡ g (2 ^ k) → f r ≡ g r → f h ≡ g h
one_bit_more f g lf lg k zero r h l b e high low =
    let same : h ≡ r = omega arith in
    rw same low
one_bit_more f g lf lg k (suc zero) r h l b e high low =
    let one : 1 * 2 ^ k ≡ 2 ^ k = omega arith in
    let same : bit_xor (2 ^ k) r ≡ h = ap (λ t. bit_xor t r) (sym one) ∙ xor_shifted 1 k r b ∙ e in
    rw (sym same, lf (2 ^ k) r, lg (2 ^ k) r, high, low) refl
one_bit_more f g lf lg k (suc (suc q)) r h l b e high low = absurd (omega arith)

pub same_below : (f g : ℕ → List Bool) → IsLinearInBits f → IsLinearInBits g → f 0 ≡ g 0 → (n : ℕ) → AgreeBelow f g n → (h : ℕ) → h < 2 ^ n → f h ≡ g h
unfolding AgreeBelow
same_below f g lf lg none zero agree h l =
    let same : h ≡ 0 = omega arith in
    rw same none
same_below f g lf lg none (suc k) agree h l =
    let positive : 0 < 2 ^ k = pow_pos k in
    let twice : 2 ^ suc k ≡ 2 ^ k * 2 = pow-suc 2 k in
    let below : h < 2 * 2 ^ k = omega arith in
    let small : h % 2 ^ k < 2 ^ k = mod_below h (2 ^ k) positive in
    one_bit_more f g lf lg k (h / 2 ^ k) (h % 2 ^ k) h (div_below h (2 ^ k) 2 positive below) small (shr_split h k) (agree k (omega arith))
    (same_below f g lf lg none k (λ j i. agree j (omega arith)) (h % 2 ^ k) small)
