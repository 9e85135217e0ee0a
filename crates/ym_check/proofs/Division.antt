-- The long division of a body's bits, bit by bit and byte by byte.
use Rattle.std.specs.Prelude.{◌≡◌, ℕ, ◌≤◌, zero, suc, Bool, true, false, cond, List, [], ◌∷◌, ◌++◌, length, replicate, refl}
use Rattle.std.proofs.Common.{sym, ◌∙◌, ap, arith, length-append}
use Rattle.std.proofs.lemmas.List.{append-nil}
use Rattle.ym_check.specs.Check.{minus, subtract, divided, remainder}

-- ---- subtraction of lists of bits

minus-assoc : (a b c : Bool) → minus (minus a b) c ≡ minus a (minus b c)
minus-assoc a b false = refl
minus-assoc a false true = refl
minus-assoc false true true = refl
minus-assoc true true true = refl

zero-minus : (b : Bool) → minus false b ≡ b
zero-minus false = refl
zero-minus true = refl

pub length-subtract : (xs ys : List Bool) → length (subtract xs ys) ≡ length xs
length-subtract xs [] = refl
length-subtract [] (y ∷ ys) = refl
length-subtract (x ∷ xs) (y ∷ ys) = ap suc (length-subtract xs ys)

pub subtract_twice : (xs ys zs : List Bool) → length zs ≤ length ys → subtract (subtract xs ys) zs ≡ subtract xs (subtract ys zs)
subtract_twice xs ys [] h = refl
subtract_twice xs [] (z ∷ zs) h = absurd (omega arith)
subtract_twice [] (y ∷ ys) (z ∷ zs) h = refl
subtract_twice (x ∷ xs) (y ∷ ys) (z ∷ zs) h =
    let k : length zs ≤ length ys = omega arith in
    rw (minus-assoc x y z, subtract_twice xs ys zs k) refl

subtract-zero_behind : (xs ys : List Bool) → subtract xs (ys ++ false ∷ []) ≡ subtract xs ys
subtract-zero_behind [] [] = refl
subtract-zero_behind [] (y ∷ ys) = refl
subtract-zero_behind (x ∷ xs) [] = refl
subtract-zero_behind (x ∷ xs) (y ∷ ys) = ap (λ t. minus x y ∷ t) (subtract-zero_behind xs ys)

pub subtract-append : (xs bs cs ds : List Bool) → length xs ≡ length cs → subtract (xs ++ bs) (cs ++ ds) ≡ subtract xs cs ++ subtract bs ds
subtract-append [] bs [] ds h = refl
subtract-append [] bs (c ∷ cs) ds h = absurd (omega arith)
subtract-append (a ∷ xs) bs [] ds h = absurd (omega arith)
subtract-append (a ∷ xs) bs (c ∷ cs) ds h =
    let k : length xs ≡ length cs = omega arith in
    ap (λ t. minus a c ∷ t) (subtract-append xs bs cs ds k)

pub subtract-zeros : (n : ℕ) (xs : List Bool) → subtract xs (replicate n false) ≡ xs
subtract-zeros zero xs = refl
subtract-zeros (suc n) [] = refl
subtract-zeros (suc n) (x ∷ xs) = ap (λ t. x ∷ t) (subtract-zeros n xs)

pub zeros-subtract : (n : ℕ) (xs : List Bool) → length xs ≡ n → subtract (replicate n false) xs ≡ xs
zeros-subtract zero [] h = refl
zeros-subtract zero (x ∷ xs) h = absurd (omega arith)
zeros-subtract (suc n) [] h = absurd (omega arith)
zeros-subtract (suc n) (x ∷ xs) h =
    let k : length xs ≡ n = omega arith in
    rw (zero-minus x, zeros-subtract n xs k) refl

-- ---- A register of sixteen bits, which takes one bit after another

-- the divisor below its first bit
abbrev pub below_divisor : List Bool
below_divisor =
    false ∷ false ∷ false ∷ true ∷ false ∷ false ∷ false ∷ false ∷ false ∷ false ∷ true ∷ false ∷ false ∷ false ∷ false ∷ true ∷ []

abbrev pub moved : List Bool → List Bool
moved vs = vs ++ false ∷ []

abbrev pub next : List Bool → Bool → List Bool
next [] b = []
next (v ∷ vs) b = cond (minus b v) (subtract (moved vs) below_divisor) (moved vs)

abbrev pub run : List Bool → List Bool → List Bool
run v [] = v
run v (b ∷ more) = run (next v b) more

pub length-next : (v : List Bool) (b : Bool) → length (next v b) ≡ length v
length-next [] b = refl
length-next (v ∷ vs) b =
    elim (minus b v) as (λ c. length (cond c (subtract (moved vs) below_divisor) (moved vs)) ≡ suc (length vs)) [
      | true ↦ length-subtract (moved vs) below_divisor ∙ omega (arith, length-append vs (false ∷ []))
      | false ↦ omega (arith, length-append vs (false ∷ []))
    ]

pub length-run : (v bs : List Bool) → length (run v bs) ≡ length v
length-run v [] = refl
length-run v (b ∷ bs) = length-run (next v b) bs ∙ length-next v b

pub run-append : (v xs bs : List Bool) → run v (xs ++ bs) ≡ run (run v xs) bs
run-append v [] bs = refl
run-append v (a ∷ xs) bs = run-append (next v a) xs bs

divided-bit : (n : ℕ) (c : Bool) (more : List Bool) → divided (suc n) (c ∷ more) ≡ divided n (cond c (subtract more below_divisor) more)
divided-bit n true more = refl
divided-bit n false more = refl

pushed : (c : Bool) (xs vs : List Bool) → suc (length vs) ≡ 16 →
    cond c (subtract (subtract xs vs) below_divisor) (subtract xs vs) ≡ subtract xs (cond c (subtract (moved vs) below_divisor) (moved vs))
pushed false xs vs h = sym (subtract-zero_behind xs vs)
pushed true xs vs h =
    let fits : length below_divisor ≤ length (moved vs) = omega (arith, length-append vs (false ∷ [])) in
    ap (λ t. subtract t below_divisor) (sym (subtract-zero_behind xs vs)) ∙ subtract_twice xs (moved vs) below_divisor fits

-- the long division of bits from whose front the register is subtracted leaves what the register becomes
pub divided-run : (bs v rest : List Bool) → length v ≡ 16 → divided (length bs) (subtract (bs ++ rest) v) ≡ subtract rest (run v bs)
divided-run [] v rest h = refl
divided-run (b ∷ bs) [] rest h = absurd (omega arith)
divided-run (b ∷ bs) (v ∷ vs) rest h =
    divided-bit (length bs) (minus b v) (subtract (bs ++ rest) vs) ∙
    ap (divided (length bs)) (pushed (minus b v) (bs ++ rest) vs h) ∙
    divided-run bs (next (v ∷ vs) b) rest (length-next (v ∷ vs) b ∙ h)

abbrev pub start : List Bool
start = replicate 16 false

pub remainder_is_run : (bs : List Bool) → remainder bs ≡ run start bs
remainder_is_run bs =
    ap (divided (length bs)) (sym (subtract-zeros 16 (bs ++ start))) ∙
    divided-run bs start start refl ∙
    zeros-subtract 16 (run start bs) (length-run start bs)

-- a register of two halves of eight bits takes eight bits: what the first half and the bits give from the start, and the second half before it
pub run-byte : (high low bs : List Bool) → length high ≡ 8 → length low ≡ 8 → length bs ≡ 8 →
    run (high ++ low) bs ≡ subtract (low ++ replicate 8 false) (run start (subtract bs high))
run-byte high low bs h l b =
    let whole : length (high ++ low) ≡ 16 = omega (arith, length-append high low) in
    let same : length bs ≡ length high = omega arith in
    let less = subtract bs high in
    let low_first : subtract start low ≡ low ++ replicate 8 false =
    ap (subtract start) (sym (append-nil low)) ∙
    subtract-append (replicate 8 false) (replicate 8 false) low [] (sym l) ∙
    ap (λ t. t ++ replicate 8 false) (zeros-subtract 8 low l) in
    let ways : divided (length bs) (less ++ subtract start low) ≡ run (high ++ low) bs =
    rw (subtract-append bs start high low same, zeros-subtract 16 (run (high ++ low) bs) (length-run (high ++ low) bs ∙ whole)) at (divided-run bs (high ++ low) start whole) in
    let other : divided (length bs) (less ++ subtract start low) ≡ subtract (subtract start low) (run start less) =
    rw (length-subtract bs high, subtract-zeros 16 (less ++ subtract start low)) at (divided-run less start (subtract start low) refl) in
    sym ways ∙ other ∙ ap (λ t. subtract t (run start less)) low_first
