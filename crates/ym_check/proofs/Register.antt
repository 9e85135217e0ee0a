-- The register of a check is linear: what is left of a sum of bits is the sum of what is left of each.
use Rattle.std.specs.Prelude.{◌≡◌, ℕ, zero, suc, Bool, true, false, cond, List, [], ◌∷◌, ◌++◌, length, replicate, refl}
use Rattle.std.proofs.Common.{sym, ◌∙◌, ap, arith, length-append}
use Rattle.ym_check.specs.Check.{minus, subtract}
use Rattle.ym_check.proofs.Division.{moved, next, run, start, below_divisor, length-next, subtract_twice, subtract-append, run-append}

-- ---- sums of lists of bits

minus_both : (m n d : Bool) → minus (minus m d) (minus n d) ≡ minus m n
minus_both m n false = refl
minus_both m true true = refl
minus_both false false true = refl
minus_both true false true = refl

minus_swap : (m n d : Bool) → minus (minus m n) d ≡ minus (minus m d) n
minus_swap m n false = refl
minus_swap m false true = refl
minus_swap m true true = refl

minus_four : (x y a b : Bool) → minus (minus x y) (minus a b) ≡ minus (minus x a) (minus y b)
minus_four x y false false = refl
minus_four x false true false = refl
minus_four x true true false = refl
minus_four x false false true = refl
minus_four false true false true = refl
minus_four true true false true = refl
minus_four false false true true = refl
minus_four true false true true = refl
minus_four x true true true = refl

subtract_both : (xs ys ds : List Bool) → length xs ≡ length ys → length xs ≡ length ds → subtract (subtract xs ds) (subtract ys ds) ≡ subtract xs ys
subtract_both xs ys [] h k = refl
subtract_both [] ys (d ∷ ds) h k = absurd (omega arith)
subtract_both (x ∷ xs) [] (d ∷ ds) h k = absurd (omega arith)
subtract_both (x ∷ xs) (y ∷ ys) (d ∷ ds) h k =
    let i : length xs ≡ length ys = omega arith in
    let j : length xs ≡ length ds = omega arith in
    rw (minus_both x y d, subtract_both xs ys ds i j) refl

subtract_swap : (xs ys ds : List Bool) → length xs ≡ length ys → length xs ≡ length ds → subtract (subtract xs ys) ds ≡ subtract (subtract xs ds) ys
subtract_swap xs ys [] h k = refl
subtract_swap [] ys (d ∷ ds) h k = absurd (omega arith)
subtract_swap (x ∷ xs) [] (d ∷ ds) h k = absurd (omega arith)
subtract_swap (x ∷ xs) (y ∷ ys) (d ∷ ds) h k =
    let i : length xs ≡ length ys = omega arith in
    let j : length xs ≡ length ds = omega arith in
    rw (minus_swap x y d, subtract_swap xs ys ds i j) refl

-- ---- the register is linear

cond_subtract : (p q : Bool) (m n : List Bool) → length m ≡ 16 → length n ≡ 16 →
    cond (minus p q) (subtract (subtract m n) below_divisor) (subtract m n) ≡ subtract (cond p (subtract m below_divisor) m) (cond q (subtract n below_divisor) n)
cond_subtract false false m n h k = refl
cond_subtract true false m n h k = subtract_swap m n below_divisor (h ∙ sym k) h
cond_subtract false true m n h k = subtract_twice m n below_divisor (omega arith)
cond_subtract true true m n h k = sym (subtract_both m n below_divisor (h ∙ sym k) h)

next-subtract : (v w : List Bool) (x y : Bool) → length v ≡ 16 → length w ≡ 16 → next (subtract v w) (minus x y) ≡ subtract (next v x) (next w y)
next-subtract [] w x y h k = absurd (omega arith)
next-subtract (a ∷ vs) [] x y h k = absurd (omega arith)
next-subtract (a ∷ vs) (b ∷ ws) x y h k =
    let same : length vs ≡ length ws = omega arith in
    let both : moved (subtract vs ws) ≡ subtract (moved vs) (moved ws) = sym (subtract-append vs (false ∷ []) ws (false ∷ []) same) in
    rw (minus_four x y a b, both) (cond_subtract (minus x a) (minus y b) (moved vs) (moved ws) (omega (arith, length-append vs (false ∷ []))) (omega (arith, length-append ws (false ∷ []))))

pub run-subtract : (v w xs ys : List Bool) → length v ≡ 16 → length w ≡ 16 → length xs ≡ length ys → run (subtract v w) (subtract xs ys) ≡ subtract (run v xs) (run w ys)
run-subtract v w [] [] h k l = refl
run-subtract v w [] (y ∷ ys) h k l = absurd (omega arith)
run-subtract v w (x ∷ xs) [] h k l = absurd (omega arith)
run-subtract v w (x ∷ xs) (y ∷ ys) h k l =
    let m : length xs ≡ length ys = omega arith in
    ap (λ t. run t (subtract xs ys)) (next-subtract v w x y h k) ∙ run-subtract (next v x) (next w y) xs ys (length-next v x ∙ h) (length-next w y ∙ k) m

pub start-subtract : (xs ys : List Bool) → length xs ≡ length ys → run start (subtract xs ys) ≡ subtract (run start xs) (run start ys)
start-subtract xs ys l = run-subtract start start xs ys refl refl l

run-zeros : (n : ℕ) → run start (replicate n false) ≡ start
run-zeros zero = refl
run-zeros (suc n) = run-zeros n

-- zeros in front change nothing
pub zeros_in_front : (n : ℕ) (bs : List Bool) → run start (replicate n false ++ bs) ≡ run start bs
zeros_in_front n bs = run-append start (replicate n false) bs ∙ ap (λ v. run v bs) (run-zeros n)
