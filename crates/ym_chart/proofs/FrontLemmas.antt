-- The bytes at the front of a list: how many pass a test, and what is spelled of them.
use Rattle.std.proofs.Common.{◌≡◌, ◌∙◌, ◌+◌, ◌<◌, ◌++◌, ◌∷◌, [], ℕ, List, Bool, true, ap, append_assoc, arith, cond, drop, flat_map, get_or, length, sym, take_while}
use Rattle.std.proofs.Math.Numerals.{add-one}
use Rattle.std.proofs.Math.Seq.{drop-cons}
use Rattle.std.proofs.lemmas.List.Sums.{take_while-cons}
use Rattle.ym_chart.specs.ChartText.{written}

at_front : (xs : List ℕ) (i : ℕ) → i < length xs → drop i xs ≡ get_or xs i 0 ∷ drop (i + 1) xs
at_front xs i within = rw add-one (drop-cons xs i 0 within)

-- one more passes
pub front_on :
    (passes : ℕ → Bool) (xs : List ℕ) (i : ℕ) → i < length xs → passes (get_or xs i 0) ≡ true
    → i + 1 + length (take_while passes (drop (i + 1) xs)) ≡ i + length (take_while passes (drop i xs))
front_on passes xs i within is =
    let more = take_while passes (drop (i + 1) xs) in
    let e : length (take_while passes (drop i xs)) ≡ length (get_or xs i 0 ∷ more) =
    ap (λ (ys : List ℕ). length (take_while passes ys)) (at_front xs i within)
    ∙ ap length (take_while-cons passes (get_or xs i 0) (drop (i + 1) xs))
    ∙ ap (λ (v : Bool). length (cond v (get_or xs i 0 ∷ more) [])) is in
    omega (arith, e)

-- one more is spelled
pub spelled_on :
    (text new bytes : List ℕ) (i : ℕ) → i < length bytes → new ≡ text ++ written (get_or bytes i 0)
    → text ++ flat_map written (drop i bytes) ≡ flat_map written bytes → new ++ flat_map written (drop (i + 1) bytes) ≡ flat_map written bytes
spelled_on text new bytes i within is so =
    ap (λ (t : List ℕ). t ++ flat_map written (drop (i + 1) bytes)) is
    ∙ append_assoc text (written (get_or bytes i 0)) (flat_map written (drop (i + 1) bytes))
    ∙ ap (λ (ys : List ℕ). text ++ flat_map written ys) (sym (at_front bytes i within)) ∙ so
