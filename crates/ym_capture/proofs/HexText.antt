-- Digits of bytes, part by part.
use Rattle.std.proofs.Common.{◌≡◌, ◌∙◌, ◌==◌, ◌++◌, ◌∷◌, [], ℕ, List, true, length, refl, sym, ap}
use Rattle.std.proofs.Common.{append_assoc, ◌/◌, ◌%◌, take, drop, ap₂, arith}
use Rattle.std.proofs.lemmas.Bool.{eqb-true}
use Rattle.std.proofs.lemmas.List.{append-nil, take-append-drop}
use Rattle.hex.specs.Hex.{encode_lower, encode_with, lower_digits}
use Rattle.std.specs.Prelude.{slice_index}

encode_append : (xs ys : List ℕ) → encode_lower (xs ++ ys) ≡ encode_lower xs ++ encode_lower ys
unfolding encode_with
encode_append [] ys = refl
encode_append (x ∷ xs) ys =
    ap (λ (zs : List ℕ). slice_index lower_digits (x / 16) ∷ slice_index lower_digits (x % 16) ∷ zs)
    (encode_append xs ys)

-- two parts of bytes
pub cut : (m : ℕ) (rest part more : List ℕ) → part ≡ take m rest → more ≡ drop m rest → rest ≡ part ++ more
cut m rest part more prefix back =
    sym (ap₂ (λ (xs ys : List ℕ). xs ++ ys) prefix back ∙ take-append-drop m rest)

-- one part more
pub part_put : (text part more rest start bytes new : List ℕ) → rest ≡ part ++ more
    → new ≡ text ++ encode_lower part → text ++ encode_lower rest ≡ start ++ encode_lower bytes
    → new ++ encode_lower more ≡ start ++ encode_lower bytes
part_put text part more rest start bytes new cut put so =
    ap (λ (zs : List ℕ). zs ++ encode_lower more) put
    ∙ append_assoc text (encode_lower part) (encode_lower more)
    ∙ ap (λ (zs : List ℕ). text ++ zs) (sym (encode_append part more))
    ∙ ap (λ (zs : List ℕ). text ++ encode_lower zs) (sym cut)
    ∙ so

none_left : (rest : List ℕ) → (length rest == 0) ≡ true → encode_lower rest ≡ []
unfolding encode_with
none_left [] e = refl
none_left (x ∷ xs) e =
    let none : length (x ∷ xs) ≡ 0 = eqb-true (length (x ∷ xs)) 0 e in absurd (omega arith)

-- all of them
pub all_put : (text rest start bytes : List ℕ) → (length rest == 0) ≡ true
    → text ++ encode_lower rest ≡ start ++ encode_lower bytes → text ≡ start ++ encode_lower bytes
all_put text rest start bytes none so =
    sym (append-nil text) ∙ ap (λ (zs : List ℕ). text ++ zs) (sym (none_left rest none)) ∙ so

-- a line behind a text: its moment, its way, its bytes, and its end
pub line_put : (text moment mark digits a b c d : List ℕ) → a ≡ text ++ moment → b ≡ a ++ mark
    → c ≡ b ++ digits → d ≡ c ++ 10 ∷ []
    → d ≡ text ++ ((moment ++ mark) ++ (digits ++ 10 ∷ []))
line_put text moment mark digits a b c d first second third fourth =
    fourth
    ∙ ap (λ (z : List ℕ). z ++ 10 ∷ [])
    (third ∙ ap (λ (z : List ℕ). z ++ digits) (second ∙ ap (λ (z : List ℕ). z ++ mark) first))
    ∙ simp append_assoc
