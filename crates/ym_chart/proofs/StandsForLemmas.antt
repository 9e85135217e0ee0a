-- What is spelled stands for the bytes that it is spelled of.
use Rattle.std.proofs.Common.{◌≡◌, ◌==◌, ◌&&◌, ◌++◌, ◌∷◌, [], Bool, true, false, ℕ, List, cond, flat_map, not, refl}
use Rattle.std.proofs.lemmas.Bool.{eqb-true}
use Rattle.ym_chart.specs.ChartText.{StandsFor, Nothing, Less, Greater, Ampersand, Quote, Itself, Coded, is_printable, written}

by_test : (b : Bool) (P : List ℕ → Type 0) (x y : List ℕ) → (b ≡ true → P x) → (b ≡ false → P y)
    → P (cond b x y)
by_test true P x y f g = f refl
by_test false P x y f g = g refl

none_of_them : (p a b c d : Bool) → p ≡ true → a ≡ false → b ≡ false → c ≡ false → d ≡ false
    → (p && not a && not b && not c && not d) ≡ true
none_of_them p a b c d hp ha hb hc hd = rw (hp, ha, hb, hc, hd) refl

one_stands : (byte : ℕ) (text bytes : List ℕ) → StandsFor text bytes
    → StandsFor (written byte ++ text) (byte ∷ bytes)
one_stands byte text bytes h =
    let P = λ (w : List ℕ). StandsFor (w ++ text) (byte ∷ bytes) in
    by_test (byte == 0x3c) P _ _ (λ e. rw (eqb-true byte 0x3c e) (Less h))
    (λ n1. by_test (byte == 0x3e) P _ _ (λ e. rw (eqb-true byte 0x3e e) (Greater h))
    (λ n2. by_test (byte == 0x26) P _ _ (λ e. rw (eqb-true byte 0x26 e) (Ampersand h))
    (λ n3. by_test (byte == 0x22) P _ _ (λ e. rw (eqb-true byte 0x22 e) (Quote h))
    (λ n4. by_test (is_printable byte) P _ _
    (λ p. Itself byte (none_of_them _ _ _ _ _ p n1 n2 n3 n4) h)
    (λ n5. Coded byte n5 h)))))

pub spelled_stands : (bytes : List ℕ) → StandsFor (flat_map written bytes) bytes
spelled_stands [] = Nothing
spelled_stands (byte ∷ rest) = one_stands byte (flat_map written rest) rest (spelled_stands rest)
