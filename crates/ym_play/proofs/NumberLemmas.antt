-- The numbers of digits.
use Rattle.std.proofs.Common.{◌≡◌, ◌<◌, ◌≤◌, ◌&&◌, ℕ, List, [], ◌∷◌, length, refl, nat_lt, nat_le, Ok, Err}
use Rattle.std.specs.Bool.{Decides}
use Rattle.std.specs.Char.{is_digit}
use Rattle.std.specs.List.{list_all}
use Rattle.std.specs.Str.Parse.{AllDigits, IsNumeral, digits_value}
use Rattle.std.proofs.lemmas.Bool.{leb-true, le-leb, false_from_ne_true}
use Rattle.std.proofs.lemmas.Bool.Decides.{Decides-and, Decides-ltb}
use Rattle.ym_play.specs.Value.{is_numeral, number_at}
use Rattle.ym_play.specs.declared.fault.ScriptWhy.{ScriptWhy}

digits : (radix : ℕ) (text : List ℕ) → Decides (list_all (λ c. is_digit c radix) text) (AllDigits radix text)
digits radix [] = (λ e. tt, λ h. refl)
digits radix (c ∷ rest) = Decides-and (is_digit c radix) (list_all (λ d. is_digit d radix) rest) (Decides-ltb _ radix) (digits radix rest)

-- what the test of a number decides
numeral_within : (radix least bound : ℕ) (text : List ℕ)
    → Decides (is_numeral radix text && (nat_le least (digits_value radix text) && nat_lt (digits_value radix text) bound))
    (IsNumeral radix text × ((least ≤ digits_value radix text) × (digits_value radix text < bound)))
numeral_within radix least bound text = Decides-and _ _ (Decides-and _ _ (Decides-ltb 0 (length text)) (digits radix text))
    (Decides-and _ _ (leb-true least _, le-leb least _) (Decides-ltb _ bound))

pub number_some : (why : ScriptWhy) (radix least bound : ℕ) (text : List ℕ) (n : ℕ) → IsNumeral radix text → n ≡ digits_value radix text → least ≤ n → n < bound
    → Ok n ≡ number_at why radix least bound text
number_some why radix least bound text n numeral value low high =
    rw ((numeral_within radix least bound text).1 (numeral, (rw value at low, rw value at high)), value) refl

pub number_none : (why : ScriptWhy) (radix least bound : ℕ) (text : List ℕ) → (IsNumeral radix text → least ≤ digits_value radix text → digits_value radix text < bound → ⊥)
    → Err why ≡ number_at why radix least bound text
number_none why radix least bound text refused =
    let never = false_from_ne_true _ (λ h. let all = (numeral_within radix least bound text).0 h in refused all.0 all.1.0 all.1.1) in rw never refl
