-- What is written is read.
use Rattle.std.proofs.Common.{◌≡◌, ◌≢◌, ℕ, zero, suc, ◌-◌, ◌<◌, ◌≤◌, ◌^◌, ◌⊎◌, inl, inr, Bool, true, false, not, List, [], ◌∷◌, ◌++◌, length, get_or, take, All, decimal, replicate, sym, refl, ap, ◌∙◌, arith}
use Rattle.std.specs.Char.{is_ascii_digit, digit_value}
use Rattle.std.specs.List.{prefix_len}
use Rattle.std.specs.Str.Parse.{AllDigits, IsNumeral, digits_value}
use Rattle.std.proofs.lemmas.Bool.{cases_lt, lt-ltb, le-ltb}
use Rattle.std.proofs.lemmas.Bool.Decides.{nat_tests}
use Rattle.std.proofs.lemmas.Fmt.{digits_is_IsNumeral, decimal_is_IsNumeral, length-decimal-le}
use Rattle.std.proofs.lemmas.List.{append_assoc, take_at, drop_at, drop-drop, length-append, length-replicate}
use Rattle.std.proofs.lemmas.List.Elements.{All-head, All-tail}
use Rattle.std.proofs.lemmas.Str.Parse.{digit_from_value}
use Rattle.ym_header.proofs.Names.{Stamp, Nothing, Time, TimeMode, Zero, File, HeaderParts, IsName, IsSafe, IsStamp, IsHeader, length_limit, name_in, field_in, behind_field, HasField, HasNoField, ReadsStamp, Reads, ReadsHeader, octal, text}
use Rattle.ym_header.specs.Split.{is_zero, ends_field, behind_name, digits_in, behind_digits}
use Rattle.ym_header.specs.Text.{field, stamp_text, fields, size_for, padded}
use Rattle.ym_header.proofs.OctalLemmas.{octal_short}
use Rattle.ym_header.proofs.MeaningLemmas.{one_value}

-- ---- Runs

abbrev Passes : (ℕ → Bool) → List ℕ → Type 0
Passes p [] = Unit {0}
Passes p (x ∷ xs) = (p x ≡ true) × Passes p xs

-- a run ends where what follows begins with none
run_at : (p : ℕ → Bool) (xs ys : List ℕ) → Passes p xs → prefix_len p ys ≡ 0 → prefix_len p (xs ++ ys) ≡ length xs
run_at p [] ys h e = e
run_at p (x ∷ xs) ys h e = let here = h.0 in rw (here, run_at p xs ys h.1 e) (omega arith)

prefix_at : (p : ℕ → Bool) (xs ys : List ℕ) → Passes p xs → prefix_len p ys ≡ 0 → take (prefix_len p (xs ++ ys)) (xs ++ ys) ≡ xs
prefix_at p xs ys h e = ap (λ n. take n (xs ++ ys)) (run_at p xs ys h e) ∙ take_at xs ys (length xs) refl

-- ---- The name

name_byte : (b : ℕ) → 0x20 ≤ b → not (is_zero b) ≡ true
name_byte b h = grind (arith, nat_tests)

name_passes : (name : List ℕ) → All (λ b. (0x20 ≤ b) × (b ≢ 0x2f)) name → Passes (λ b. not (is_zero b)) name
name_passes [] h = tt
name_passes (b ∷ bs) h = (name_byte b (All-head (λ b. (0x20 ≤ b) × (b ≢ 0x2f)) b bs h).0, name_passes bs (All-tail (λ b. (0x20 ≤ b) × (b ≢ 0x2f)) b bs h))

name_at : (name rest : List ℕ) → IsSafe name → name_in (name ++ 0 ∷ rest) ≡ name
name_at name rest safe = prefix_at (λ b. not (is_zero b)) name (0 ∷ rest) (name_passes name safe.bytes) refl

behind_name_at : (name rest : List ℕ) → IsSafe name → behind_name (name ++ 0 ∷ rest) ≡ rest
behind_name_at name rest safe =
    let run = run_at (λ b. not (is_zero b)) name (0 ∷ rest) (name_passes name safe.bytes) refl in
    rw (run, sym (drop-drop 1 (length name) (name ++ 0 ∷ rest)), drop_at name (0 ∷ rest) (length name) refl) refl

-- ---- The length

digit_passes : (c : ℕ) → digit_value c < 10 → is_ascii_digit c ≡ true
digit_passes c h = let range = digit_from_value c h in grind (arith, nat_tests)

digits_pass : (p : ℕ → Bool) (radix : ℕ) → ((c : ℕ) → digit_value c < radix → p c ≡ true) → (ds : List ℕ) → AllDigits radix ds → Passes p ds
digits_pass p radix each [] h = tt
digits_pass p radix each (c ∷ cs) h = (each c h.0, digits_pass p radix each cs h.1)

digits_at : (ds rest : List ℕ) → AllDigits 10 ds → prefix_len is_ascii_digit rest ≡ 0 → digits_in (ds ++ rest) ≡ ds
digits_at ds rest h e = prefix_at is_ascii_digit ds rest (digits_pass is_ascii_digit 10 digit_passes ds h) e

behind_digits_at : (ds rest : List ℕ) → AllDigits 10 ds → prefix_len is_ascii_digit rest ≡ 0 → behind_digits (ds ++ rest) ≡ rest
behind_digits_at ds rest h e = rw (digits_at ds rest h e, drop_at ds rest (length ds) refl) refl

-- ---- The fields

octal_passes : (c : ℕ) → digit_value c < 8 → not (ends_field c) ≡ true
octal_passes c h = let range = digit_from_value c (omega (arith, h)) in grind (arith, nat_tests)

field_at : (ds rest : List ℕ) → AllDigits 8 ds → prefix_len (λ c. not (ends_field c)) rest ≡ 0 → field_in (0x20 ∷ (ds ++ rest)) ≡ ds
field_at ds rest h e = prefix_at (λ c. not (ends_field c)) ds rest (digits_pass (λ c. not (ends_field c)) 8 octal_passes ds h) e

behind_field_at : (ds rest : List ℕ) → AllDigits 8 ds → prefix_len (λ c. not (ends_field c)) rest ≡ 0 → behind_field (0x20 ∷ (ds ++ rest)) ≡ rest
behind_field_at ds rest h e = rw (field_at ds rest h e, sym (drop-drop (length ds) 1 (0x20 ∷ (ds ++ rest))), drop_at ds rest (length ds) refl) refl

octal_is : (n : ℕ) → n < 2 ^ 64 → IsNumeral 8 (octal n) × (digits_value 8 (octal n) ≡ n)
octal_is n h = digits_is_IsNumeral 8 false (omega arith) (omega arith) n (omega (arith, h))

has_field : (bound n : ℕ) (rest : List ℕ) → n < 2 ^ 64 → n < bound → prefix_len (λ c. not (ends_field c)) rest ≡ 0 → HasField bound (0x20 ∷ (octal n ++ rest)) n
has_field bound n rest h fits e =
    let o = octal_is n h in
    let at = field_at (octal n) rest o.0.1 e in
    record { numeral = rw at o.0; value = rw (at, o.1) refl; fits = fits }

zeros_stop : (n : ℕ) → prefix_len (λ c. not (ends_field c)) (replicate n 0) ≡ 0
zeros_stop zero = refl
zeros_stop (suc n) = refl

zeros_have_none : (bound n : ℕ) → HasNoField bound (replicate n 0)
zeros_have_none bound zero m h = absurd (omega (arith, h.numeral.0))
zeros_have_none bound (suc n) m h = absurd (omega (arith, h.numeral.0))

stamp_at : (s : Stamp) (n : ℕ) → IsStamp s → ReadsStamp (stamp_text s ++ replicate n 0) s
stamp_at Nothing n fits = zeros_have_none (2 ^ 64) n
stamp_at (Time time) n fits =
    let behind = behind_field_at (octal time) (replicate n 0) (octal_is time fits).0.1 (zeros_stop n) in
    (has_field (2 ^ 64) time (replicate n 0) fits fits (zeros_stop n), rw behind (zeros_have_none (2 ^ 32) n))
stamp_at (TimeMode time mode) n fits =
    let rest = 0x20 ∷ (octal mode ++ replicate n 0) in
    let first : HasField (2 ^ 64) (0x20 ∷ (octal time ++ rest)) time = has_field (2 ^ 64) time rest fits.0 fits.0 refl in
    let second : HasField (2 ^ 32) rest mode = has_field (2 ^ 32) mode (replicate n 0) (omega (arith, fits.1)) fits.1 (zeros_stop n) in
    rw (append_assoc (octal time) (0x20 ∷ octal mode) (replicate n 0)) (first, rw (behind_field_at (octal time) rest (octal_is time fits.0).0.1 refl) second)

-- no digit stands behind the length
no_digit : (s : Stamp) (n : ℕ) → prefix_len is_ascii_digit (stamp_text s ++ replicate n 0) ≡ 0
no_digit Nothing zero = refl
no_digit Nothing (suc n) = refl
no_digit (Time time) n = refl
no_digit (TimeMode time mode) n = refl

-- ---- The whole

body_read : (limit n : ℕ) (h : HeaderParts) → h.length < 2 ^ 64 → IsHeader limit h →
    ReadsHeader limit (h.name ++ 0 ∷ (decimal h.length ++ (stamp_text h.stamp ++ replicate n 0))) h
body_read limit n h room ok =
    let behind = stamp_text h.stamp ++ replicate n 0 in
    let rest = decimal h.length ++ behind in
    let numeral = decimal_is_IsNumeral h.length room in
    let after : behind_name (h.name ++ 0 ∷ rest) ≡ rest = behind_name_at h.name rest ok.name.safe in
    let run : digits_in (behind_name (h.name ++ 0 ∷ rest)) ≡ decimal h.length = rw after (digits_at (decimal h.length) behind numeral.0.1 (no_digit h.stamp n)) in
    let left : behind_digits (behind_name (h.name ++ 0 ∷ rest)) ≡ behind = rw after (behind_digits_at (decimal h.length) behind numeral.0.1 (no_digit h.stamp n)) in
    record {
      name = sym (name_at h.name rest ok.name.safe);
      safe = ok.name;
      digits = rw run numeral.0.0;
      length = rw (run, numeral.1) refl;
      fits = ok.length;
      stamp = rw left (stamp_at h.stamp n ok.stamp);
    }

regrouped_text : (name dec stamp pad : List ℕ) → name ++ (0 ∷ []) ++ dec ++ stamp ++ pad ≡ name ++ 0 ∷ (dec ++ (stamp ++ pad))
regrouped_text name dec stamp pad = simp append_assoc

pub text_read : (limit : ℕ) (h : HeaderParts) → limit < 2 ^ 64 → IsHeader limit h → Reads limit (text h) (File h)
text_read limit h small ok =
    let n = size_for (length (fields h)) - length (fields h) in
    let room : h.length < 2 ^ 64 = omega (arith, ok.length, small) in
    rw (regrouped_text h.name (decimal h.length) (stamp_text h.stamp) (replicate n 0)) (body_read limit n h room ok)

pub text_read_alone : (limit : ℕ) (h : HeaderParts) (z : Zero) → limit < 2 ^ 64 → IsHeader limit h → Reads limit (text h) z → z ≡ File h
text_read_alone limit h z small ok reads = one_value limit (text h) z (File h) reads (text_read limit h small ok)

first_of_name : (name rest : List ℕ) → IsName name → get_or (name ++ rest) 0 0 ≢ 0
first_of_name [] rest ok = absurd (omega (arith, ok.some))
first_of_name (b ∷ bs) rest ok = λ e. absurd (omega (arith, e, (All-head (λ b. (0x20 ≤ b) × (b ≢ 0x2f)) b bs ok.safe.bytes).0))

pub first_byte : (h : HeaderParts) → IsName h.name → get_or (text h) 0 0 ≢ 0
first_byte h ok =
    let pad = replicate (size_for (length (fields h)) - length (fields h)) 0 in
    let rest = 0 ∷ (decimal h.length ++ (stamp_text h.stamp ++ pad)) in
    rw (regrouped_text h.name (decimal h.length) (stamp_text h.stamp) pad) (first_of_name h.name rest ok)

-- ---- The size

stamp_short : (s : Stamp) → IsStamp s → length (stamp_text s) ≤ 46
stamp_short Nothing fits = omega arith
stamp_short (Time time) fits = omega (arith, octal_short time fits)
stamp_short (TimeMode time mode) fits =
    omega (arith, octal_short time fits.0, octal_short mode (omega (arith, fits.1)), length-append (field time) (field mode))

padded_size : (bytes : List ℕ) → length bytes < 1024 → (length (padded bytes) ≡ 128) ⊎ (length (padded bytes) ≡ 1024)
padded_size bytes h =
    let all = length-append bytes (replicate (size_for (length bytes) - length bytes) 0) in
    let pad = length-replicate {A = ℕ} (size_for (length bytes) - length bytes) 0 in
    elim (cases_lt (length bytes) 128) [
      | inl small ↦ let size : size_for (length bytes) ≡ 128 = rw (lt-ltb (length bytes) 128 small) refl in inl (omega (arith, all, pad, size, small))
      | inr large ↦ let size : size_for (length bytes) ≡ 1024 = rw (le-ltb (length bytes) 128 large) refl in inr (omega (arith, all, pad, size, h))
    ]

pub text_size : (h : HeaderParts) → IsHeader length_limit h → (length (text h) ≡ 128) ⊎ (length (text h) ≡ 1024)
text_size h ok =
    let number = length-decimal-le 20 h.length (omega arith) (omega (arith, ok.length)) (omega (arith, ok.length)) in
    let stamp = stamp_short h.stamp ok.stamp in
    let named = length-append h.name (0 ∷ []) in
    let counted = length-append (h.name ++ 0 ∷ []) (decimal h.length) in
    let all = length-append (h.name ++ (0 ∷ []) ++ decimal h.length) (stamp_text h.stamp) in
    padded_size (fields h) (omega (arith, number, stamp, named, counted, all, ok.name.short))
