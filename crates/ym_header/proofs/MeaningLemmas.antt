-- Each body has one meaning.
use Rattle.std.proofs.Common.{◌≡◌, ◌≢◌, ℕ, ◌≤◌, ◌⊎◌, ◌^◌, List, [], ◌∷◌, length, codes, All, refl, ap, inl, inr, arith}
use Rattle.std.specs.Str.{is_utf8, bytes_eq}
use Rattle.std.specs.Str.Parse.{AllDigits, digits_value}
use Rattle.std.specs.Cmp.Lexicographic.{bytes_decides}
use Rattle.std.proofs.lemmas.List.{nil_from_length}
use Rattle.std.proofs.lemmas.List.Elements.{All-nil, All-cons, All-head, All-tail}
use Rattle.std.proofs.lemmas.Bool.{cases_lt, cases_Bool, both_ways}
use Rattle.ym_header.proofs.Names.{Stamp, Nothing, Time, TimeMode, NameEmpty, NameLong, NameUnsafe, NoLength, LengthLarge, MOST_NAME_BYTES, Zero, File, End, HeaderParts, IsName, IsSafe, IsStamp, IsHeader, name_in, field_in, behind_field, HasField, HasNoField, ReadsStamp, Reads, ReadsHeader, IsFault}
use Rattle.ym_header.specs.declared.fault.HeaderFault.{HeaderFault}
use Rattle.ym_header.specs.declared.fault.HeaderFault.TheVariants.{Memory}
use Rattle.ym_header.specs.HeaderReading.{length_in, behind_length}

-- ---- Tests

all_digits_or_not : (radix : ℕ) (ds : List ℕ) → AllDigits radix ds ⊎ ¬ AllDigits radix ds
all_digits_or_not radix [] = inl tt
all_digits_or_not radix (c ∷ cs) = grind (arith, all_digits_or_not radix cs)

field_or_not : (bound : ℕ) (rest : List ℕ) → ((n : ℕ) × HasField bound rest n) ⊎ HasNoField bound rest
field_or_not bound rest = elim (cases_lt 0 (length (field_in rest))) [
  | inl some ↦ elim (all_digits_or_not 8 (field_in rest)) [
    | inl digits ↦ elim (cases_lt (digits_value 8 (field_in rest)) bound) [
      | inl fits ↦ inl (digits_value 8 (field_in rest), record { numeral = (some, digits); value = refl; fits = fits })
      | inr large ↦ inr (λ n h. absurd (omega (arith, h.value, h.fits, large)))
    ]
    | inr fails ↦ inr (λ n h. fails h.numeral.1)
  ]
  | inr none ↦ inr (λ n h. absurd (omega (arith, h.numeral.0, none)))
]

all_or_not : (P : ℕ → Type 0) → ((x : ℕ) → P x ⊎ ¬ P x) → (xs : List ℕ) → All P xs ⊎ ¬ All P xs
all_or_not P each [] = inl (All-nil P)
all_or_not P each (x ∷ xs) = elim (each x) [
  | inl holds ↦ elim (all_or_not P each xs) [ inl rest ↦ inl (All-cons P x xs holds rest) | inr fails ↦ inr (λ h. fails (All-tail P x xs h)) ]
  | inr fails ↦ inr (λ h. fails (All-head P x xs h))
]

byte_or_not : (b : ℕ) → ((0x20 ≤ b) × (b ≢ 0x2f)) ⊎ ¬ ((0x20 ≤ b) × (b ≢ 0x2f))
byte_or_not b = grind arith

same_or_not : (xs ys : List ℕ) → (xs ≡ ys) ⊎ (xs ≡ ys → ⊥)
same_or_not xs ys = elim (cases_Bool (bytes_eq xs ys)) [
  | inl holds ↦ inl ((bytes_decides xs ys).0 holds)
  | inr fails ↦ inr (λ e. both_ways (bytes_eq xs ys) fails ((bytes_decides xs ys).1 e))
]

safe_or_not : (name : List ℕ) → IsSafe name ⊎ ¬ IsSafe name
safe_or_not name = elim (cases_Bool (is_utf8 name)) [
  | inl utf8 ↦ elim (all_or_not (λ b. (0x20 ≤ b) × (b ≢ 0x2f)) byte_or_not name) [
    | inl bytes ↦ elim (same_or_not name (codes ".")) [
      | inl here ↦ inr (λ h. h.not_here here)
      | inr not_here ↦ elim (same_or_not name (codes "..")) [
        | inl above ↦ inr (λ h. h.not_above above)
        | inr not_above ↦ inl (record { utf8 = utf8; bytes = bytes; not_here = not_here; not_above = not_above })
      ]
    ]
    | inr fails ↦ inr (λ h. fails h.bytes)
  ]
  | inr fails ↦ inr (λ h. both_ways (is_utf8 name) fails h.utf8)
]

-- ---- Some meaning

some_stamp : (rest : List ℕ) → (s : Stamp) × ReadsStamp rest s
some_stamp rest = elim (field_or_not (2 ^ 64) rest) [
  | inl time ↦ elim (field_or_not (2 ^ 32) (behind_field rest)) [
    | inl mode ↦ (TimeMode time.0 mode.0, (time.1, mode.1))
    | inr none ↦ (Time time.0, (time.1, none))
  ]
  | inr none ↦ (Nothing, none)
]

some_of_name : (limit : ℕ) (body : List ℕ) → IsName (name_in body) →
    ((z : Zero) × Reads limit body z) ⊎ ((f : HeaderFault) × IsFault limit body f)
some_of_name limit body name = elim (cases_lt 0 (length (length_in body))) [
  | inl some ↦ elim (cases_lt limit (digits_value 10 (length_in body))) [
    | inl large ↦ inr (LengthLarge, (name, some, large))
    | inr fits ↦ let s = some_stamp (behind_length body) in
        inl (
          File (record { name = name_in body; length = digits_value 10 (length_in body); stamp = s.0 }),
          record { name = refl; safe = name; digits = some; length = refl; fits = fits; stamp = s.1 },
        )
  ]
  | inr none ↦ inr (NoLength, (name, nil_from_length (length_in body) (omega (arith, none))))
]

pub some_meaning : (limit : ℕ) (body : List ℕ) → ((z : Zero) × Reads limit body z) ⊎ ((f : HeaderFault) × IsFault limit body f)
some_meaning limit body = elim (cases_lt 0 (length (name_in body))) [
  | inr none ↦ inl (End, nil_from_length (name_in body) (omega (arith, none)))
  | inl some ↦ elim (cases_lt MOST_NAME_BYTES (length (name_in body))) [
    | inl long ↦ inr (NameLong, long)
    | inr short ↦ elim (safe_or_not (name_in body)) [
      | inl safe ↦ some_of_name limit body (record { some = some; short = short; safe = safe })
      | inr unsafe ↦ inr (NameUnsafe, (some, short, unsafe))
    ]
  ]
]

-- ---- At most one

one_stamp : (rest : List ℕ) (s t : Stamp) → ReadsStamp rest s → ReadsStamp rest t → s ≡ t
one_stamp rest Nothing Nothing x y = refl
one_stamp rest Nothing (Time b) x y = absurd (x b y.0)
one_stamp rest Nothing (TimeMode b d) x y = absurd (x b y.0)
one_stamp rest (Time a) Nothing x y = absurd (y a x.0)
one_stamp rest (Time a) (Time b) x y = rw (x.0.value, y.0.value) refl
one_stamp rest (Time a) (TimeMode b d) x y = absurd (x.1 d y.1)
one_stamp rest (TimeMode a c) Nothing x y = absurd (y a x.0)
one_stamp rest (TimeMode a c) (Time b) x y = absurd (y.1 c x.1)
one_stamp rest (TimeMode a c) (TimeMode b d) x y = rw (x.0.value, y.0.value, x.1.value, y.1.value) refl

one_header : (limit : ℕ) (body : List ℕ) (g h : HeaderParts) → ReadsHeader limit body g → ReadsHeader limit body h → g ≡ h
one_header limit body g h x y =
    let stamp : g.stamp ≡ h.stamp = one_stamp (behind_length body) g.stamp h.stamp x.stamp y.stamp in
    let same : ◌≡◌ {A = HeaderParts} (record { name = g.name; length = g.length; stamp = g.stamp }) h = rw (x.name, y.name, x.length, y.length, stamp) refl in
    same

named : (limit : ℕ) (body : List ℕ) (h : HeaderParts) → ReadsHeader limit body h → IsName (name_in body)
named limit body h x = rw x.name at x.safe

pub one_value : (limit : ℕ) (body : List ℕ) (y z : Zero) → Reads limit body y → Reads limit body z → y ≡ z
one_value limit body End End x y = refl
one_value limit body End (File h) x y = absurd (omega (arith, ap length x, (named limit body h y).some))
one_value limit body (File g) End x y = absurd (omega (arith, ap length y, (named limit body g x).some))
one_value limit body (File g) (File h) x y = ap (λ p. File p) (one_header limit body g h x y)

pub one_fault : (limit : ℕ) (body : List ℕ) (f g : HeaderFault) → IsFault limit body f → IsFault limit body g → f ≡ g
one_fault limit body NameEmpty g x y = absurd x
one_fault limit body Memory g x y = absurd x
one_fault limit body f NameEmpty x y = absurd y
one_fault limit body f Memory x y = absurd y
one_fault limit body NameLong NameLong x y = refl
one_fault limit body NameLong NameUnsafe x y = absurd (omega (arith, x, y.1))
one_fault limit body NameLong g x y = absurd (omega (arith, x, y.0.short))
one_fault limit body NameUnsafe NameUnsafe x y = refl
one_fault limit body NameUnsafe NameLong x y = absurd (omega (arith, y, x.1))
one_fault limit body NameUnsafe g x y = absurd (x.2 y.0.safe)
one_fault limit body f NameLong x y = absurd (omega (arith, y, x.0.short))
one_fault limit body f NameUnsafe x y = absurd (y.2 x.0.safe)
one_fault limit body NoLength NoLength x y = refl
one_fault limit body NoLength LengthLarge x y = absurd (omega (arith, ap length x.1, y.1))
one_fault limit body LengthLarge NoLength x y = absurd (omega (arith, ap length y.1, x.1))
one_fault limit body LengthLarge LengthLarge x y = refl

pub not_both : (limit : ℕ) (body : List ℕ) (z : Zero) (f : HeaderFault) → Reads limit body z → IsFault limit body f → ⊥
not_both limit body z NameEmpty x y = y
not_both limit body z Memory x y = y
not_both limit body End NameLong x y = absurd (omega (arith, ap length x, y))
not_both limit body End NameUnsafe x y = absurd (omega (arith, ap length x, y.0))
not_both limit body End f x y = absurd (omega (arith, ap length x, y.0.some))
not_both limit body (File h) NameLong x y = absurd (omega (arith, (named limit body h x).short, y))
not_both limit body (File h) NameUnsafe x y = y.2 (named limit body h x).safe
not_both limit body (File h) NoLength x y = absurd (omega (arith, x.digits, ap length y.1))
not_both limit body (File h) LengthLarge x y = absurd (omega (arith, x.length, x.fits, y.2))

pub wider : (narrow wide : ℕ) (body : List ℕ) (z : Zero) → narrow ≤ wide → Reads narrow body z → Reads wide body z
wider narrow wide body End le x = x
wider narrow wide body (File h) le x =
    record { name = x.name; safe = x.safe; digits = x.digits; length = x.length; fits = omega (arith, x.fits, le); stamp = x.stamp }

stamp_fits : (rest : List ℕ) (s : Stamp) → ReadsStamp rest s → IsStamp s
stamp_fits rest Nothing x = tt
stamp_fits rest (Time time) x = x.0.fits
stamp_fits rest (TimeMode time mode) x = (x.0.fits, x.1.fits)

pub read_fits : (limit : ℕ) (body : List ℕ) (h : HeaderParts) → Reads limit body (File h) → IsHeader limit h
read_fits limit body h x = record { name = x.safe; length = x.fits; stamp = stamp_fits (behind_length body) h.stamp x.stamp }
