-- The lines of a record, read back character by character.
use Rattle.std.proofs.Common.{◌≡◌, ◌∙◌, ◌+◌, ◌-◌, ◌*◌, ◌/◌, ◌%◌, ◌^◌, ◌<◌, ◌≤◌, ◌==◌, ◌++◌, ◌∷◌}
use Rattle.std.proofs.Common.{[], ℕ, zero, suc, List, Bool, true, false, if◌then◌else◌}
use Rattle.std.proofs.Common.{Some, None, Result, Ok, refl, sym, ap, append_assoc, arith}
use Rattle.std.specs.Prelude.{All, decimal, nat_le, option_to_list, slice_index}
use Rattle.std.proofs.lemmas.Bool.{le-leb, leb-true, ne_eqb}
use Rattle.std.proofs.lemmas.Fmt.{decimal_by_steps}
use Rattle.std.proofs.lemmas.List.{append-nil}
use Rattle.std.proofs.lemmas.List.Elements.{All-head, All-tail}
use Rattle.hex.specs.Hex.{encode_lower, encode_with, lower_digits}
use Rattle.ym_inspect.specs.CaptureTold.{tagged}
use Rattle.ym_inspect.specs.Recorded.{after_char, at_start, capped, digit_value, goes_to, in_bytes}
use Rattle.ym_inspect.specs.Recorded.{in_fraction, in_seconds, with_high, with_low}
use Rattle.ym_inspect.specs.RecordRead.{SoMuch, and_char, and_chars, at_record_end, behind_char}
use Rattle.ym_inspect.specs.RecordRead.{behind_line, further, recorded, so_much}
use Rattle.ym_inspect.specs.declared.fault.InspectFault.{InspectFault}
use Rattle.ym_inspect.specs.declared.in_line.InLine.{InLine}
use Rattle.ym_inspect.specs.declared.in_line.InLine.TheVariants as line
use Rattle.ym_inspect.specs.declared.in_line.Stepped.{Stepped}
use Rattle.ym_told.specs.declared.way.Direction.{Direction}
use Rattle.ym_told.specs.declared.way.Direction.TheVariants.{There, Back}
use Rattle.ym_inspect.specs.RecordBack.{bytes_of}
use Rattle.ym_capture.specs.RecordText.{Piece, IsPiece, fraction, head_of, last_digit, line_of}
use Rattle.ym_capture.specs.RecordText.{mark, moment_text, text_of}
use Rattle.ym_inspect.proofs.RecordLemmas.{chars_append}

-- ---- One character

-- a character that ends no line
further_by : (state : InLine) (c number : ℕ) (buffered : List ℕ) (read : List (Direction × ℕ))
    (new : Stepped) → (c ≡ 10 → ⊥)
    → behind_char (so_much state number buffered read) c (Ok new)
    ≡ Ok (so_much new.state number (buffered ++ option_to_list new.byte) read)
further_by state c number buffered read new ne =
    ap (λ (b : Bool). Ok (if b then behind_line (so_much state number buffered read) new.state
    else further (so_much state number buffered read) new)) (ne_eqb c 10 ne)

-- and that completes no byte
passes : (state new : InLine) (c number : ℕ) (buffered : List ℕ) (read : List (Direction × ℕ))
    → after_char state c ≡ goes_to new → (c ≡ 10 → ⊥)
    → and_char (Ok (so_much state number buffered read)) c ≡ Ok (so_much new number buffered read)
passes state new c number buffered read e ne =
    ap (behind_char (so_much state number buffered read) c) e
    ∙ further_by state c number buffered read (record { state = new; byte = None }) ne
    ∙ ap (λ (bs : List ℕ). Ok (so_much new number bs read)) (append-nil buffered)

uncapped : (n : ℕ) → n < 2 ^ 64 → capped n ≡ n
uncapped n h = omega arith

-- ---- Seconds

first_digit : (d number : ℕ) (buffered : List ℕ) (read : List (Direction × ℕ)) → d < 10
    → and_char (Ok (so_much line.Start number buffered read)) (48 + d)
    ≡ Ok (so_much (line.Seconds (d * 1000000)) number buffered read)
first_digit d number buffered read h =
    let low : nat_le 48 (48 + d) ≡ true = le-leb 48 (48 + d) (omega arith) in
    let high : nat_le (48 + d) 57 ≡ true = le-leb (48 + d) 57 (omega arith) in
    let value : 48 + d - 48 ≡ d = omega arith in
    let e : at_start (48 + d) ≡ goes_to (line.Seconds (d * 1000000)) = rw (low, high, value) refl in
    passes line.Start (line.Seconds (d * 1000000)) (48 + d) number buffered read e (λ ten. omega arith)

next_digit : (n d number : ℕ) (buffered : List ℕ) (read : List (Direction × ℕ)) → d < 10
    → (n * 10 + d) * 1000000 < 2 ^ 64
    → and_char (Ok (so_much (line.Seconds (n * 1000000)) number buffered read)) (48 + d)
    ≡ Ok (so_much (line.Seconds ((n * 10 + d) * 1000000)) number buffered read)
next_digit n d number buffered read h fits =
    let low : nat_le 48 (48 + d) ≡ true = le-leb 48 (48 + d) (omega arith) in
    let high : nat_le (48 + d) 57 ≡ true = le-leb (48 + d) 57 (omega arith) in
    let value : 48 + d - 48 ≡ d = omega arith in
    let tens = uncapped (n * 1000000 * 10) (omega arith) in
    let all = uncapped (n * 1000000 * 10 + d * 1000000) (omega arith) in
    let sum : n * 1000000 * 10 + d * 1000000 ≡ (n * 10 + d) * 1000000 = omega arith in
    let e : in_seconds (n * 1000000) (48 + d) ≡ goes_to (line.Seconds ((n * 10 + d) * 1000000)) =
    rw (low, high, value, tens, all, sum) refl in
    passes (line.Seconds (n * 1000000)) (line.Seconds ((n * 10 + d) * 1000000)) (48 + d) number buffered read e
    (λ ten. omega arith)

-- these digits are those of a number of seconds
abbrev AreSeconds : ℕ → List ℕ → Type 0
AreSeconds n ds =
    (number : ℕ) (buffered : List ℕ) (read : List (Direction × ℕ)) → n * 1000000 < 2 ^ 64
    → and_chars (Ok (so_much line.Start number buffered read)) ds
    ≡ Ok (so_much (line.Seconds (n * 1000000)) number buffered read)

one_digit : (n : ℕ) → n < 10 → AreSeconds n ((48 + n) ∷ [])
one_digit n h = λ number buffered read fits. first_digit n number buffered read h

more_digits : (n : ℕ) (ds : List ℕ) → 10 ≤ n → AreSeconds (n / 10) ds
    → AreSeconds n (ds ++ (48 + n % 10) ∷ [])
more_digits n ds large before = λ number buffered read fits.
    let whole : n / 10 * 10 + n % 10 ≡ n = omega arith in
    let prefix : n / 10 * 1000000 < 2 ^ 64 = omega arith in
    let last : n % 10 < 10 = omega arith in
    chars_append (Ok (so_much line.Start number buffered read)) ds ((48 + n % 10) ∷ [])
    ∙ ap (λ (much : Result SoMuch InspectFault). and_char much (48 + n % 10)) (before number buffered read prefix)
    ∙ next_digit (n / 10) (n % 10) number buffered read last (omega arith)
    ∙ ap (λ (m : ℕ). Ok (so_much (line.Seconds (m * 1000000)) number buffered read)) whole

seconds_read : (n number : ℕ) (buffered : List ℕ) (read : List (Direction × ℕ)) → n * 1000000 < 2 ^ 64
    → and_chars (Ok (so_much line.Start number buffered read)) (decimal n)
    ≡ Ok (so_much (line.Seconds (n * 1000000)) number buffered read)
seconds_read n number buffered read fits =
    decimal_by_steps AreSeconds one_digit more_digits n (omega arith) number buffered read fits

-- ---- Behind the point

fraction_digit : (m unit d number : ℕ) (buffered : List ℕ) (read : List (Direction × ℕ)) → d < 10
    → m + unit * d < 2 ^ 64
    → and_char (Ok (so_much (line.Fraction m unit) number buffered read)) (48 + d)
    ≡ Ok (so_much (line.Fraction (m + unit * d) (unit / 10)) number buffered read)
fraction_digit m unit d number buffered read h fits =
    let low : nat_le 48 (48 + d) ≡ true = le-leb 48 (48 + d) (omega arith) in
    let high : nat_le (48 + d) 57 ≡ true = le-leb (48 + d) 57 (omega arith) in
    let value : 48 + d - 48 ≡ d = omega arith in
    let more = uncapped (unit * d) (omega arith) in
    let all = uncapped (m + unit * d) fits in
    let e : in_fraction m unit (48 + d) ≡ goes_to (line.Fraction (m + unit * d) (unit / 10)) =
    rw (low, high, value, more, all) refl in
    passes (line.Fraction m unit) (line.Fraction (m + unit * d) (unit / 10)) (48 + d) number buffered read e
    (λ ten. omega arith)

abbrev sixth : ℕ → ℕ → ℕ → ℕ → ℕ → ℕ → ℕ → ℕ
sixth m a b c d e f =
    m + 100000 * a + 10000 * b + 1000 * c + 100 * d + 10 * e + 1 * f

six_digits : (m a b c d e f number : ℕ) (buffered : List ℕ) (read : List (Direction × ℕ)) → a < 10 → b < 10 → c < 10
    → d < 10 → e < 10 → f < 10 → sixth m a b c d e f < 2 ^ 64
    → and_chars (Ok (so_much (line.Fraction m 100000) number buffered read))
    ((48 + a) ∷ (48 + b) ∷ (48 + c) ∷ (48 + d) ∷ (48 + e) ∷ (48 + f) ∷ [])
    ≡ Ok (so_much (line.Fraction (sixth m a b c d e f) 0) number buffered read)
six_digits m a b c d e f number buffered read ha hb hc hd he hf fits =
    ap (λ (x : Result SoMuch InspectFault).
    and_chars x ((48 + b) ∷ (48 + c) ∷ (48 + d) ∷ (48 + e) ∷ (48 + f) ∷ []))
    (fraction_digit m 100000 a number buffered read ha (omega arith))
    ∙ ap (λ (x : Result SoMuch InspectFault).
    and_chars x ((48 + c) ∷ (48 + d) ∷ (48 + e) ∷ (48 + f) ∷ []))
    (fraction_digit (m + 100000 * a) 10000 b number buffered read hb (omega arith))
    ∙ ap (λ (x : Result SoMuch InspectFault). and_chars x ((48 + d) ∷ (48 + e) ∷ (48 + f) ∷ []))
    (fraction_digit (m + 100000 * a + 10000 * b) 1000 c number buffered read hc (omega arith))
    ∙ ap (λ (x : Result SoMuch InspectFault). and_chars x ((48 + e) ∷ (48 + f) ∷ []))
    (fraction_digit (m + 100000 * a + 10000 * b + 1000 * c) 100 d number buffered read hd (omega arith))
    ∙ ap (λ (x : Result SoMuch InspectFault). and_chars x ((48 + f) ∷ []))
    (fraction_digit (m + 100000 * a + 10000 * b + 1000 * c + 100 * d) 10 e number buffered read he (omega arith))
    ∙ fraction_digit (m + 100000 * a + 10000 * b + 1000 * c + 100 * d + 10 * e) 1 f number buffered read hf
    (omega arith)

-- ---- A moment

-- a number by its last six digits and what stands before them
by_digits : (n q1 q2 q3 q4 q5 q6 a b c d e f : ℕ) → n ≡ 10 * q1 + f → q1 ≡ 10 * q2 + e
    → q2 ≡ 10 * q3 + d → q3 ≡ 10 * q4 + c → q4 ≡ 10 * q5 + b → q5 ≡ 10 * q6 + a
    → sixth (q6 * 1000000) a b c d e f ≡ n
by_digits n q1 q2 q3 q4 q5 q6 a b c d e f h1 h2 h3 h4 h5 h6 = omega arith

digits_of_micros : (n : ℕ)
    → sixth (n / 1000000 * 1000000) (n / 100000 % 10) (n / 10000 % 10) (n / 1000 % 10)
    (n / 100 % 10) (n / 10 % 10) (n % 10) ≡ n
digits_of_micros n =
    let h1 : n ≡ 10 * (n / 10) + n % 10 = omega arith in
    let h2 : n / 10 ≡ 10 * (n / 100) + n / 10 % 10 = omega arith in
    let h3 : n / 100 ≡ 10 * (n / 1000) + n / 100 % 10 = omega arith in
    let h4 : n / 1000 ≡ 10 * (n / 10000) + n / 1000 % 10 = omega arith in
    let h5 : n / 10000 ≡ 10 * (n / 100000) + n / 10000 % 10 = omega arith in
    let h6 : n / 100000 ≡ 10 * (n / 1000000) + n / 100000 % 10 = omega arith in
    by_digits n (n / 10) (n / 100) (n / 1000) (n / 10000) (n / 100000) (n / 1000000) _ _ _ _ _ _
    h1 h2 h3 h4 h5 h6

below_ten : (n : ℕ) → n % 10 < 10
below_ten n = omega arith

point_read : (m number : ℕ) (buffered : List ℕ) (read : List (Direction × ℕ))
    → and_char (Ok (so_much (line.Seconds m) number buffered read)) 0x2e
    ≡ Ok (so_much (line.Fraction m 100000) number buffered read)
point_read m number buffered read =
    passes (line.Seconds m) (line.Fraction m 100000) 0x2e number buffered read refl (λ ten. omega arith)

fraction_read : (n number : ℕ) (buffered : List ℕ) (read : List (Direction × ℕ)) → n < 2 ^ 64
    → and_chars (Ok (so_much (line.Seconds (n / 1000000 * 1000000)) number buffered read)) (fraction n)
    ≡ Ok (so_much (line.Fraction n 0) number buffered read)
fraction_read n number buffered read fits =
    let whole = digits_of_micros n in
    let digits : List ℕ = last_digit (n / 100000) ∷ last_digit (n / 10000) ∷ last_digit (n / 1000)
    ∷ last_digit (n / 100) ∷ last_digit (n / 10) ∷ last_digit n ∷ [] in
    ap (λ (x : Result SoMuch InspectFault). and_chars x digits)
    (point_read (n / 1000000 * 1000000) number buffered read)
    ∙ six_digits (n / 1000000 * 1000000) (n / 100000 % 10) (n / 10000 % 10) (n / 1000 % 10)
    (n / 100 % 10) (n / 10 % 10) (n % 10) number buffered read (below_ten _) (below_ten _) (below_ten _)
    (below_ten _) (below_ten _) (below_ten _) (rw whole fits)
    ∙ ap (λ (m : ℕ). Ok (so_much (line.Fraction m 0) number buffered read)) whole

moment_read : (n number : ℕ) (buffered : List ℕ) (read : List (Direction × ℕ)) → n < 2 ^ 64
    → and_chars (Ok (so_much line.Start number buffered read)) (moment_text n)
    ≡ Ok (so_much (line.Fraction n 0) number buffered read)
moment_read n number buffered read fits =
    chars_append (Ok (so_much line.Start number buffered read)) (decimal (n / 1000000)) (fraction n)
    ∙ ap (λ (x : Result SoMuch InspectFault). and_chars x (fraction n))
    (seconds_read (n / 1000000) number buffered read (omega arith))
    ∙ fraction_read n number buffered read fits

mark_read : (n : ℕ) (way : Direction) (number : ℕ) (buffered : List ℕ) (read : List (Direction × ℕ))
    → and_chars (Ok (so_much (line.Fraction n 0) number buffered read)) (mark way)
    ≡ Ok (so_much (line.Bytes n way) number buffered read)
mark_read n There number buffered read =
    ap (λ (x : Result SoMuch InspectFault). and_chars x (0x3e ∷ 0x20 ∷ []))
    (passes (line.Fraction n 0) (line.Moment n) 0x20 number buffered read refl (λ ten. omega arith))
    ∙ ap (λ (x : Result SoMuch InspectFault). and_char x 0x20)
    (passes (line.Moment n) (line.Bytes n There) 0x3e number buffered read refl (λ ten. omega arith))
    ∙ passes (line.Bytes n There) (line.Bytes n There) 0x20 number buffered read refl (λ ten. omega arith)
mark_read n Back number buffered read =
    ap (λ (x : Result SoMuch InspectFault). and_chars x (0x3c ∷ 0x20 ∷ []))
    (passes (line.Fraction n 0) (line.Moment n) 0x20 number buffered read refl (λ ten. omega arith))
    ∙ ap (λ (x : Result SoMuch InspectFault). and_char x 0x20)
    (passes (line.Moment n) (line.Bytes n Back) 0x3c number buffered read refl (λ ten. omega arith))
    ∙ passes (line.Bytes n Back) (line.Bytes n Back) 0x20 number buffered read refl (λ ten. omega arith)

pub head_read : (n : ℕ) (way : Direction) (number : ℕ) (buffered : List ℕ) (read : List (Direction × ℕ)) → n < 2 ^ 64
    → and_chars (Ok (so_much line.Start number buffered read)) (head_of n way)
    ≡ Ok (so_much (line.Bytes n way) number buffered read)
head_read n way number buffered read fits =
    chars_append (Ok (so_much line.Start number buffered read)) (moment_text n) (mark way)
    ∙ ap (λ (x : Result SoMuch InspectFault). and_chars x (mark way)) (moment_read n number buffered read fits)
    ∙ mark_read n way number buffered read

-- ---- Bytes

-- a digit of this value, which is no space and no end of a line
record IsDigitOf (k c : ℕ) : Type 0 where
  value : digit_value c ≡ Some k
  printed : 48 ≤ c

digit_at : (k : ℕ) → k < 16 → IsDigitOf k (slice_index lower_digits k)
digit_at zero h = record { value = refl; printed = leb-true 48 _ refl }
digit_at (suc zero) h = record { value = refl; printed = leb-true 48 _ refl }
digit_at (suc (suc zero)) h = record { value = refl; printed = leb-true 48 _ refl }
digit_at (suc (suc (suc zero))) h = record { value = refl; printed = leb-true 48 _ refl }
digit_at (suc (suc (suc (suc zero)))) h = record { value = refl; printed = leb-true 48 _ refl }
digit_at (suc (suc (suc (suc (suc zero))))) h =
    record { value = refl; printed = leb-true 48 _ refl }
digit_at (suc (suc (suc (suc (suc (suc zero)))))) h =
    record { value = refl; printed = leb-true 48 _ refl }
digit_at (suc (suc (suc (suc (suc (suc (suc zero))))))) h =
    record { value = refl; printed = leb-true 48 _ refl }
digit_at (suc (suc (suc (suc (suc (suc (suc (suc zero)))))))) h =
    record { value = refl; printed = leb-true 48 _ refl }
digit_at (suc (suc (suc (suc (suc (suc (suc (suc (suc zero))))))))) h =
    record { value = refl; printed = leb-true 48 _ refl }
digit_at (suc (suc (suc (suc (suc (suc (suc (suc (suc (suc zero)))))))))) h =
    record { value = refl; printed = leb-true 48 _ refl }
digit_at (suc (suc (suc (suc (suc (suc (suc (suc (suc (suc (suc zero))))))))))) h =
    record { value = refl; printed = leb-true 48 _ refl }
digit_at (suc (suc (suc (suc (suc (suc (suc (suc (suc (suc (suc (suc zero)))))))))))) h =
    record { value = refl; printed = leb-true 48 _ refl }
digit_at (suc (suc (suc (suc (suc (suc (suc (suc (suc (suc (suc (suc (suc zero))))))))))))) h =
    record { value = refl; printed = leb-true 48 _ refl }
digit_at (suc (suc (suc (suc (suc (suc (suc (suc (suc (suc (suc (suc (suc (suc zero)))))))))))))) h =
    record { value = refl; printed = leb-true 48 _ refl }
digit_at (suc (suc (suc (suc (suc (suc (suc (suc (suc (suc (suc (suc (suc (suc (suc zero))))))))))))))) h =
    record { value = refl; printed = leb-true 48 _ refl }
digit_at (suc (suc (suc (suc (suc (suc (suc (suc (suc (suc (suc (suc (suc (suc (suc (suc k)))))))))))))))) h =
    absurd (omega arith)

high_read : (n : ℕ) (way : Direction) (c k number : ℕ) (buffered : List ℕ) (read : List (Direction × ℕ)) → IsDigitOf k c
    → and_char (Ok (so_much (line.Bytes n way) number buffered read)) c
    ≡ Ok (so_much (line.Half n way k) number buffered read)
high_read n way c k number buffered read is =
    let above = is.printed in
    let space : (c == 32) ≡ false = ne_eqb c 32 (λ e. omega arith) in
    let back : (c == 13) ≡ false = ne_eqb c 13 (λ e. omega arith) in
    let end : (c == 10) ≡ false = ne_eqb c 10 (λ e. omega arith) in
    let e : in_bytes n way c ≡ with_high n way (digit_value c) = rw (space, back, end) refl in
    passes (line.Bytes n way) (line.Half n way k) c number buffered read (e ∙ ap (with_high n way) is.value)
    (λ ten. omega arith)

low_read : (n : ℕ) (way : Direction) (high c k number : ℕ) (buffered : List ℕ) (read : List (Direction × ℕ)) → IsDigitOf k c
    → and_char (Ok (so_much (line.Half n way high) number buffered read)) c
    ≡ Ok (so_much (line.Bytes n way) number (buffered ++ (high % 16 * 16 + k % 16) ∷ []) read)
low_read n way high c k number buffered read is =
    let above = is.printed in
    ap (behind_char (so_much (line.Half n way high) number buffered read) c) (ap (with_low n way high c) is.value)
    ∙ further_by (line.Half n way high) c number buffered read
    (record { state = line.Bytes n way; byte = Some (high % 16 * 16 + k % 16) }) (λ ten. omega arith)

abbrev IsByte : ℕ → Type 0
IsByte byte = byte < 256

byte_read : (n : ℕ) (way : Direction) (b number : ℕ) (buffered : List ℕ) (read : List (Direction × ℕ)) → b < 256
    → and_chars (Ok (so_much (line.Bytes n way) number buffered read))
    (slice_index lower_digits (b / 16) ∷ slice_index lower_digits (b % 16) ∷ [])
    ≡ Ok (so_much (line.Bytes n way) number (buffered ++ b ∷ []) read)
byte_read n way b number buffered read h =
    let high : b / 16 < 16 = omega arith in
    let low : b % 16 < 16 = omega arith in
    let whole : b / 16 % 16 * 16 + b % 16 % 16 ≡ b = omega arith in
    ap (λ (x : Result SoMuch InspectFault). and_char x (slice_index lower_digits (b % 16)))
    (high_read n way (slice_index lower_digits (b / 16)) (b / 16) number buffered read (digit_at (b / 16) high))
    ∙ low_read n way (b / 16) (slice_index lower_digits (b % 16)) (b % 16) number buffered read
    (digit_at (b % 16) low)
    ∙ ap (λ (v : ℕ). Ok (so_much (line.Bytes n way) number (buffered ++ v ∷ []) read)) whole

hex_read : (n : ℕ) (way : Direction) (bytes : List ℕ) (number : ℕ) (buffered : List ℕ) (read : List (Direction × ℕ))
    → All IsByte bytes
    → and_chars (Ok (so_much (line.Bytes n way) number buffered read)) (encode_lower bytes)
    ≡ Ok (so_much (line.Bytes n way) number (buffered ++ bytes) read)
unfolding encode_with
hex_read n way [] number buffered read h =
    ap (λ (bs : List ℕ). Ok (so_much (line.Bytes n way) number bs read)) (sym (append-nil buffered))
hex_read n way (b ∷ rest) number buffered read h =
    ap (λ (x : Result SoMuch InspectFault). and_chars x (encode_lower rest))
    (byte_read n way b number buffered read (All-head IsByte b rest h))
    ∙ hex_read n way rest number (buffered ++ b ∷ []) read (All-tail IsByte b rest h)
    ∙ ap (λ (bs : List ℕ). Ok (so_much (line.Bytes n way) number bs read)) (append_assoc buffered (b ∷ []) rest)

-- ---- Lines

end_read : (n : ℕ) (way : Direction) (number : ℕ) (buffered : List ℕ) (read : List (Direction × ℕ))
    → and_char (Ok (so_much (line.Bytes n way) number buffered read)) 10
    ≡ Ok (so_much line.Start (capped (number + 1)) [] (read ++ tagged way buffered))
end_read n way number buffered read = refl

line_read : (p : Piece) (number : ℕ) (read : List (Direction × ℕ)) → IsPiece p
    → and_chars (Ok (so_much line.Start number [] read)) (line_of p.at p.way p.bytes)
    ≡ Ok (so_much line.Start (capped (number + 1)) [] (read ++ tagged p.way p.bytes))
unfolding line_of
line_read p number read h =
    chars_append (Ok (so_much line.Start number [] read)) (head_of p.at p.way) (encode_lower p.bytes ++ 10 ∷ [])
    ∙ ap (λ (x : Result SoMuch InspectFault). and_chars x (encode_lower p.bytes ++ 10 ∷ []))
    (head_read p.at p.way number [] read h.0)
    ∙ chars_append (Ok (so_much (line.Bytes p.at p.way) number [] read)) (encode_lower p.bytes) (10 ∷ [])
    ∙ ap (λ (x : Result SoMuch InspectFault). and_char x 10)
    (hex_read p.at p.way p.bytes number [] read h.1)
    ∙ end_read p.at p.way number p.bytes read

text_read : (pieces : List Piece) (number : ℕ) (read : List (Direction × ℕ)) → All IsPiece pieces
    → (n : ℕ) × (and_chars (Ok (so_much line.Start number [] read)) (text_of pieces)
    ≡ Ok (so_much line.Start n [] (read ++ bytes_of pieces)))
text_read [] number read h = (
  number,
  ap (λ (zs : List (Direction × ℕ)). Ok (so_much line.Start number [] zs)) (sym (append-nil read)),
)
text_read (p ∷ more) number read h =
    let ours = line_of p.at p.way p.bytes in
    let rest = text_read more (capped (number + 1)) (read ++ tagged p.way p.bytes) (All-tail IsPiece p more h) in (
      rest.0,
      chars_append (Ok (so_much line.Start number [] read)) ours (text_of more)
          ∙ ap (λ (x : Result SoMuch InspectFault). and_chars x (text_of more))
          (line_read p number read (All-head IsPiece p more h))
          ∙ rest.1
          ∙ ap (λ (zs : List (Direction × ℕ)). Ok (so_much line.Start rest.0 [] zs))
          (append_assoc read (tagged p.way p.bytes) (bytes_of more)),
    )

pub record_read : (pieces : List Piece) → All IsPiece pieces → recorded (text_of pieces) ≡ Ok (bytes_of pieces)
record_read pieces h = ap at_record_end (text_read pieces 1 [] h).1
