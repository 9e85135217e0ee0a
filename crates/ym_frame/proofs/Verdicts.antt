-- The verdict of any bytes by its cases, and what more bytes behind them change.
use Rattle.std.specs.Prelude.{◌≡◌, ℕ, ◌+◌, ◌-◌, ◌<◌, ◌≤◌, Bool, true, false, not, nat_lt, ◌==◌, List, [], ◌∷◌, ◌++◌, length, take, drop, slice_index, Ok, Err, refl}
use Rattle.std.proofs.Common.{◌∙◌, ap, arith, length-append, length-drop}
use Rattle.std.proofs.Math.ListN.{get_or-append}
use Rattle.std.proofs.lemmas.Bool.{and_parts, ltb-true, ltb-false, le-ltb, lt-ltb, eqb-true}
use Rattle.std.proofs.lemmas.List.{take-append-le, drop-append-le}
use Rattle.ym_frame.proofs.Names.{check_of, IsOpen, verdict_of, block_verdict, cancel_verdict, body_of, check_field, fault_at, Block, FirstByte, Complement, Check, Cut}
use Rattle.ym_frame.specs.Frame.{has_byte_where}

-- ---- a block's verdict, by its four cases
abbrev pub wrong_at : List ℕ → Bool
wrong_at bytes = has_byte_where bytes 2 (λ b. not (b == 255 - slice_index bytes 1))

wrong_longer : (bytes : List ℕ) → wrong_at bytes ≡ true → 2 < length bytes
wrong_longer bytes h = ltb-true 2 (length bytes) (and_parts (nat_lt 2 (length bytes)) _ h).0

pub data BlockCase (size : ℕ) (bytes : List ℕ) : Type 0 where
  wrong : wrong_at bytes ≡ true → block_verdict size bytes ≡ Err (fault_at 2 Complement) → BlockCase size bytes
  cut : wrong_at bytes ≡ false → length bytes < size + 5 → block_verdict size bytes ≡ Err (fault_at (length bytes) Cut) → BlockCase size bytes
  good : wrong_at bytes ≡ false → size + 5 ≤ length bytes → check_of (body_of size bytes) ≡ check_field size bytes →
      block_verdict size bytes ≡ Ok (Block (record { number = slice_index bytes 1; body = body_of size bytes }), size + 5) → BlockCase size bytes
  bad : wrong_at bytes ≡ false → size + 5 ≤ length bytes → (check_of (body_of size bytes) == check_field size bytes) ≡ false →
      block_verdict size bytes ≡ Err (fault_at (size + 3) Check) → BlockCase size bytes

cases_by : (size : ℕ) (bytes : List ℕ) (w s m : Bool) → wrong_at bytes ≡ w → nat_lt (length bytes) (size + 5) ≡ s → (check_of (body_of size bytes) == check_field size bytes) ≡ m → BlockCase size bytes
cases_by size bytes true s m w l e = wrong w (rw w refl)
cases_by size bytes false true m w l e = cut w (ltb-true (length bytes) (size + 5) l) (rw (w, l) refl)
cases_by size bytes false false true w l e = good w (ltb-false (length bytes) (size + 5) l) (eqb-true (check_of (body_of size bytes)) (check_field size bytes) e) (rw (w, l, e) refl)
cases_by size bytes false false false w l e = bad w (ltb-false (length bytes) (size + 5) l) e (rw (w, l, e) refl)

pub block_case : (size : ℕ) (bytes : List ℕ) → BlockCase size bytes
block_case size bytes = cases_by size bytes (wrong_at bytes) (nat_lt (length bytes) (size + 5)) (check_of (body_of size bytes) == check_field size bytes) refl refl refl

-- ---- more bytes behind
pub wrong_more : (bytes more : List ℕ) → 2 < length bytes → wrong_at (bytes ++ more) ≡ wrong_at bytes
wrong_more bytes more h =
    let longer : 2 < length (bytes ++ more) = omega (arith, length-append bytes more) in
    let first : nat_lt 2 (length (bytes ++ more)) ≡ true = lt-ltb 2 (length (bytes ++ more)) longer in
    let second : nat_lt 2 (length bytes) ≡ true = lt-ltb 2 (length bytes) h in
    let third : slice_index (bytes ++ more) 2 ≡ slice_index bytes 2 = get_or-append bytes more 0 2 h in
    let fourth : slice_index (bytes ++ more) 1 ≡ slice_index bytes 1 = get_or-append bytes more 0 1 (omega arith) in
    rw (first, second, third, fourth) refl

pub body_of-more : (size : ℕ) (bytes more : List ℕ) → size + 3 ≤ length bytes → body_of size (bytes ++ more) ≡ body_of size bytes
body_of-more size bytes more h =
    ap (take size) (drop-append-le 3 bytes more (omega arith)) ∙
    take-append-le size (drop 3 bytes) more (omega (arith, length-drop 3 bytes))

pub block_more : (size : ℕ) (bytes more : List ℕ) → size + 5 ≤ length bytes → block_verdict size (bytes ++ more) ≡ block_verdict size bytes
block_more size bytes more h =
    let wrong_same : wrong_at (bytes ++ more) ≡ wrong_at bytes = wrong_more bytes more (omega arith) in
    let first : nat_lt (length (bytes ++ more)) (size + 5) ≡ false = le-ltb (length (bytes ++ more)) (size + 5) (omega (arith, length-append bytes more)) in
    let second : nat_lt (length bytes) (size + 5) ≡ false = le-ltb (length bytes) (size + 5) h in
    let number : slice_index (bytes ++ more) 1 ≡ slice_index bytes 1 = get_or-append bytes more 0 1 (omega arith) in
    let high : slice_index (bytes ++ more) (size + 3) ≡ slice_index bytes (size + 3) = get_or-append bytes more 0 (size + 3) (omega arith) in
    let low : slice_index (bytes ++ more) (size + 4) ≡ slice_index bytes (size + 4) = get_or-append bytes more 0 (size + 4) (omega arith) in
    let body : body_of size (bytes ++ more) ≡ body_of size bytes = body_of-more size bytes more (omega arith) in
    rw (wrong_same, first, second, number, high, low, body) refl

-- ---- the verdict of any bytes, by its first byte
pub data FirstCase (bytes : List ℕ) : Type 0 where
  nothing : bytes ≡ [] → FirstCase bytes
  eot : (more : List ℕ) → bytes ≡ 0x04 ∷ more → FirstCase bytes
  can : (more : List ℕ) → bytes ≡ 0x18 ∷ more → FirstCase bytes
  soh : (more : List ℕ) → bytes ≡ 0x01 ∷ more → FirstCase bytes
  stx : (more : List ℕ) → bytes ≡ 0x02 ∷ more → FirstCase bytes
  other : (first : ℕ) (more : List ℕ) → bytes ≡ first ∷ more →
      (first == 0x04) ≡ false → (first == 0x18) ≡ false → (first == 0x01) ≡ false → (first == 0x02) ≡ false → FirstCase bytes

first_by : (first : ℕ) (more : List ℕ) (e c s l : Bool) → (first == 0x04) ≡ e → (first == 0x18) ≡ c → (first == 0x01) ≡ s → (first == 0x02) ≡ l → FirstCase (first ∷ more)
first_by first more true c s l ee ce se le = eot more (ap (λ b. b ∷ more) (eqb-true first 0x04 ee))
first_by first more false true s l ee ce se le = can more (ap (λ b. b ∷ more) (eqb-true first 0x18 ce))
first_by first more false false true l ee ce se le = soh more (ap (λ b. b ∷ more) (eqb-true first 0x01 se))
first_by first more false false false true ee ce se le = stx more (ap (λ b. b ∷ more) (eqb-true first 0x02 le))
first_by first more false false false false ee ce se le = other first more refl ee ce se le

pub first_case : (bytes : List ℕ) → FirstCase bytes
first_case [] = nothing refl
first_case (first ∷ more) = first_by first more (first == 0x04) (first == 0x18) (first == 0x01) (first == 0x02) refl refl refl refl

-- another first byte
pub other_verdict : (first : ℕ) (more : List ℕ) → (first == 0x04) ≡ false → (first == 0x18) ≡ false → (first == 0x01) ≡ false → (first == 0x02) ≡ false →
    verdict_of (first ∷ more) ≡ Err (fault_at 0 FirstByte)
unfolding verdict_of
other_verdict first more e c s l = rw (e, c, s, l) refl

-- ---- what is not open stays
pub block_stays : (size : ℕ) (bytes more : List ℕ) → (IsOpen (block_verdict size bytes) → ⊥) → block_verdict size (bytes ++ more) ≡ block_verdict size bytes
block_stays size bytes more shut =
    elim (block_case size bytes) [
      | wrong w e ↦ rw (wrong_more bytes more (wrong_longer bytes w), w) refl
      | cut w l e ↦ absurd (shut (rw e refl))
      | good w l m e ↦ block_more size bytes more l
      | bad w l m e ↦ block_more size bytes more l
    ]

cancel_stays : (bytes more : List ℕ) → (IsOpen (cancel_verdict bytes) → ⊥) → cancel_verdict (bytes ++ more) ≡ cancel_verdict bytes
cancel_stays [] more shut = absurd (shut refl)
cancel_stays (second ∷ bytes) more shut = refl

stays_at : (bytes : List ℕ) → FirstCase bytes → (more : List ℕ) → (IsOpen (verdict_of bytes) → ⊥) → verdict_of (bytes ++ more) ≡ verdict_of bytes
unfolding verdict_of
stays_at bytes (nothing e) more shut = absurd (shut (rw e refl))
stays_at bytes (eot rest e) more shut = rw e refl
stays_at bytes (can rest e) more shut = rw e (cancel_stays rest more (rw e at shut))
stays_at bytes (soh rest e) more shut = rw e (block_stays 128 (0x01 ∷ rest) more (rw e at shut))
stays_at bytes (stx rest e) more shut = rw e (block_stays 1024 (0x02 ∷ rest) more (rw e at shut))
stays_at bytes (other first rest e a b c d) more shut = rw (e, a, b, c, d) refl

pub verdict_stays : (bytes more : List ℕ) → (IsOpen (verdict_of bytes) → ⊥) → verdict_of (bytes ++ more) ≡ verdict_of bytes
verdict_stays bytes more shut = stays_at bytes (first_case bytes) more shut
