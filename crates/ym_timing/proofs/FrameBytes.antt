-- Bytes that come to a receiver at one moment, one by one and at once.
use Rattle.std.proofs.Common.{◌≡◌, ℕ, ◌+◌, ◌<◌, ◌≤◌, suc, List, [], ◌∷◌, length, get_or, drop, min}
use Rattle.std.proofs.Common.{true, false, ◌++◌, ◌∙◌, ap, refl, arith, add-one}
use Rattle.std.proofs.Math.Seq.{drop-cons}
use Rattle.ym_timing.specs.ByteRows.{bytes_of, heard_of, after_bytes}
use Rattle.ym_timing.specs.Arrivals.{take_byte, take_bytes}
use Rattle.ym_timing.specs.Timing.{is_echo, after_echo, after_byte, said}
use Rattle.ym_heard.specs.declared.hold.Say.{Say}
use Rattle.ym_heard.specs.declared.hold.Say.TheVariants as say
use Rattle.ym_timing.specs.declared.arrivals.Arrivals.{Arrivals}
use Rattle.ym_timing.specs.declared.role.Role.TheVariants.{Receiver}
use Rattle.ym_timing.specs.declared.timing.Timing.{Timing}

-- what so many bytes make of it, once two came
abbrev pub more : ℕ → ℕ → Arrivals → Arrivals
more n now h = record h { count = min (h.count + n) 2048; last = now; is_quiet = false }

pub one-more : (byte now : ℕ) (h : Arrivals) → 2 ≤ h.count → take_byte byte now h ≡ more 1 now h
one-more byte now h two = grind arith

pub and-more : (n now : ℕ) (h : Arrivals) → more n now (more 1 now h) ≡ more (suc n) now h
and-more n now h =
    let e : min (min (h.count + 1) 2048 + n) 2048 ≡ min (h.count + suc n) 2048 = omega arith in
    ap (λ (c : ℕ). let x : Arrivals = record h { count = c; last = now; is_quiet = false } in x) e

pub all-more : (b : ℕ) (bytes : List ℕ) (now : ℕ) (h : Arrivals) → 2 ≤ h.count
    → take_bytes (b ∷ bytes) now h ≡ more (length (b ∷ bytes)) now h
all-more b [] now h two = one-more b now h two
all-more b (c ∷ bytes) now h two =
    let still : 2 ≤ min (h.count + 1) 2048 = omega arith in
    ap (λ (x : Arrivals). take_bytes (c ∷ bytes) now x) (one-more b now h two)
    ∙ (all-more c bytes now (more 1 now h) still ∙ and-more (length (c ∷ bytes)) now h)

pub bytes-more : (bytes : List ℕ) (now : ℕ) (h : Arrivals) → 2 ≤ h.count → 0 < length bytes
    → take_bytes bytes now h ≡ more (length bytes) now h
bytes-more [] now h two some = absurd (omega (arith, some))
bytes-more (b ∷ bytes) now h two some = all-more b bytes now h two

-- the first, and the first two
pub take-one : (bytes : List ℕ) (now : ℕ) (h : Arrivals) → length bytes ≡ 1
    → take_bytes bytes now h ≡ take_byte (get_or bytes 0 0) now h
take-one [] now h one = absurd (omega (arith, one))
take-one (b ∷ []) now h one = refl
take-one (b ∷ c ∷ bytes) now h one = absurd (omega (arith, one))

pub take-two : (bytes : List ℕ) (now : ℕ) (h : Arrivals) → 2 ≤ length bytes
    → take_bytes bytes now h
    ≡ take_bytes (drop 2 bytes) now (take_byte (get_or bytes 1 0) now (take_byte (get_or bytes 0 0) now h))
take-two [] now h two = absurd (omega (arith, two))
take-two (b ∷ []) now h two = absurd (omega (arith, two))
take-two (b ∷ c ∷ bytes) now h two = refl

-- ---- A reply that comes back

-- one byte of it
pub echoes : (b now : ℕ) (reply : List ℕ) (t : Timing) → t.role ≡ Receiver → is_echo b reply t ≡ true
    → after_byte b reply now t ≡ after_echo b reply t
echoes b now reply t is echo = grind (arith, is, echo)

pub echo-said : (b now : ℕ) (reply : List ℕ) (t : Timing) → t.role ≡ Receiver → is_echo b reply t ≡ true
    → said b reply now t ≡ say.Nothing
echo-said b now reply t is echo = grind (arith, is, echo)

pub no-echo : (b now : ℕ) (reply : List ℕ) (t : Timing) → t.role ≡ Receiver → is_echo b reply t ≡ false
    → after_byte b reply now t ≡ record t { heard = take_byte b now t.heard }
no-echo b now reply t is echo = grind (arith, is, echo)

pub no-echo-said : (b now : ℕ) (reply : List ℕ) (t : Timing) → t.role ≡ Receiver → is_echo b reply t ≡ false
    → said b reply now t ≡ say.Byte
no-echo-said b now reply t is echo = grind (arith, is, echo)

pub echo-step : (bytes : List ℕ) (i now : ℕ) (reply : List ℕ) (t : Timing) → i < length bytes
    → t.role ≡ Receiver → is_echo (get_or bytes i 0) reply t ≡ true
    → (after_bytes (drop i bytes) reply now t
    ≡ after_bytes (drop (i + 1) bytes) reply now (after_echo (get_or bytes i 0) reply t))
    × (heard_of (drop i bytes) reply now t
    ≡ heard_of (drop (i + 1) bytes) reply now (after_echo (get_or bytes i 0) reply t))
echo-step bytes i now reply t more is echo =
    let here = drop-cons bytes i 0 more in
    let after = echoes (get_or bytes i 0) now reply t is echo in
    let none = echo-said (get_or bytes i 0) now reply t is echo in (
      rw (add-one, here) (ap (λ (x : Timing). after_bytes (drop (suc i) bytes) reply now x) after),
      rw (add-one, here) (ap (λ (s : Say). bytes_of s (get_or bytes i 0)
          ++ heard_of (drop (suc i) bytes) reply now (after_byte (get_or bytes i 0) reply now t)) none
          ∙ ap (λ (x : Timing). heard_of (drop (suc i) bytes) reply now x) after),
    )

-- ---- What is no reply that comes back

-- behind a byte that was heard no other is an echo
pub take-some : (b now : ℕ) (h : Arrivals) → 0 < (take_byte b now h).count
take-some b now h = grind arith

pub heard-none : (b : ℕ) (reply : List ℕ) (t : Timing) → 0 < t.heard.count → is_echo b reply t ≡ false
heard-none b reply t some = grind arith

pub no-echoes : (b : ℕ) (bytes : List ℕ) (now : ℕ) (reply : List ℕ) (t : Timing) → t.role ≡ Receiver
    → is_echo b reply t ≡ false
    → (after_bytes (b ∷ bytes) reply now t ≡ record t { heard = take_bytes (b ∷ bytes) now t.heard })
    × (heard_of (b ∷ bytes) reply now t ≡ b ∷ bytes)
no-echoes b [] now reply t is none = (
  no-echo b now reply t is none,
  ap (λ (s : Say). bytes_of s b ++ []) (no-echo-said b now reply t is none),
)
no-echoes b (d ∷ bytes) now reply t is none =
    let after = no-echo b now reply t is none in
    let byte = no-echo-said b now reply t is none in
    let next : Timing = record t { heard = take_byte b now t.heard } in
    let rest = no-echoes d bytes now reply next is (heard-none d reply next (take-some b now t.heard)) in (
      ap (λ (x : Timing). after_bytes (d ∷ bytes) reply now x) after ∙ rest.0,
      ap (λ (s : Say). bytes_of s b ++ heard_of (d ∷ bytes) reply now (after_byte b reply now t)) byte
          ∙ (ap (λ (x : Timing). b ∷ heard_of (d ∷ bytes) reply now x) after
          ∙ ap (λ (ys : List ℕ). b ∷ ys) rest.1),
    )

pub no-echo-step : (bytes : List ℕ) (i now : ℕ) (reply : List ℕ) (t : Timing) → i < length bytes
    → t.role ≡ Receiver → is_echo (get_or bytes i 0) reply t ≡ false
    → (after_bytes (drop i bytes) reply now t
    ≡ record t { heard = take_bytes (drop i bytes) now t.heard })
    × (heard_of (drop i bytes) reply now t ≡ drop i bytes)
no-echo-step bytes i now reply t more is none =
    rw (drop-cons bytes i 0 more) (no-echoes (get_or bytes i 0) (drop (suc i) bytes) now reply t is none)
