-- An echo that goes on is dropped byte by byte.
use Rattle.std.proofs.Common.{◌≡◌, ℕ, ◌+◌, ◌-◌, ◌<◌, ◌^◌, List, [], ◌∷◌, ◌++◌, length, get_or}
use Rattle.std.proofs.Common.{true, false, not, ◌&&◌, ◌∙◌, ap, refl, arith}
use Rattle.std.proofs.lemmas.Grind.{common_steps}
use Rattle.std.proofs.Math.Seq.{get_or-append_seam}
use Rattle.ym_heard.specs.Echoes.{block_of, ear_after, none_heard, IsDropped}
use Rattle.ym_heard.specs.Ear.{listen, rested, is_first, other}
use Rattle.ym_heard.specs.declared.ear.Ear.{Ear}
use Rattle.ym_heard.specs.declared.ear.Echo.{Echo}
use Rattle.ym_heard.specs.declared.ear.Echo.TheVariants.{Open, Head, Number, Goes}
use Rattle.ym_heard.specs.declared.ear.Listened.{Listened}

abbrev pub ear_at : Echo → ℕ → ℕ → Ear
ear_at echo others now = record { echo = echo; others = others; at = now }

abbrev pub deaf_at : Echo → ℕ → ℕ → Listened
deaf_at echo others now = record { ear = ear_at echo others now; is_heard = false }

-- no time passed
pub not-rested : (echo : Echo) (others now : ℕ) → now + 1000 < 2 ^ 64
    → rested now (ear_at echo others now) ≡ ear_at echo others now
not-rested echo others now small = grind arith

pub goes-on : (place b others now : ℕ) (frame : List ℕ) → now + 1000 < 2 ^ 64
    → place + 1 < length frame → get_or frame place 0 ≡ b
    → listen b frame now (ear_at (Goes place) others now) ≡ deaf_at (Goes (place + 1)) others now
goes-on place b others now frame small more here = grind (arith, not-rested)

pub goes-out : (place b others now : ℕ) (frame : List ℕ) → now + 1000 < 2 ^ 64
    → place + 1 ≡ length frame → get_or frame place 0 ≡ b
    → listen b frame now (ear_at (Goes place) others now) ≡ deaf_at Open others now
goes-out place b others now frame small last here = grind (arith, not-rested)

-- what is left of the frame is dropped, and then the echo is over
pub all-goes : (pre : List ℕ) (b : ℕ) (suf : List ℕ) (place others now : ℕ) (frame : List ℕ)
    → now + 1000 < 2 ^ 64 → place ≡ length pre
    → frame ≡ pre ++ b ∷ suf
    → (none_heard (b ∷ suf) frame now (ear_at (Goes place) others now) ≡ true)
    × ((ear_after (b ∷ suf) frame now (ear_at (Goes place) others now)).echo ≡ Open)
all-goes pre b [] place others now frame small at whole =
    let here : get_or frame place 0 ≡ b = rw (whole, at) (get_or-append_seam pre b [] 0) in
    let last : place + 1 ≡ length frame = rw (whole, at) (grind (arith, common_steps)) in
    let step = goes-out place b others now frame small last here in (
      ap (λ (l : Listened). not l.is_heard && none_heard [] frame now l.ear) step,
      ap (λ (l : Listened). (ear_after [] frame now l.ear).echo) step,
    )
all-goes pre b (c ∷ suf) place others now frame small at whole =
    let here : get_or frame place 0 ≡ b = rw (whole, at) (get_or-append_seam pre b (c ∷ suf) 0) in
    let more : place + 1 < length frame = rw (whole, at) (grind (arith, common_steps)) in
    let step = goes-on place b others now frame small more here in
    let next : place + 1 ≡ length (pre ++ b ∷ []) = grind (arith, common_steps, at) in
    let rest = all-goes (pre
    ++ b ∷ []) c suf (place + 1) others now frame small next (grind
    (arith, common_steps, whole)) in (
      ap (λ (l : Listened). not l.is_heard && none_heard (c ∷ suf) frame now l.ear) step ∙ rest.0,
      ap (λ (l : Listened). (ear_after (c ∷ suf) frame now l.ear).echo) step ∙ rest.1,
    )

-- how many other bytes came, with the first byte of a block
abbrev pub others_then : ℕ → ℕ → Ear → ℕ
others_then first now e = (other (Head first) (rested now e)).ear.others

pub first-byte : (first now : ℕ) (frame : List ℕ) (e : Ear) → is_first first ≡ true
    → (rested now e).echo ≡ Open
    → listen first frame now e ≡ deaf_at (Head first) (others_then first now e) now
first-byte first now frame e begins quiet = grind (arith, begins, quiet)

pub second-byte : (first number others now : ℕ) (frame : List ℕ) → now + 1000 < 2 ^ 64
    → listen number frame now (ear_at (Head first) others now)
    ≡ deaf_at (Number first number) others now
second-byte first number others now frame small = grind (arith, not-rested)

pub third-byte : (first number others now : ℕ) (body : List ℕ) → now + 1000 < 2 ^ 64
    → 0 < length body
    → listen (255 - number) (block_of first number body) now (ear_at
    (Number first number) others now) ≡ deaf_at (Goes 3) others now
third-byte first number others now body small more = grind (arith, not-rested, common_steps)

pub whole-echo : (first number b : ℕ) (suf : List ℕ) (now : ℕ) (e : Ear)
    → is_first first ≡ true → now + 1000 < 2 ^ 64
    → (rested now e).echo ≡ Open → IsDropped (block_of first number (b ∷ suf)) now e
whole-echo first number b suf now e begins small quiet =
    let o : ℕ = others_then first now e in
    let frame : List ℕ = block_of first number (b ∷ suf) in
    let one = first-byte first now frame e begins quiet in
    let two = second-byte first number o now frame small in
    let three = third-byte first number o now (b ∷ suf) small (grind (arith, common_steps)) in
    let rest = all-goes (first ∷ number ∷
    (255 - number) ∷ []) b suf 3 o now frame small refl refl in
    record {
      unheard =
          ap (λ (l : Listened). not l.is_heard
          && none_heard (number ∷ (255 - number) ∷ b ∷ suf) frame now l.ear) one
          ∙ (ap (λ (l : Listened). not l.is_heard
          && none_heard ((255 - number) ∷ b ∷ suf) frame now l.ear) two
          ∙ (ap (λ (l : Listened). not l.is_heard
          && none_heard (b ∷ suf) frame now l.ear) three ∙ rest.0));
      over =
          ap (λ (l : Listened). (ear_after (number ∷
          (255 - number) ∷ b ∷ suf) frame now l.ear).echo) one
          ∙ (ap (λ (l : Listened). (ear_after ((255 - number) ∷ b ∷ suf) frame now l.ear).echo) two
          ∙ (ap (λ (l : Listened). (ear_after (b ∷ suf) frame now l.ear).echo) three ∙ rest.1));
    }

pub echo-dropped : (first number : ℕ) (body : List ℕ) (now : ℕ) (e : Ear)
    → is_first first ≡ true → 0 < length body
    → now + 1000 < 2 ^ 64 → (rested now e).echo ≡ Open
    → IsDropped (block_of first number body) now e
echo-dropped first number [] now e begins more small quiet = absurd (omega (arith, more))
echo-dropped first number (b ∷ suf) now e begins more small quiet =
    whole-echo first number b suf now e begins small quiet
