-- An echo of the whole of a block (this profile).
use Rattle.std.specs.Prelude.{◌≡◌, ℕ, ◌-◌, ◌&&◌, not, Bool, true, List, [], ◌∷◌}
use Rattle.ym_heard.specs.Ear.{listen}
use Rattle.ym_heard.specs.declared.ear.Ear.{Ear}
use Rattle.ym_heard.specs.declared.ear.Echo.TheVariants.{Open}

-- its first byte, its number, its complement, and more
abbrev pub block_of : ℕ → ℕ → List ℕ → List ℕ
block_of first number body = first ∷ number ∷ (255 - number) ∷ body

-- the ear behind bytes that came at this moment, where this frame was written last
abbrev pub ear_after : List ℕ → List ℕ → ℕ → Ear → Ear
ear_after [] frame now e = e
ear_after (b ∷ bytes) frame now e = ear_after bytes frame now (listen b frame now e).ear

-- whether none of them is heard
abbrev pub none_heard : List ℕ → List ℕ → ℕ → Ear → Bool
none_heard [] frame now e = true
none_heard (b ∷ bytes) frame now e =
    not (listen b frame now e).is_heard && none_heard bytes frame now (listen b frame now e).ear

-- the whole of it is dropped, and what stands behind it is listened to as before
pub record IsDropped (frame : List ℕ) (now : ℕ) (e : Ear) : Type 0 where
  pub unheard : none_heard frame frame now e ≡ true
  pub over : (ear_after frame frame now e).echo ≡ Open
