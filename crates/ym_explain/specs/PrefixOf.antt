-- What stands at the front of what an end has written, and where the next whole block begins.
use Rattle.std.specs.Prelude.{◌≡◌, ℕ, ◌-◌, ◌<◌, ◌≤◌, ◌==◌, ◌&&◌, ◌||◌, Bool, true, false, List, ◌∷◌, drop, Option, Some, None, Result, Ok, Err}
use Rattle.ym_frame.specs.Frame.{verdict_of}
use Rattle.ym_frame.specs.WholeFrame.{IsThere, verdict_with}
use Rattle.ym_frame.specs.declared.frame.Broken.{Broken}
use Rattle.ym_frame.specs.declared.frame.Item.{Item}
use Rattle.ym_frame.specs.declared.frame.Item.TheVariants.{Block, Eot, Cancel}
use Rattle.ym_frame.specs.declared.frame.Why.{Why}
use Rattle.ym_frame.specs.declared.frame.Why.TheVariants.{FirstByte, Complement, Check, SecondCan, Cut}
use Rattle.ym_explain.specs.declared.passed.Passed.{Passed}
use Rattle.ym_explain.specs.declared.passed.Passed.TheVariants as passed

-- what broke is a frame that had begun, and no byte more can mend it
abbrev pub is_damage : Why → Bool
is_damage Complement = true
is_damage Check = true
is_damage SecondCan = true
is_damage FirstByte = false
is_damage Cut = false

abbrev pub why_in : Result (Item × ℕ) Broken → Option Why
why_in (Ok found) = None
why_in (Err broken) = Some broken.why

-- why no frame stands at the front, if none does
abbrev pub why_at : List ℕ → Option Why
why_at bytes = why_in (verdict_of bytes)

-- What is told is what stands there: a frame that is told as whole is one, with its item.
abbrev pub IsPassed : List ℕ → Passed → Type 0
IsPassed bytes (passed.Frame whole) =
    IsThere whole bytes × (verdict_of bytes ≡ verdict_with (Ok whole) bytes)
IsPassed bytes (passed.Damaged broken) =
    (verdict_of bytes ≡ Err broken) × (is_damage broken.why ≡ true)
IsPassed bytes passed.Junk = why_at bytes ≡ Some FirstByte
IsPassed bytes passed.Open = why_at bytes ≡ Some Cut

abbrev pub is_block_item : Item → Bool
is_block_item (Block b) = true
is_block_item Eot = false
is_block_item Cancel = false

-- the item at the front is a block
abbrev pub is_block : Result (Item × ℕ) Broken → Bool
is_block (Ok found) = is_block_item found.0
is_block (Err broken) = false

abbrev pub has_block : List ℕ → Bool
has_block bytes = is_block (verdict_of bytes)

-- bytes that begin as this frame does, with a number whose complement agrees
abbrev pub same_head : List ℕ → List ℕ → Bool
same_head (first ∷ number ∷ complement ∷ more) (a ∷ b ∷ c ∷ rest) =
    a == first && b == number && c == complement && complement == 255 - number
same_head frame bytes = false

-- a damaged frame is over where these bytes begin
abbrev pub ends_at : List ℕ → List ℕ → Bool
ends_at frame bytes = has_block bytes || same_head frame bytes

-- the bytes before the position where the frame is over, of so many at most, and one at least
pub record IsUpToBlock (bytes : List ℕ) (most : ℕ) (count : ℕ) : Type 0 where
  pub some : 1 ≤ count
  pub within : count ≤ most
  pub none_before :
      (position : ℕ) → 1 ≤ position → position < count → ends_at bytes (drop position bytes) ≡ false
  pub over_there : count < most → ends_at bytes (drop count bytes) ≡ true
