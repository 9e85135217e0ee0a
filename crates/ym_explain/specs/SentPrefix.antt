-- What is told of the front of what the sender of the files wrote.
use Rattle.std.specs.Prelude.{◌≡◌, ℕ, ◌==◌, nat_lt, min, if◌then◌else◌, List, length, slice_index, Option, Some, None}
use Rattle.ym_frame.specs.WholeFrame.{item_in, length_in}
use Rattle.ym_frame.specs.declared.frame.Broken.{Broken}
use Rattle.ym_explain.specs.PrefixOf.{IsPassed, IsUpToBlock}
use Rattle.ym_explain.specs.Telling.{tells, told_of}
use Rattle.ym_explain.specs.declared.passed.Passed.TheVariants as passed
use Rattle.ym_explain.specs.declared.sent.SentLine.{SentLine}
use Rattle.ym_explain.specs.declared.sent.SentLine.TheVariants as line
use Rattle.ym_explain.specs.declared.sent.SentTold.{SentTold}
use Rattle.ym_explain.specs.declared.told.SendPosition.{SendPosition}

-- so many bytes can belong to the frame that begins with the first of them: a CAN stands alone
abbrev pub damage_limit : List ℕ → ℕ
damage_limit bytes =
    if slice_index bytes 0 == 0x01 then min (length bytes) 133 else
    if slice_index bytes 0 == 0x02 then min (length bytes) 1029 else
    1

-- a damaged frame ends where the next whole block begins, and moves nobody
pub record IsToldDamage (at : SendPosition) (bytes : List ℕ) (broken : Broken) (told : SentTold)
    : Type 0 where
  pub line_is : told.line ≡ line.Damage broken (nat_lt told.used (damage_limit bytes))
  pub used_is : IsUpToBlock bytes (damage_limit bytes) told.used
  pub position_is : told.position ≡ at

-- what is told is what stands there
abbrev pub IsLine : SendPosition → List ℕ → SentLine → SentTold → Type 0
IsLine at bytes (line.Frame whole kind) told =
    IsPassed bytes (passed.Frame whole) × (told.used ≡ length_in whole) ×
    (tells kind told.position ≡ told_of at (item_in whole bytes))
IsLine at bytes (line.Damage broken short) told =
    IsPassed bytes (passed.Damaged broken) × IsToldDamage at bytes broken told
IsLine at bytes line.Junk told =
    IsPassed bytes passed.Junk × (told.used ≡ 1) × (told.position ≡ at)

abbrev pub IsToldSent : SendPosition → List ℕ → Option SentTold → Type 0
IsToldSent at bytes None = IsPassed bytes passed.Open
IsToldSent at bytes (Some told) = IsLine at bytes told.line told
