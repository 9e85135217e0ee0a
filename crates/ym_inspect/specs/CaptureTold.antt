-- What is told of a capture, from its beginning to its end.
use Rattle.std.specs.Prelude.{◌≡◌, ℕ, Bool, false, ◌||◌, if◌then◌else◌, List, [], ◌∷◌, ◌++◌, Option, Some, None, true}
use Rattle.std.specs.Io.KnownBytes.{Appends}
use Rattle.ym_explain.specs.Evidence.{tells_whole, verdict_in}
use Rattle.ym_explain.specs.PrefixOf.{has_block}
use Rattle.ym_explain.specs.VerdictText.{verdict_text}
use Rattle.ym_explain.specs.declared.verdict.Verdict.{Verdict}
use Rattle.ym_explain.specs.declared.verdict.Ways.{Ways}
use Rattle.ym_explain.specs.declared.verdict.Ways.TheVariants as ways
use Rattle.ym_told.specs.RunText.{end_words}
use Rattle.ym_told.specs.declared.prefix.BufferedPrefix.{BufferedPrefix}
use Rattle.ym_told.specs.declared.prefix.Settle.{Settle}
use Rattle.ym_told.specs.declared.prefix.Settle.TheVariants.{All}
use Rattle.ym_told.specs.declared.moment.CaptureMoment.{CaptureMoment}
use Rattle.ym_told.specs.declared.way.Direction.{Direction}
use Rattle.ym_told.specs.declared.way.Direction.TheVariants as way
use Rattle.ym_inspect.specs.EndWords.{parting_words}
use Rattle.ym_inspect.specs.Inspecting.{Parts, nothing_buffered, with_piece, IsPrefix, TellsPrefix}

-- bytes of a way, each with it
abbrev pub tagged : Direction → List ℕ → List (Direction × ℕ)
tagged way [] = []
tagged way (byte ∷ more) = (way, byte) ∷ tagged way more

-- This moment is there, at which this way wrote.
abbrev pub at_moment : Parts → Direction → ℕ → Parts
at_moment at way.There now = record at {
  scene = record at.scene { moment = record { 0 = Some now } };
  last_there = Some now;
}
at_moment at way.Back now = record at {
  scene = record at.scene { moment = record { 0 = Some now } };
  last_back = Some now;
}

-- What was read so far, byte by byte with its way, and what was told of it: bytes come and are
-- held, moments pass, and what stands at the front of a way is told, where that is sure, and let
-- go. Nothing else is written, and nothing else becomes of what came.
pub data Tells :
    Parts → Option (List ℕ) → List (Direction × ℕ) → Parts → Option (List ℕ) → Type 0 where
  nothing : (at : Parts) (out : Option (List ℕ)) → Tells at out [] at out
  came :
      (old : Parts) (before : Option (List ℕ)) (read : List (Direction × ℕ)) (mid : Parts)
      (between : Option (List ℕ)) (way : Direction) (piece : List ℕ)
      → Tells old before read mid between
      → Tells old before (read ++ tagged way piece) (with_piece mid way piece) between
  passed :
      (old : Parts) (before : Option (List ℕ)) (read : List (Direction × ℕ)) (mid : Parts)
      (between : Option (List ℕ)) (way : Direction) (now : ℕ)
      → Tells old before read mid between
      → Tells old before read (at_moment mid way now) between
  told :
      (old : Parts) (before : Option (List ℕ)) (read : List (Direction × ℕ)) (mid : Parts)
      (between : Option (List ℕ)) (way : Direction) (settle : Settle) (prefix : BufferedPrefix)
      (new : Parts) (after : Option (List ℕ))
      → Tells old before read mid between
      → IsPrefix mid way settle (Some prefix)
      → TellsPrefix mid way prefix new between after
      → Tells old before read new after

-- all that is sure of a way was told
pub record TellsAll (old : Parts) (before : Option (List ℕ)) (way : Direction) (settle : Settle)
    (new : Parts) (after : Option (List ℕ)) : Type 0 where
  pub tells : Tells old before [] new after
  pub sure : IsPrefix new way settle None

-- Where the two ends parted is told where both ways are known. In a whole session they met again.
abbrev pub parting_told : Ways → Verdict → Option CaptureMoment → Option CaptureMoment
parting_told ways.Both verdict at = if tells_whole verdict then None else at
parting_told ways.There verdict at = None
parting_told ways.Back verdict at = None

abbrev pub verdict_at : Ways → Parts → Verdict
verdict_at ways at = verdict_in ways at.scene.standing.signs

abbrev pub last_words : Ways → Parts → List ℕ
last_words ways at =
    end_words at.scene.run ++ (parting_words (parting_told ways (verdict_at ways at) at.parted_at)
    ++ (verdict_text (verdict_at ways at) ++ 10 ∷ []))

-- At the end all that is left is told, one way behind the other, and then the last sentence.
pub record Ends (old : Parts) (before : Option (List ℕ)) (ways : Ways) (verdict : Verdict)
    (after : Option (List ℕ)) : Type 0 where
  pub mid : Parts
  pub between : Option (List ℕ)
  pub there : TellsAll old before way.There All mid between
  pub new : Parts
  pub written : Option (List ℕ)
  pub back : TellsAll mid between way.Back All new written
  pub last : Appends written after (last_words ways new)
  pub verdict_is : verdict ≡ verdict_at ways new

-- a capture of these bytes was told to its end
pub record Explains (ways : Ways) (read : List (Direction × ℕ)) (before : Option (List ℕ))
    (verdict : Verdict) (after : Option (List ℕ)) : Type 0 where
  pub at_end : Parts
  pub between : Option (List ℕ)
  pub tells : Tells nothing_buffered before read at_end between
  pub ends : Ends at_end between ways verdict after

-- the way that is known alone
abbrev pub ways_of : Direction → Ways
ways_of way.There = ways.There
ways_of way.Back = ways.Back

-- the last of what was told is this sentence, behind all that was left of either way
abbrev pub TellsLast : Ways → Verdict → Option (List ℕ) → Type 0
TellsLast ways verdict after =
    (at_end : Parts) × (between : Option (List ℕ)) × Ends at_end between ways verdict after

-- a whole block stands somewhere among these bytes
abbrev pub has_frame : List ℕ → Bool
has_frame [] = false
has_frame (byte ∷ more) = has_block (byte ∷ more) || has_frame more
