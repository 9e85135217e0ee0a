-- What is told of two files of bytes, one for each way.
use Rattle.std.specs.Prelude.{◌≡◌, ℕ, Bool, true, List, [], ◌∷◌, if◌then◌else◌, Option}
use Rattle.std.specs.Io.KnownBytes.{Consumes, IsAtEnd}
use Rattle.ym_explain.specs.declared.verdict.Verdict.{Verdict}
use Rattle.ym_explain.specs.declared.verdict.Ways.TheVariants as ways
use Rattle.ym_told.specs.RunText.{same_way}
use Rattle.ym_told.specs.declared.way.Direction.{Direction}
use Rattle.ym_told.specs.declared.way.Direction.TheVariants.{There, Back}
use Rattle.ym_inspect.specs.CaptureTold.{Explains, Tells, tagged}
use Rattle.ym_inspect.specs.Inspecting.{Parts}

-- the bytes of one way, in their order
abbrev pub of_way : Direction → List (Direction × ℕ) → List ℕ
of_way way [] = []
of_way way (one ∷ more) =
    if same_way one.0 way then one.1 ∷ of_way way more else of_way way more

-- Some bytes of one way were read, and what is sure behind them was told.
pub record WayOn (way : Direction) (left : Option (List ℕ)) (old : Parts)
    (before new_left : Option (List ℕ)) (new : Parts) (after : Option (List ℕ)) : Type 0 where
  pub piece : List ℕ
  pub reads : Consumes left new_left piece
  pub tells : Tells old before (tagged way piece) new after

-- Some bytes of both ways were read, in an order that keeps that of each, and what is sure behind
-- them was told.
pub record PairOn (there back : Option (List ℕ)) (old : Parts)
    (before new_there new_back : Option (List ℕ)) (new : Parts) (after : Option (List ℕ))
    : Type 0 where
  pub read : List (Direction × ℕ)
  pub from_there : Consumes there new_there (of_way There read)
  pub from_back : Consumes back new_back (of_way Back read)
  pub tells : Tells old before read new after

-- Where a way is over, nothing is left of it; and so it stays.
abbrev pub KeepsEnd : Bool → Option (List ℕ) → Bool → Option (List ℕ) → Type 0
KeepsEnd over left new_over new_left =
    (over ≡ true → IsAtEnd left) → new_over ≡ true → IsAtEnd new_left

-- All bytes of both files were told, those of each in their order, and nothing else.
pub record ExplainsPair (there back : List ℕ) (before : Option (List ℕ)) (verdict : Verdict)
    (after : Option (List ℕ)) : Type 0 where
  pub read : List (Direction × ℕ)
  pub there_is : of_way There read ≡ there
  pub back_is : of_way Back read ≡ back
  pub explains : Explains ways.Both read before verdict after
