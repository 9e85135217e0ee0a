-- The bytes of the files that are sent, and the case in which each parcel goes.
use Rattle.std.specs.Prelude.{ℕ, ◌+◌, ◌*◌, ◌/◌, ◌%◌, zero, suc, List, [], ◌∷◌}
use Rattle.ym_judge.specs.declared.case.Case.{Case}
use Rattle.ym_judge.specs.declared.case.Case.TheVariants as case
use Rattle.ym_judge.specs.declared.parcel.Parcel.{Parcel}
use Rattle.ym_judge.specs.declared.parcel.Parcel.TheVariants.{Usual}

-- The byte of a file that stands before so many others: before none it is 1A. No block is like
-- another one.
abbrev pub byte_before : ℕ → ℕ
byte_before left = (left * 7 + left / 256 * 13 + 26) % 256

-- the bytes of a file of this length
abbrev pub content_of : ℕ → List ℕ
content_of zero = []
content_of (suc left) = byte_before left ∷ content_of left

abbrev pub parcel_in : Case → Parcel
parcel_in case.Plain = Usual
parcel_in (case.Frame spot twist) = Usual
parcel_in (case.Sends parcel) = parcel
parcel_in (case.Answer spot twist) = Usual
parcel_in (case.Bytes spot) = Usual
