-- The file that a sink in a folder takes at present.
use Rattle.std.specs.Prelude.{◌≡◌, ℕ, List, ◌<◌, ◌≤◌, Bool, true, false, Option, None, Some, if◌then◌else◌}
use Rattle.ym_header.specs.Header.{HeaderParts, length_limit}
use Rattle.ym_folder.specs.Part.{IsPartName}
use Rattle.ym_folder.specs.FilePlace.{name_of}
use Rattle.ym_folder.specs.declared.dir_sink.Leftover.{Leftover}
use Rattle.ym_folder.specs.declared.dir_sink.Leftover.TheVariants.{Discarded}
use Rattle.ym_folder.specs.declared.open_part.OpenPart.{OpenPart}
use Rattle.ym_folder.specs.declared.open_part.Standing.{Standing}
use Rattle.ym_folder.specs.declared.open_part.Standing.TheVariants.{Sound, Torn, Named}

-- it is the file that it was, but for what was written of it
abbrev pub IsSameFile : {F : Type 0} → OpenPart F → OpenPart F → Type 0
IsSameFile old new = new ≡ record old { file = new.file; standing = new.standing }

-- it is the file that it was, and what was written of it stays
abbrev pub IsAsWritten : {F : Type 0} → OpenPart F → OpenPart F → Type 0
IsAsWritten old new = new ≡ record old { standing = new.standing }

abbrev pub open_header : {F : Type 0} → Option (OpenPart F) → Option HeaderParts
open_header None = None
open_header (Some open_part) = Some open_part.header

abbrev pub open_taken : {F : Type 0} → Option (OpenPart F) → ℕ
open_taken None = 0
open_taken (Some open_part) = open_part.taken

-- the name of the part, while the file has not its own
abbrev pub part_as : Standing → List ℕ → Option (List ℕ)
part_as Sound name = Some name
part_as Torn name = Some name
part_as Named name = None

abbrev pub open_name : {F : Type 0} → Option (OpenPart F) → Option (List ℕ)
open_name None = None
open_name (Some open_part) = part_as open_part.standing (name_of open_part.part)

abbrev pub is_sound_as : Standing → Bool
is_sound_as Sound = true
is_sound_as Torn = false
is_sound_as Named = false

abbrev pub open_is_sound : {F : Type 0} → Option (OpenPart F) → Bool
open_is_sound None = false
open_is_sound (Some open_part) = is_sound_as open_part.standing

-- the name of the part of an earlier run that was removed for it
abbrev pub open_replaced : {F : Type 0} → Option (OpenPart F) → Option (List ℕ)
open_replaced None = None
open_replaced (Some open_part) =
    if open_part.has_replaced then Some (name_of open_part.part) else None

-- no more bytes are taken than the header states, and there is room for one more header
abbrev pub IsReady : {F : Type 0} → Option (OpenPart F) → ℕ → ℕ → Type 0
IsReady None count capacity = Unit {0}
IsReady (Some open_part) count capacity = (open_part.taken ≤ open_part.header.length)
    × (open_part.header.length ≤ length_limit) × (count < capacity)

-- The part and the file's own name are those of its header, and the part is what is written. A part
-- of an earlier run is removed only where that is wanted.
pub record IsPlaced {F : Type 0} (is_of : F → List ℕ → Type 0) (leftover : Leftover)
    (open_part : OpenPart F) : Type 0 where
  pub part : IsPartName open_part.header.name (name_of open_part.part)
  pub target : name_of open_part.target ≡ open_part.header.name
  pub made : is_of open_part.file (name_of open_part.part)
  pub asked : open_part.has_replaced ≡ true → leftover ≡ Discarded

abbrev pub ArePlaced : {F : Type 0} → (F → List ℕ → Type 0) → Leftover → Option (OpenPart F)
    → Type 0
ArePlaced is_of leftover None = Unit {0}
ArePlaced is_of leftover (Some open_part) = IsPlaced is_of leftover open_part
