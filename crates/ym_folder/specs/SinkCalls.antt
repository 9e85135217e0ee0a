-- What a sink does in a folder by any calls, one behind the other.
use Rattle.std.specs.Prelude.{◌≡◌, ◌⊎◌, List, [], ◌∷◌, ℕ, false, Some}
use Rattle.ym_folder.specs.Folder.{has_links}
use Rattle.ym_folder.specs.Part.{EndsInPart}
use Rattle.ym_folder.specs.DirSink.{DirSinkParts, stands, Keeps, Adds, IsWhole}

-- each call keeps what was there, and adds only whole files and parts
abbrev pub AreCalls : DirSinkParts → List DirSinkParts → Type 0
AreCalls sink [] = Unit {0}
AreCalls sink (next ∷ more) = Keeps sink next × Adds sink next × AreCalls next more

abbrev pub last_of : DirSinkParts → List DirSinkParts → DirSinkParts
last_of sink [] = sink
last_of sink (next ∷ more) = last_of next more

-- at one of these moments it is the name of the open file, with all bytes that were put into it
abbrev pub WasWhole : DirSinkParts → List DirSinkParts → List ℕ → List ℕ → Type 0
WasWhole sink [] name bytes = IsWhole sink name bytes
WasWhole sink (next ∷ more) name bytes =
    IsWhole sink name bytes ⊎ WasWhole next more name bytes

-- it was there before, or is a part, or was whole; or there are no hard links, and it is empty
abbrev pub IsAsPromised : DirSinkParts → List DirSinkParts → List ℕ → List ℕ → Type 0
IsAsPromised sink calls name bytes = (stands sink name ≡ Some bytes) ⊎ EndsInPart name
    ⊎ WasWhole sink calls name bytes ⊎ ((has_links sink.folder ≡ false) × (bytes ≡ []))
