-- What stands in a folder, and what its calls make of that (this profile's choice).
use Rattle.std.specs.Prelude.{◌≡◌, ◌⊎◌, ℕ, ℤ, pos, List, [], ◌∷◌, Bool, true, false, Option, Some, None, if◌then◌else◌, take, ⊤}
use Rattle.std.specs.Io.KnownBytes.{append_known}
use Rattle.std.specs.IoError.{raw_os_error}
use Rattle.std.specs.Str.{bytes_eq}
use Rattle.std.specs.declared.io.Error.{Error}

-- a name, and the bytes under it
pub record Entry : Type 0 where
  pub name : List ℕ
  pub bytes : List ℕ

-- the files of a folder; whether its file system has hard links; whether it refused to remove a
-- file
pub record FolderParts : Type 0 where
  pub entries : List Entry
  pub links : Bool
  pub refused : Bool

abbrev pub entry : List ℕ → List ℕ → Entry
entry name bytes = record { name = name; bytes = bytes }

abbrev pub bytes_in : List Entry → List ℕ → Option (List ℕ)
bytes_in [] name = None
bytes_in (file ∷ files) name =
    if bytes_eq file.name name then Some file.bytes else bytes_in files name

-- ---- Of a folder of which it is known, or not, what stands in it

-- the bytes under a name, where it is there
unfoldable pub under : Option FolderParts → List ℕ → Option (List ℕ)
under None name = None
under (Some folder) name = bytes_in folder.entries name

-- a file of no bytes
unfoldable pub empty_in : Option FolderParts → Option (List ℕ)
empty_in None = None
empty_in (Some folder) = Some []

unfoldable pub has_links : Option FolderParts → Bool
has_links None = false
has_links (Some folder) = folder.links

unfoldable pub has_refused : Option FolderParts → Bool
has_refused None = true
has_refused (Some folder) = folder.refused

-- what a proof unfolds to compute these four words
unfoldable pub folder_words : ⊤
unfolding under empty_in has_links has_refused
folder_words = tt

-- ---- What a call does

-- each name has the bytes that it had
pub record AllStay (old new : Option FolderParts) : Type 0 where
  pub stays : (name : List ℕ) → under new name ≡ under old name
  pub links : has_links new ≡ has_links old

-- each other name has the bytes that it had
pub record OthersStay (name : List ℕ) (old new : Option FolderParts) : Type 0 where
  pub stays : (other : List ℕ) → (other ≡ name) ⊎ (under new other ≡ under old other)
  pub links : has_links new ≡ has_links old

-- a name that was free has a file of no bytes
pub record Made (name : List ℕ) (old new : Option FolderParts) : Type 0 where
  pub was_free : under old name ≡ None
  pub is_empty : under new name ≡ empty_in new
  pub others : OthersStay name old new

-- a file has these bytes behind those that it had
pub record Grown (name bytes : List ℕ) (old new : Option FolderParts) : Type 0 where
  pub grows : under new name ≡ append_known (under old name) bytes
  pub others : OthersStay name old new

-- the same of a front of these bytes
abbrev pub GrownByPrefix : List ℕ → List ℕ → Option FolderParts → Option FolderParts → Type 0
GrownByPrefix name bytes old new = (n : ℕ) × Grown name (take n bytes) old new

-- a name that was free is one more name of a file
pub record Linked (from to : List ℕ) (old new : Option FolderParts) : Type 0 where
  pub was_free : under old to ≡ None
  pub same : under new to ≡ under old from
  pub others : OthersStay to old new

-- a file has a name, whatever stood there, in place of its own
pub record Renamed (from to : List ℕ) (old new : Option FolderParts) : Type 0 where
  pub same : under new to ≡ under old from
  pub gone : (from ≡ to) ⊎ (under new from ≡ None)
  pub others : (other : List ℕ) →
      (other ≡ from) ⊎ (other ≡ to) ⊎ (under new other ≡ under old other)
  pub links : has_links new ≡ has_links old

-- a name is gone
pub record Removed (name : List ℕ) (old new : Option FolderParts) : Type 0 where
  pub gone : under new name ≡ None
  pub others : OthersStay name old new

-- The numbers by which a system refuses a hard link where its file system has none: EPERM, EMLINK,
-- ENOSYS and EOPNOTSUPP.
abbrev pub IsNoLinks : ℤ → Type 0
IsNoLinks n = (n ≡ pos 1) ⊎ (n ≡ pos 31) ⊎ (n ≡ pos 38) ⊎ (n ≡ pos 95)

abbrev pub TellsNoLinks : Error → Type 0
TellsNoLinks error = (n : ℤ) × (raw_os_error error ≡ Some n) × IsNoLinks n
