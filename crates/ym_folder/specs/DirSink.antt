-- A sink that stores files in a folder, as contracts see it.
use Rattle.std.specs.Prelude.{◌≡◌, ◌≢◌, ◌⊎◌, ℕ, List, [], Bool, true, false, Option, None, Some, IfSome}
use Rattle.ym_header.specs.Header.{HeaderParts}
use Rattle.ym_file.specs.Kept.{Kept}
use Rattle.ym_folder.specs.Folder.{FolderParts, under, has_links, has_refused}
use Rattle.ym_folder.specs.OneName.{SomeMayBe}
use Rattle.ym_folder.specs.Part.{EndsInPart}
use Rattle.ym_folder.specs.WriteBehind.{put_so_far}
use Rattle.ym_folder.specs.declared.dir_sink.Leftover.{Leftover}
use Rattle.ym_folder.specs.declared.dir_sink.Leftover.TheVariants.{Refused, Discarded}
use Rattle.ym_folder.specs.declared.store_fault.StoreFault.{StoreFault}

pub record DirSinkParts : Type 0 where
  pub opened : Option HeaderParts  -- the file that is taken at present
  pub taken : ℕ  -- how many bytes of it
  pub headers : List HeaderParts  -- of the files stored, in order
  pub failures : ℕ
  pub first : Option StoreFault  -- why it failed for the first time
  pub leftover : Leftover  -- what becomes of the parts of earlier runs
  pub replaced : Option (List ℕ)  -- the name of the one that was removed for the open file
  pub folder : Option FolderParts  -- what stands in the folder, where that is known
  pub part : Option (List ℕ)  -- the name of the part that is open
  pub waiting : List ℕ  -- the bytes that wait to be written into it
  pub is_sound : Bool  -- no write of it has failed, and no try to store it

-- what it holds; it tells no bytes
abbrev pub kept_of : DirSinkParts → Kept
kept_of s = record { opened = s.opened; taken = s.taken; headers = s.headers; told = None }

-- it is told why, exactly where something failed
abbrev pub IsTold : ℕ → Option StoreFault → Type 0
IsTold failures None = failures ≡ 0
IsTold failures (Some why) = failures ≢ 0

-- ---- What it does in the folder

-- the bytes under a name, where it is there and known
abbrev pub stands : DirSinkParts → List ℕ → Option (List ℕ)
stands s name = under s.folder name

-- the bytes of a part and those that wait
abbrev pub put_into : DirSinkParts → Option (List ℕ) → Option (List ℕ)
put_into s None = None
put_into s (Some part) = put_so_far (stands s part) s.waiting

-- all bytes of the open file that were put so far
abbrev pub put : DirSinkParts → Option (List ℕ)
put s = put_into s s.part

-- it is the name of the part that is open
abbrev pub IsOwn : DirSinkParts → List ℕ → Type 0
IsOwn s name = s.part ≡ Some name

-- this file is no part of an earlier run that may be removed
abbrev pub IsSafe : Leftover → List ℕ → Type 0
IsSafe Refused name = Unit {0}
IsSafe Discarded name = ¬ EndsInPart name

-- a name that a disk may have a file under that was stored is safe, too
abbrev pub IsSafeNow : DirSinkParts → List ℕ → Type 0
IsSafeNow s name = IsSafe s.leftover name ⊎ SomeMayBe s.headers name

-- Nothing is overwritten: each file that was there, but for the part that is open, is there with
-- the bytes that it had, and is not the part that is open then. Where parts of earlier runs are to
-- be removed, that is said of names that do not end in `.part`, and of each one that the disk may
-- have a file under that was stored.
pub record Keeps (old new : DirSinkParts) : Type 0 where
  pub leftover : new.leftover ≡ old.leftover
  pub kept : (name bytes : List ℕ) → ¬ IsOwn old name → IsSafeNow old name →
      stands old name ≡ Some bytes → (stands new name ≡ Some bytes) × (¬ IsOwn new name)

-- it is the name of the open file, and these are all bytes that were put into it
abbrev pub IsWhole : DirSinkParts → List ℕ → List ℕ → Type 0
IsWhole s name bytes =
    IfSome s.opened (λ header. (name ≡ header.name) × (put s ≡ Some bytes))

-- A name appears only whole: a file that is new, or has other bytes, is the open one with all its
-- bytes, or its name ends in `.part`. Where the file system has no hard links it may be empty too.
pub record Adds (old new : DirSinkParts) : Type 0 where
  pub links : has_links new.folder ≡ has_links old.folder
  pub added : (name bytes : List ℕ) → stands new name ≡ Some bytes →
      (stands old name ≡ Some bytes) ⊎ EndsInPart name ⊎ IsWhole old name bytes
      ⊎ ((has_links old.folder ≡ false) × (bytes ≡ []))

-- the file of this name has all bytes that were put, and its part has gone, or the folder refused
-- to remove it
pub record IsStored (old new : DirSinkParts) : Type 0 where
  pub whole : (bytes : List ℕ) → put old ≡ Some bytes →
      IfSome old.opened (λ header. stands new header.name ≡ Some bytes)
  pub gone : (part bytes : List ℕ) → IsOwn old part → put old ≡ Some bytes →
      (stands new part ≡ None) ⊎ (has_refused new.folder ≡ true)
