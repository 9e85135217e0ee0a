-- The part that a file is written as, how it is made, and how it gets the file's name.
use Rattle.std.specs.Prelude.{◌≡◌, ◌⊎◌, ◌≤◌, ◌<◌, ℕ, List, [], ◌++◌, true, false, Option, None, IfSome, take, codes}
use Rattle.std.specs.Str.{IsCharBoundary}
use Rattle.ym_folder.specs.Folder.{FolderParts, under, has_links, has_refused, OthersStay}

-- as much of the front of a name as 250 bytes have room for, no character cut, and `.part`
abbrev pub IsPartName : List ℕ → List ℕ → Type 0
IsPartName name part = (kept : ℕ) × (kept ≤ 250) × IsCharBoundary name kept
    × ((i : ℕ) → kept < i → i ≤ 250 → ¬ IsCharBoundary name i)
    × (part ≡ take kept name ++ codes ".part")

abbrev pub EndsInPart : List ℕ → Type 0
EndsInPart name = (prefix : List ℕ) × (name ≡ prefix ++ codes ".part")

-- nothing that was there has changed, but this name may be new
pub record MayAdd (name : List ℕ) (old new : Option FolderParts) : Type 0 where
  pub others : OthersStay name old new
  pub free : (under new name ≡ under old name) ⊎ (under old name ≡ None)

-- A name that was free has the bytes of the part. The part has gone, or its removal was refused.
pub record NameGiven (part name : List ℕ) (old new : Option FolderParts) : Type 0 where
  pub was_free : under old name ≡ None
  pub gets : (part ≡ name) ⊎ (under new name ≡ under old part)
  pub gone : (part ≡ name) ⊎ (under new part ≡ None) ⊎ (has_refused new ≡ true)
  pub others : (other : List ℕ) →
      (other ≡ part) ⊎ (other ≡ name) ⊎ (under new other ≡ under old other)
  pub links : has_links new ≡ has_links old

-- Nothing has changed; or, where the file system has no hard links, a name that was free may have a
-- file of no bytes.
pub record NameNotGiven (name : List ℕ) (old new : Option FolderParts) : Type 0 where
  pub others : OthersStay name old new
  pub half : (under new name ≡ under old name) ⊎ ((under old name ≡ None)
      × (has_links old ≡ false) × IfSome (under new name) (λ bytes. bytes ≡ []))
