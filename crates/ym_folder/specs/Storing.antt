-- What the try to store a part under a name does in a folder.
use Rattle.std.specs.Prelude.{◌≡◌, ◌⊎◌, ℕ, List, [], true, false, Option, None, Some}
use Rattle.ym_folder.specs.Folder.{FolderParts, under, has_links, has_refused}

-- Whether it succeeds or not: each other file is there, with the bytes that it had. A file that is
-- new has all bytes that were put, or is empty where there are no hard links.
pub record Stores (part name : List ℕ) (put : Option (List ℕ)) (old new : Option FolderParts)
    : Type 0 where
  pub links : has_links new ≡ has_links old
  pub keeps : (other bytes : List ℕ) → (other ≡ part → ⊥) → under old other ≡ Some bytes →
      under new other ≡ Some bytes
  pub adds : (other bytes : List ℕ) → under new other ≡ Some bytes →
      (under old other ≡ Some bytes) ⊎ (other ≡ part) ⊎ ((other ≡ name) × (put ≡ Some bytes))
      ⊎ ((has_links old ≡ false) × (bytes ≡ []))

-- where it succeeds: the name has all bytes that were put, and the part has gone, or the folder
-- refused to remove it
pub record GetsAll (part name : List ℕ) (put : Option (List ℕ)) (new : Option FolderParts)
    : Type 0 where
  pub whole : (bytes : List ℕ) → put ≡ Some bytes → under new name ≡ Some bytes
  pub gone : (bytes : List ℕ) → put ≡ Some bytes →
      (under new part ≡ None) ⊎ (has_refused new ≡ true)
