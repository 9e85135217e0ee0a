-- A folder in memory.
use Rattle.std.specs.Prelude.{◌≡◌, ℕ, List, [], ◌∷◌, ◌++◌, Bool, not, Option, Some}
use Rattle.std.specs.List.{filter}
use Rattle.std.specs.Str.{bytes_eq}
use Rattle.ym_folder.specs.Folder.{Entry, entry, FolderParts, bytes_in}

-- what stands in it is known
abbrev pub parts : List Entry → Bool → Bool → Option FolderParts
parts files links refused =
    Some (record { entries = files; links = links; refused = refused })

-- without a name
abbrev pub without : List ℕ → List Entry → List Entry
without name files = filter (λ (file : Entry). not (bytes_eq file.name name)) files

-- with these bytes under a name, whatever stood there
abbrev pub with_file : List ℕ → List ℕ → List Entry → List Entry
with_file name bytes files = without name files ++ entry name bytes ∷ []

-- a file that is there has these bytes behind those that it had
abbrev pub Adds : List ℕ → List ℕ → List Entry → List Entry → Type 0
Adds name more old new = (bytes : List ℕ) × (bytes_in old name ≡ Some bytes)
    × (new ≡ with_file name (bytes ++ more) old)

-- the bytes of one file stand under another name, too
abbrev pub Copies : List ℕ → List ℕ → List Entry → List Entry → Type 0
Copies from to old new = (bytes : List ℕ) × (bytes_in old from ≡ Some bytes)
    × (new ≡ with_file to bytes old)
