-- What a sink holds (this profile's choice).
use Rattle.std.specs.Prelude.{◌≡◌, ℕ, ◌+◌, ◌-◌, ◌≤◌, List, [], ◌∷◌, ◌++◌, length, Option, None, Some, option_to_list}
use Rattle.ym_header.specs.Header.{HeaderParts}

-- the bytes, where they are known: those of the open file, and of each committed one
pub record Told : Type 0 where
  pub open_bytes : List ℕ
  pub files : List (List ℕ)

-- a sink's open file, if there is one, and its committed files
pub record Kept : Type 0 where
  pub opened : Option HeaderParts  -- the header of the open file
  pub taken : ℕ  -- how many bytes of the open file
  pub headers : List HeaderParts  -- of the committed files, in order
  pub told : Option Told

abbrev pub told_begun : Option Told → Option Told
told_begun None = None
told_begun (Some t) = Some (record { open_bytes = []; files = t.files })

abbrev pub told_added : List ℕ → Option Told → Option Told
told_added bytes None = None
told_added bytes (Some t) = Some (record { open_bytes = t.open_bytes ++ bytes; files = t.files })

abbrev pub told_committed : Option Told → Option Told
told_committed None = None
told_committed (Some t) = Some (record { open_bytes = []; files = t.files ++ t.open_bytes ∷ [] })

-- with a file opened
abbrev pub begun : HeaderParts → Kept → Kept
begun header kept =
    record { opened = Some header; taken = 0; headers = kept.headers; told = told_begun kept.told }

-- with bytes behind those taken
abbrev pub added : List ℕ → Kept → Kept
added bytes kept =
    record {
      opened = kept.opened;
      taken = kept.taken + length bytes;
      headers = kept.headers;
      told = told_added bytes kept.told;
    }

-- with the open file behind the committed ones
abbrev pub committed : Kept → Kept
committed kept =
    record {
      opened = None;
      taken = 0;
      headers = kept.headers ++ option_to_list kept.opened;
      told = told_committed kept.told;
    }

-- how many bytes are still missing
abbrev pub room_of : Option HeaderParts → ℕ → ℕ
room_of None taken = 0
room_of (Some header) taken = header.length - taken

abbrev pub room : Kept → ℕ
room kept = room_of kept.opened kept.taken

abbrev pub covers : Option HeaderParts → ℕ → Type 0
covers None taken = ⊥
covers (Some header) taken = header.length ≤ taken

-- a file is open, and all its bytes are there
abbrev pub IsCoveredFile : Kept → Type 0
IsCoveredFile kept = covers kept.opened kept.taken

-- no bytes are told
abbrev pub TellsNone : Option Told → Type 0
TellsNone None = Unit {0}
TellsNone (Some t) = (t.open_bytes ≡ []) × (t.files ≡ [])

-- no file is open, and none is committed
pub record IsNew (kept : Kept) : Type 0 where
  pub opened : kept.opened ≡ None
  pub taken : kept.taken ≡ 0
  pub headers : kept.headers ≡ []
  pub told : TellsNone kept.told
