-- What a header says, and which headers there are. The fields are those of the reference (C.
-- Forsberg, XMODEM/YMODEM Protocol Reference, 1988), "YMODEM Batch File Transmission": "Pathname",
-- "Length", "Modification Date" and "Mode". The limits on them, and the order of the faults, are
-- this profile's choice.
use Rattle.std.specs.Prelude.{◌≡◌, ◌≢◌, ◌<◌, ◌≤◌, ◌^◌, ℕ, List, [], length, codes, All, IsTrue}
use Rattle.std.specs.Str.{is_utf8}
use Rattle.ym_header.specs.declared.stamp.Stamp.{Stamp}
use Rattle.ym_header.specs.declared.stamp.Stamp.TheVariants.{Nothing, Time, TimeMode}
use Rattle.ym_header.specs.declared.fault.HeaderFault.{HeaderFault}
use Rattle.ym_header.specs.declared.fault.HeaderFault.TheVariants.{NameEmpty, NameLong, NameUnsafe, NoLength, LengthLarge, Memory}
use Rattle.ym_header.specs.declared.limits.TheConstants.{MOST_LENGTH, MOST_NAME_BYTES}

-- a header as contracts see it
pub record HeaderParts : Type 0 where
  pub name : List ℕ
  pub length : ℕ
  pub stamp : Stamp

-- the largest length that a header may tell
abbrev pub length_limit : ℕ
length_limit = MOST_LENGTH

-- UTF-8 without control characters and slashes, and no name of a directory
pub record IsSafe (name : List ℕ) : Type 0 where
  pub utf8 : IsTrue (is_utf8 name)
  pub bytes : All (λ b. (0x20 ≤ b) × (b ≢ 0x2f)) name
  pub not_here : name ≢ codes "."
  pub not_above : name ≢ codes ".."

-- a safe name of some bytes, within their limit
pub record IsName (name : List ℕ) : Type 0 where
  pub some : 0 < length name
  pub short : length name ≤ MOST_NAME_BYTES
  pub safe : IsSafe name

-- the numbers fit the fields' types
abbrev pub IsStamp : Stamp → Type 0
IsStamp Nothing = Unit {0}
IsStamp (Time time) = time < 2 ^ 64
IsStamp (TimeMode time mode) = (time < 2 ^ 64) × (mode < 2 ^ 32)

-- a header within the limits, of which that on the length is given
pub record IsHeader (limit : ℕ) (h : HeaderParts) : Type 0 where
  pub name : IsName h.name
  pub length : h.length ≤ limit
  pub stamp : IsStamp h.stamp

-- the first fault of a name that has some bytes
abbrev pub IsNameFault : List ℕ → HeaderFault → Type 0
IsNameFault name NameLong = MOST_NAME_BYTES < length name
IsNameFault name NameUnsafe = (0 < length name) × (length name ≤ MOST_NAME_BYTES) × ¬ IsSafe name
IsNameFault name _ = ⊥

-- why there is no header of this name and length, the first that applies; want of memory where
-- nothing else does
abbrev pub IsRefused : ℕ → List ℕ → ℕ → HeaderFault → Type 0
IsRefused limit name len NameEmpty = name ≡ []
IsRefused limit name len NameLong = IsNameFault name NameLong
IsRefused limit name len NameUnsafe = IsNameFault name NameUnsafe
IsRefused limit name len NoLength = ⊥
IsRefused limit name len LengthLarge = IsName name × (limit < len)
IsRefused limit name len Memory = IsName name × (len ≤ limit)

-- why there is no header of this name and length where no memory is wanted
abbrev pub IsUnfit : ℕ → List ℕ → ℕ → HeaderFault → Type 0
IsUnfit limit name len Memory = ⊥
IsUnfit limit name len fault = IsRefused limit name len fault
