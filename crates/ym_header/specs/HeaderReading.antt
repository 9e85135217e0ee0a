-- Block 0 as read. An empty name ends the batch, as the reference says in "YMODEM Batch File
-- Transmission". This profile chose that a length is required, its limit, and the order of the
-- faults.
use Rattle.std.specs.Prelude.{◌≡◌, ◌<◌, ◌≤◌, ℕ, List, [], length, Result, Ok, Err}
use Rattle.std.specs.Str.Parse.{digits_value}
use Rattle.ym_header.specs.Header.{HeaderParts, IsName, IsNameFault}
use Rattle.ym_header.specs.Split.{name_in, behind_name, digits_in, behind_digits, ReadsStamp}
use Rattle.ym_header.specs.declared.fault.HeaderFault.{HeaderFault}
use Rattle.ym_header.specs.declared.fault.HeaderFault.TheVariants.{NameLong, NameUnsafe, NoLength, LengthLarge, Memory}
use Rattle.ym_header.specs.declared.reading.Zero.{Zero}
use Rattle.ym_header.specs.declared.reading.Zero.TheVariants.{File, End}
use Rattle.ym_header.specs.declared.reading.ZeroRef.{ZeroRef}
use Rattle.ym_header.specs.declared.reading.ZeroRef.TheVariants as borrowed

-- the digits of the length that a body tells, and what stands behind them
abbrev pub length_in : List ℕ → List ℕ
length_in body = digits_in (behind_name body)

abbrev pub behind_length : List ℕ → List ℕ
behind_length body = behind_digits (behind_name body)

-- a body is read as a header, where the length has a limit
pub record ReadsHeader (limit : ℕ) (body : List ℕ) (h : HeaderParts) : Type 0 where
  pub name : h.name ≡ name_in body
  pub safe : IsName h.name
  pub digits : 0 < length (length_in body)
  pub length : h.length ≡ digits_value 10 (length_in body)
  pub fits : h.length ≤ limit
  pub stamp : ReadsStamp (behind_length body) h.stamp

-- what a body stands for: the end where its name is empty, whatever follows, else a header
abbrev pub Reads : ℕ → List ℕ → Zero → Type 0
Reads limit body End = name_in body ≡ []
Reads limit body (File h) = ReadsHeader limit body h

-- why a body stands for nothing, the first that applies
abbrev pub IsFault : ℕ → List ℕ → HeaderFault → Type 0
IsFault limit body NameLong = IsNameFault (name_in body) NameLong
IsFault limit body NameUnsafe = IsNameFault (name_in body) NameUnsafe
IsFault limit body NoLength = IsName (name_in body) × (length_in body ≡ [])
IsFault limit body LengthLarge =
    IsName (name_in body) × (0 < length (length_in body)) ×
    (limit < digits_value 10 (length_in body))
IsFault limit body _ = ⊥

-- what reading may answer: what the body stands for, or its fault; want of memory in place of a
-- header
abbrev pub IsAnswer : ℕ → List ℕ → Result Zero HeaderFault → Type 0
IsAnswer limit body (Ok zero) = Reads limit body zero
IsAnswer limit body (Err Memory) = (h : HeaderParts) × ReadsHeader limit body h
IsAnswer limit body (Err fault) = IsFault limit body fault

-- a borrowed block 0 as one that owns its name: contracts see their headers alike
abbrev pub owned : ZeroRef → Zero
owned (borrowed.File h) = File h
owned borrowed.End = End

-- what reading without memory may answer: what the body stands for, or its fault
abbrev pub IsBorrowedAnswer : ℕ → List ℕ → Result ZeroRef HeaderFault → Type 0
IsBorrowedAnswer limit body (Ok zero) = Reads limit body (owned zero)
IsBorrowedAnswer limit body (Err fault) = IsFault limit body fault

-- what the digits of a length alone may answer
abbrev pub IsLengthAnswer : ℕ → List ℕ → Result ℕ HeaderFault → Type 0
IsLengthAnswer limit digits (Ok n) =
    (0 < length digits) × (n ≡ digits_value 10 digits) × (n ≤ limit)
IsLengthAnswer limit digits (Err NoLength) = digits ≡ []
IsLengthAnswer limit digits (Err LengthLarge) =
    (0 < length digits) × (limit < digits_value 10 digits)
IsLengthAnswer limit digits (Err _) = ⊥
