-- What an end wrote last, and what it was: a frame's number alone does not tell block 0 of a file
-- from its data block 256 (this profile).
use Rattle.std.specs.Prelude.{ℕ, nat_eq, nat_le, ◌==◌, ◌&&◌, Bool, true, false, List, drop, length}
use Rattle.std.specs.Prelude.{slice_index}
use Rattle.std.specs.Prelude.{if◌then◌else◌}
use Rattle.std.specs.List.{after_first}
use Rattle.ym_heard.specs.declared.sent.Kind.{Kind}
use Rattle.ym_heard.specs.declared.sent.Kind.TheVariants.{Nothing, Opening, Empty, Data, Eot, End}
use Rattle.ym_heard.specs.declared.sent.Kind.TheVariants.{Short}
use Rattle.ym_heard.specs.declared.sent.Sent.{Sent}

-- block 0 of a file
abbrev pub opens : Kind → Bool
opens Opening = true
opens Empty = true
opens _ = false

-- the block that ends the batch
abbrev pub ends : Kind → Bool
ends End = true
ends _ = false

abbrev pub nothing : Sent
nothing = record { length = 0; first = 0; second = 0; kind = Nothing }

abbrev pub byte_at : List ℕ → ℕ → ℕ
byte_at bytes place = slice_index bytes place

abbrev pub is_zero : ℕ → Bool
is_zero byte = byte == 0

-- behind a block 0's head stand the name, 00, and the file's length in digits (the reference's
-- "YMODEM Batch File Transmission")
abbrev pub behind_name : List ℕ → List ℕ
behind_name body = after_first is_zero body

-- it says that its file has no bytes: an end writes no 0 in front of a length
abbrev pub is_empty : List ℕ → Bool
is_empty bytes = nat_eq (byte_at (behind_name (drop 3 bytes)) 0) 0x30

-- an empty name ends the batch
abbrev pub first_kind : List ℕ → Kind
first_kind bytes =
    if nat_eq (byte_at bytes 3) 0 then End else (if is_empty bytes then Empty else Opening)

-- the first block of a file stands at the front of a batch, or behind an EOT
abbrev pub zero_kind : Kind → List ℕ → Kind
zero_kind Nothing bytes = first_kind bytes
zero_kind Eot bytes = first_kind bytes
zero_kind Short bytes = first_kind bytes
zero_kind Opening bytes = Opening
zero_kind Empty bytes = Empty
zero_kind Data bytes = Data
zero_kind End bytes = End

abbrev pub block_kind : Kind → List ℕ → Kind
block_kind last bytes = if nat_eq (byte_at bytes 1) 0 then zero_kind last bytes else Data

abbrev pub kind_of : Kind → List ℕ → Kind
kind_of last bytes =
    if nat_eq (length bytes) 1 then Eot else (if nat_le (length bytes) 3 then Short
    else block_kind last bytes)

-- what tells a frame from the one before
abbrev pub named : Sent → List ℕ → Sent
named last bytes = record {
  length = length bytes;
  first = byte_at bytes 0;
  second = byte_at bytes 1;
  kind = last.kind;
}

abbrev pub next : Sent → List ℕ → Sent
next last bytes = record {
  length = length bytes;
  first = byte_at bytes 0;
  second = byte_at bytes 1;
  kind = kind_of last.kind bytes;
}

-- frames that follow one another differ in their length or their number
abbrev pub is_same : Sent → Sent → Bool
is_same a b = nat_eq a.length b.length && nat_eq a.first b.first && nat_eq a.second b.second
