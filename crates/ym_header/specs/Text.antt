-- Block 0 as written. The fields, their bases and the 00 that fills the block are the reference's
-- ("YMODEM Batch File Transmission"). This profile chose to write no leading zeros, no further
-- fields, and the smaller block where it has room.
use Rattle.std.specs.Prelude.{ℕ, ◌-◌, List, [], ◌∷◌, ◌++◌, length, nat_lt, if◌then◌else◌, decimal, replicate, false}
use Rattle.std.specs.Fmt.{digits}
use Rattle.ym_header.specs.Header.{HeaderParts}
use Rattle.ym_header.specs.declared.stamp.Stamp.{Stamp}
use Rattle.ym_header.specs.declared.stamp.Stamp.TheVariants.{Nothing, Time, TimeMode}

-- a number in octal, without leading zeros
abbrev pub octal : ℕ → List ℕ
octal n = digits 8 false n

-- a space, and the number in octal
abbrev pub field : ℕ → List ℕ
field n = 0x20 ∷ octal n

abbrev pub stamp_text : Stamp → List ℕ
stamp_text Nothing = []
stamp_text (Time time) = field time
stamp_text (TimeMode time mode) = field time ++ field mode

-- the name, 00, the length in decimal and the stamp's fields
abbrev pub fields : HeaderParts → List ℕ
fields h = h.name ++ (0 ∷ []) ++ decimal h.length ++ stamp_text h.stamp

-- the size of the smallest body that has room for one closing 00
abbrev pub size_for : ℕ → ℕ
size_for len = if nat_lt len 128 then 128 else 1024

-- filled with 00 to that size
abbrev pub padded : List ℕ → List ℕ
padded bytes = bytes ++ replicate (size_for (length bytes) - length bytes) 0

-- the body that stands for a header
abbrev pub text : HeaderParts → List ℕ
text h = padded (fields h)

-- the body that ends a batch
abbrev pub end_text : List ℕ
end_text = replicate 128 0
