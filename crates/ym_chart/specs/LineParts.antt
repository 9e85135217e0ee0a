-- The parts of a line that tells a frame or an answer: its moment, the way, the name of what it
-- tells, and what is said of that.
use Rattle.std.specs.Prelude.{ℕ, ◌+◌, ◌==◌, nat_le, not, ◌&&◌, ◌||◌, Bool, if◌then◌else◌, List, [], ◌∷◌, length, take, drop, take_while, Option, Some, None, codes}
use Rattle.std.specs.Str.{bytes_eq}
use Rattle.ym_told.specs.declared.way.Direction.{Direction}
use Rattle.ym_told.specs.declared.way.Direction.TheVariants.{There, Back}
use Rattle.ym_chart.specs.declared.arrow.Kind.{Kind}
use Rattle.ym_chart.specs.declared.arrow.Kind.TheVariants.{Next, Takes, Plain, Odd}

-- a digit or the point
abbrev pub is_of_moment : ℕ → Bool
is_of_moment byte = (nat_le 0x30 byte && nat_le byte 0x39) || byte == 0x2e

abbrev pub moment_len : List ℕ → ℕ
moment_len line = length (take_while is_of_moment line)

abbrev pub moment_of : List ℕ → List ℕ
moment_of line = take (moment_len line) line

-- what stands behind the moment and its space
abbrev pub undated : List ℕ → List ℕ
undated line = if moment_len line == 0 then line else drop (moment_len line + 1) line

-- `> ` is from the sender, and `< ` from the receiver
abbrev pub way_of : List ℕ → Option Direction
way_of line =
    if bytes_eq (take 2 line) (codes "> ") then Some There
    else (if bytes_eq (take 2 line) (codes "< ") then Some Back else None)

-- so is a line of a file
abbrev pub is_indented : List ℕ → Bool
is_indented line = bytes_eq (take 2 line) (codes "  ")

-- a name ends at a comma or a colon, behind which a space stands
abbrev pub name_len : List ℕ → ℕ
name_len words = length (take_while (λ byte. not (byte == 0x2c || byte == 0x3a)) words)

abbrev pub name_of : List ℕ → List ℕ
name_of words = take (name_len words) words

abbrev pub said_of : List ℕ → List ℕ
said_of words = drop (name_len words + 2) words

abbrev pub head_len : List ℕ → ℕ
head_len words = length (take_while (λ byte. not (byte == 0x3a)) words)

-- what stands behind the colon
abbrev pub sense_of : List ℕ → List ℕ
sense_of words = drop (head_len words + 2) words

abbrev pub block_kind : List ℕ → Kind
block_kind sense =
    if bytes_eq sense (codes "the next") then Next
    else (if bytes_eq sense (codes "begins a file") || bytes_eq sense (codes "ends the batch")
    then Plain else Odd)

-- what belongs to a session in which nothing is lost: each first EOT is refused there
abbrev pub is_plain : List ℕ → Bool
is_plain words =
    bytes_eq words (codes "C: asks for a file")
    || bytes_eq words (codes "C: asks for what comes next")
    || bytes_eq words (codes "EOT: ends the file")
    || bytes_eq words (codes "EOT: once more, as asked")
    || bytes_eq words (codes "NAK: wants the EOT once more, as of each first one")

abbrev pub kind_of : List ℕ → Kind
kind_of words =
    if bytes_eq (take 6 words) (codes "block ") then block_kind (sense_of words)
    else (if bytes_eq words (codes "ACK: took it") then Takes
    else (if is_plain words then Plain else Odd))
