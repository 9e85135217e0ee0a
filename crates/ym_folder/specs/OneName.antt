-- Names that a disk may take for one where it does not tell upper from lower case.
use Rattle.std.specs.Prelude.{◌≡◌, ℕ, List, [], ◌∷◌, Bool, true, false, not, ◌&&◌, ◌||◌, ◌==◌}
use Rattle.std.specs.Prelude.{All, codes}
use Rattle.std.specs.List.{Any, filter, list_all}
use Rattle.std.specs.Char.{is_ascii, eq_ignore_ascii_case}
use Rattle.ym_header.specs.Header.{HeaderParts}

-- What is left where a disk leaves out all that it may. HFS+ leaves out characters that take no
-- room, and none of these is ASCII.
abbrev pub plain : List ℕ → List ℕ
plain name = filter is_ascii name

-- a dot or a space: FAT leaves out those at the end of a name
abbrev pub is_left_out : ℕ → Bool
is_left_out byte = byte == 46 || byte == 32

-- this is that, but for the case of ASCII letters, and for dots and spaces behind it
abbrev pub is_but_for_case : List ℕ → List ℕ → Bool
is_but_for_case [] [] = true
is_but_for_case [] (other ∷ more) = false
is_but_for_case (byte ∷ rest) [] = is_left_out byte && is_but_for_case rest []
is_but_for_case (byte ∷ rest) (other ∷ more) =
    eq_ignore_ascii_case byte other && is_but_for_case rest more

-- it is `.part` from somewhere on
abbrev pub ends_in_part : List ℕ → Bool
ends_in_part [] = false
ends_in_part (byte ∷ rest) = is_but_for_case (byte ∷ rest) (codes ".part") || ends_in_part rest

-- some character of it is not ASCII: its case, or its normal form, is that of a disk's own table
abbrev pub is_of_a_table : List ℕ → Bool
is_of_a_table name = not (list_all is_ascii name)

-- A disk may have the file of this name under that of a part. Of characters that are not ASCII
-- nobody knows here which are one. But none of them is a dot or a letter of `.part` in another case
-- or in a normal form. So a name that is one with that of a part has these five itself.
abbrev pub may_be_one : List ℕ → List ℕ → Bool
may_be_one name part = is_but_for_case (plain name) (plain part)
    || ((is_of_a_table name || is_of_a_table part)
    && (ends_in_part (plain name) && ends_in_part (plain part)))

-- a disk may have one of these files under the name of a part, or can have none
abbrev pub SomeMayBe : List HeaderParts → List ℕ → Type 0
SomeMayBe files part = Any (λ (file : HeaderParts). may_be_one file.name part ≡ true) files

abbrev pub NoneMayBe : List HeaderParts → List ℕ → Type 0
NoneMayBe files part = All (λ (file : HeaderParts). may_be_one file.name part ≡ false) files
