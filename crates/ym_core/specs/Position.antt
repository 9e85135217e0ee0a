-- The frames of a batch, in order, as positions: of each file its block 0, its data blocks and its
-- EOT, and behind the last file the end block. A batch is given as the number of data blocks of
-- each file. (XMODEM/YMODEM Protocol Reference, "YMODEM Batch File Transmission".)
use Rattle.std.specs.Prelude.{ℕ, ◌+◌, ◌<◌, ◌≤◌, nat_lt, if◌then◌else◌, List, [], ◌∷◌, length, slice_index_or}
use Rattle.ym_core.specs.declared.position.Position.{Position}
use Rattle.ym_core.specs.declared.position.Position.TheVariants.{Header, Block, Eot, End}

-- how many data blocks file number i has, counted from 0
abbrev pub count_at : List ℕ → ℕ → ℕ
count_at counts i = slice_index_or counts i 0

-- a place of this batch: data blocks are counted from 1
abbrev pub IsPosition : List ℕ → Position → Type 0
IsPosition counts (Header file) = file < length counts
IsPosition counts (Block file k) = (file < length counts) × (1 ≤ k) × (k ≤ count_at counts file)
IsPosition counts (Eot file) = file < length counts
IsPosition counts End = Unit {0}

abbrev pub first_of : List ℕ → Position
first_of [] = End
first_of (count ∷ more) = Header 0

abbrev pub next_of : List ℕ → Position → Position
next_of counts (Header file) = if nat_lt 0 (count_at counts file) then Block file 1 else Eot file
next_of counts (Block file k) =
    if nat_lt k (count_at counts file) then Block file (k + 1) else Eot file
next_of counts (Eot file) = if nat_lt (file + 1) (length counts) then Header (file + 1) else End
next_of counts End = End

-- how many EOTs stand before this position, of a batch of so many files
abbrev pub done_at : ℕ → Position → ℕ
done_at files (Header file) = file
done_at files (Block file k) = file
done_at files (Eot file) = file
done_at files End = files
