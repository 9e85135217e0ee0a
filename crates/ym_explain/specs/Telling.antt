-- What a whole frame of the sender is at its place, and where the sender stands behind it.
--
-- C. Forsberg, XMODEM/YMODEM Protocol Reference (1988): a block 0 begins each file and, with no
-- name, ends the batch; data blocks count from 1, modulo 256; EOT ends a file; a frame that was not
-- acknowledged comes again.
use Rattle.std.specs.Prelude.{ℕ, ◌+◌, ◌%◌, ◌==◌, nat_lt, Bool, if◌then◌else◌, slice_index}
use Rattle.ym_frame.specs.declared.frame.Item.{Item}
use Rattle.ym_frame.specs.declared.frame.Item.TheVariants as item
use Rattle.ym_explain.specs.declared.told.FrameKind.{FrameKind}
use Rattle.ym_explain.specs.declared.told.FrameKind.TheVariants.{Name, End, Data, Eot, Copy, OutOfTurn, Late, Cancel}
use Rattle.ym_explain.specs.declared.told.SendPosition.{SendPosition}
use Rattle.ym_explain.specs.declared.told.SendPosition.TheVariants as position
use Rattle.ym_explain.specs.declared.told.Told.{Told}

abbrev pub tells : FrameKind → SendPosition → Told
tells kind at = record { kind = kind; position = at }

-- behind the block of the last number: the same once more, the next, or any other
abbrev pub number_kind : ℕ → ℕ → FrameKind
number_kind last number =
    if number == last then Copy else
    if number == (last + 1) % 256 then Data else
    OutOfTurn

-- where a file may begin: its block 0, or one without a name, which is the end or a copy of it
abbrev pub zero_kind : ℕ → Bool → FrameKind → FrameKind
zero_kind number nameless end =
    if number == 0 then if nameless then end else Name else OutOfTurn

-- The first block of all: a file may begin, and one of XMODEM begins with number 1. Before any
-- other one blocks of its file were not recorded.
abbrev pub first_kind : ℕ → Bool → FrameKind
first_kind number nameless = if nat_lt 1 number then Late else zero_kind number nameless End

-- A block by its number, and by whether its body begins with 00, as a nameless block 0 does. Behind
-- the end a block 0 with a name begins another batch.
abbrev pub block_kind : SendPosition → ℕ → Bool → FrameKind
block_kind position.Before number nameless = first_kind number nameless
block_kind position.Ended number nameless = zero_kind number nameless End
block_kind position.Named number nameless = number_kind 0 number
block_kind (position.Data last) number nameless = number_kind last number
block_kind position.Over number nameless = zero_kind number nameless Copy

-- A copy leaves the sender where it was. From a block out of turn on the numbers count on.
abbrev pub position_behind : SendPosition → ℕ → FrameKind → SendPosition
position_behind at number Name = position.Named
position_behind at number End = position.Over
position_behind at number Data = position.Data number
position_behind at number OutOfTurn = position.Data number
position_behind at number Late = position.Data number
position_behind at number Copy = at
position_behind at number Eot = at
position_behind at number Cancel = at

abbrev pub eot_told : SendPosition → Told
eot_told position.Named = tells Eot position.Ended
eot_told (position.Data last) = tells Eot position.Ended
eot_told position.Ended = tells Copy position.Ended
eot_told position.Before = tells OutOfTurn position.Before
eot_told position.Over = tells OutOfTurn position.Over

abbrev pub told_of : SendPosition → Item → Told
told_of at (item.Block b) =
    tells (block_kind at b.number (slice_index b.body 0 == 0))
    (position_behind at b.number (block_kind at b.number (slice_index b.body 0 == 0)))
told_of at item.Eot = eot_told at
told_of at item.Cancel = tells Cancel at
