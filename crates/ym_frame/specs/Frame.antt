-- Frames, and what stands at the front of some bytes.
use Rattle.std.specs.Prelude.{◌≡◌, ℕ, ◌+◌, ◌-◌, ◌*◌, ◌/◌, ◌%◌, ◌<◌, ◌≤◌, ◌⊎◌, Bool, true, false, not, ◌&&◌, ◌||◌, nat_lt, ◌==◌, if◌then◌else◌, List, [], ◌∷◌, ◌++◌, length, take, drop, slice_index, Result, Ok, Err}
use Rattle.ym_check.specs.Check.{check_of}
use Rattle.ym_frame.specs.Block.{BlockParts}
use Rattle.ym_frame.specs.declared.frame.Item.{Item}
use Rattle.ym_frame.specs.declared.frame.Item.TheVariants.{Block, Eot, Cancel}
use Rattle.ym_frame.specs.declared.frame.Why.{Why}
use Rattle.ym_frame.specs.declared.frame.Why.TheVariants.{FirstByte, Complement, Check, SecondCan, Cut}
use Rattle.ym_frame.specs.declared.frame.Broken.{Broken}

-- ---- What a frame is
-- C. Forsberg, XMODEM/YMODEM Protocol Reference (1988): "Message Block Level Protocol, CRC mode"
-- and "XMODEM-1k 1024 Byte Block" for the two blocks, "Definitions" for EOT, "Graceful Abort" for
-- the two CAN in a row.

-- each number is a byte
abbrev pub IsBytes : List ℕ → Type 0
IsBytes bytes = (i : ℕ) → slice_index bytes i < 256

-- a first byte, the number, its complement, the body, and the check's high and low byte
abbrev pub block_frame : ℕ → BlockParts → List ℕ
block_frame first b =
    first ∷ b.number ∷ (255 - b.number) ∷
    (b.body ++ check_of b.body / 256 ∷ check_of b.body % 256 ∷ [])

-- 128 data bytes behind SOH
abbrev pub IsShortFrame : BlockParts → List ℕ → Type 0
IsShortFrame b bytes = (length b.body ≡ 128) × (bytes ≡ block_frame 0x01 b)

-- 1024 data bytes behind STX
abbrev pub IsLongFrame : BlockParts → List ℕ → Type 0
IsLongFrame b bytes = (length b.body ≡ 1024) × (bytes ≡ block_frame 0x02 b)

-- these bytes are the frame of this item: a short or a long block, the one byte EOT, or two bytes
-- CAN
abbrev pub IsFrame : Item → List ℕ → Type 0
IsFrame (Block b) bytes = IsShortFrame b bytes ⊎ IsLongFrame b bytes
IsFrame Eot bytes = bytes ≡ 0x04 ∷ []
IsFrame Cancel bytes = bytes ≡ 0x18 ∷ 0x18 ∷ []

-- the first so many bytes are the frame of this item
pub record BeginsWith (bytes : List ℕ) (item : Item) (len : ℕ) : Type 0 where
  pub within : len ≤ length bytes
  pub frame : IsFrame item (take len bytes)

-- some prefix is a frame
abbrev pub HasFrame : List ℕ → Type 0
HasFrame bytes = (item : Item) × (len : ℕ) × BeginsWith bytes item len

-- no prefix is a frame
abbrev pub HasNoFrame : List ℕ → Type 0
HasNoFrame bytes = (item : Item) (len : ℕ) → BeginsWith bytes item len → ⊥

-- ---- What is told where no prefix is a frame
-- This profile's choice: the place of the first byte that no frame can have there, and the reason.

abbrev pub fault_at : ℕ → Why → Broken
fault_at place why = record { place = place; why = why }

-- there is a byte at this place, and it passes the test
abbrev pub has_byte_where : List ℕ → ℕ → (ℕ → Bool) → Bool
has_byte_where bytes i passes = nat_lt i (length bytes) && passes (slice_index bytes i)

abbrev pub has_first : List ℕ → ℕ → Bool
has_first bytes first = has_byte_where bytes 0 (λ b. b == first)

-- where a block's frame has a body of this size: the body, and the check that stands behind it
abbrev pub body_of : ℕ → List ℕ → List ℕ
body_of size bytes = take size (drop 3 bytes)

abbrev pub check_field : ℕ → List ℕ → ℕ
check_field size bytes = slice_index bytes (size + 3) * 256 + slice_index bytes (size + 4)

-- all of a block's frame is there, and its check is not that of its body
abbrev pub check_differs : ℕ → List ℕ → Bool
check_differs size bytes =
    nat_lt (size + 4) (length bytes) &&
    not (check_of (body_of size bytes) == check_field size bytes)

-- the first line that applies
unfoldable pub fault_of : List ℕ → Broken
fault_of bytes =
    if has_byte_where bytes 0 (λ b. not (b == 0x01 || b == 0x02 || b == 0x04 || b == 0x18))
    then fault_at 0 FirstByte else
    if has_first bytes 0x18 && has_byte_where bytes 1 (λ b. not (b == 0x18))
    then fault_at 1 SecondCan else
    if (has_first bytes 0x01 || has_first bytes 0x02) &&
    has_byte_where bytes 2 (λ b. not (b == 255 - slice_index bytes 1))
    then fault_at 2 Complement else
    if has_first bytes 0x01 && check_differs 128 bytes then fault_at 131 Check else
    if has_first bytes 0x02 && check_differs 1024 bytes then fault_at 1027 Check else
    fault_at (length bytes) Cut

-- the item whose frame stands at the front with that frame's length, or where and why no prefix is
-- a frame
abbrev pub IsVerdict : List ℕ → Result (Item × ℕ) Broken → Type 0
IsVerdict bytes (Ok found) = BeginsWith bytes found.0 found.1
IsVerdict bytes (Err broken) = HasNoFrame bytes × (broken ≡ fault_of bytes)

-- ---- The same, computed

abbrev pub block_verdict : ℕ → List ℕ → Result (Item × ℕ) Broken
block_verdict size bytes =
    if has_byte_where bytes 2 (λ b. not (b == 255 - slice_index bytes 1))
    then Err (fault_at 2 Complement) else
    if nat_lt (length bytes) (size + 5) then Err (fault_at (length bytes) Cut) else
    if check_of (body_of size bytes) == check_field size bytes
    then Ok (Block (record { number = slice_index bytes 1; body = body_of size bytes }), size + 5)
    else Err (fault_at (size + 3) Check)

-- the verdict of a CAN and these bytes behind it
abbrev pub cancel_verdict : List ℕ → Result (Item × ℕ) Broken
cancel_verdict [] = Err (fault_at 1 Cut)
cancel_verdict (second ∷ more) =
    if second == 0x18 then Ok (Cancel, 2) else Err (fault_at 1 SecondCan)

-- the one verdict of these bytes, as `laws::one_verdict` says
unfoldable pub verdict_of : List ℕ → Result (Item × ℕ) Broken
verdict_of [] = Err (fault_at 0 Cut)
verdict_of (first ∷ more) =
    if first == 0x04 then Ok (Eot, 1) else
    if first == 0x18 then cancel_verdict more else
    if first == 0x01 then block_verdict 128 (first ∷ more) else
    if first == 0x02 then block_verdict 1024 (first ∷ more) else
    Err (fault_at 0 FirstByte)

-- ---- Whether more bytes can change a verdict

abbrev pub is_cut : Why → Bool
is_cut Cut = true
is_cut FirstByte = false
is_cut Complement = false
is_cut Check = false
is_cut SecondCan = false

-- the bytes may go on to a frame
abbrev pub IsOpen : Result (Item × ℕ) Broken → Type 0
IsOpen (Ok found) = ⊥
IsOpen (Err broken) = broken.why ≡ Cut
