-- A sender of one file of two data blocks, computed: the file is number 0, and its frames are its
-- block 0, blocks 1 and 2, its EOT, and the end block.
use Rattle.std.specs.Prelude.{◌≡◌, ℕ, List, [], ◌∷◌, true, false, Some, refl}
use Rattle.ym_core.specs.Scan.{controls_in}
use Rattle.ym_core.specs.Standing.{step, hears, is_settled}
use Rattle.ym_core.specs.declared.position.Position.{Position}
use Rattle.ym_core.specs.declared.position.Position.TheVariants.{Header, Block, Eot, End}
use Rattle.ym_core.specs.declared.position.Mode.{Mode}
use Rattle.ym_core.specs.declared.position.Mode.TheVariants.{Waiting, Sent}
use Rattle.ym_core.specs.declared.standing.Standing.{Standing}
use Rattle.ym_core.specs.declared.standing.SendStep.{SendStep as Step}
use Rattle.ym_core.specs.declared.state.SendState.TheVariants.{Running, NoReply, Cancelled}

abbrev two_blocks : List ℕ
two_blocks = 2 ∷ []

-- the sender at a position
abbrev at : Position → Mode → Standing
at position mode =
    record {
      position = position;
      mode = mode;
      retries = 0;
      state = Running;
      cancel_pending = false;
    }

-- what a delivery of these bytes does to it
abbrev after : Position → Mode → List ℕ → Step
after position mode bytes = hears two_blocks (at position mode) (controls_in bytes)

-- the frame of the position is filled and sent
abbrev sends : Position → Step
sends position = record { standing = at position Sent; fills = Some position }

-- one more delivery without progress
abbrev missed_at : Position → Mode → Step
missed_at position mode = step (record (at position mode) { retries = 1 })

start_asks : after (Header 0) Waiting (0x43 ∷ []) ≡ sends (Header 0)
start_asks = refl

ack_and_start : after (Header 0) Sent (0x06 ∷ 0x43 ∷ []) ≡ sends (Block 0 1)
ack_and_start = refl

ack_waits : after (Header 0) Sent (0x06 ∷ []) ≡ step (at (Block 0 1) Waiting)
ack_waits = refl

-- C never acknowledges
start_is_no_ack : after (Header 0) Sent (0x43 ∷ []) ≡ missed_at (Header 0) Sent
start_is_no_ack = refl

next_block : after (Block 0 1) Sent (0x06 ∷ []) ≡ sends (Block 0 2)
next_block = refl

-- behind a data block the scan stops at ACK
no_more_is_read : after (Block 0 1) Sent (0x06 ∷ 0x18 ∷ 0x18 ∷ []) ≡ sends (Block 0 2)
no_more_is_read = refl

-- behind an EOT it goes on, and no end takes back that the file is done
done_and_cancelled :
    after (Eot 0) Sent (0x06 ∷ 0x18 ∷ 0x18 ∷ []) ≡
    step (record (at End Waiting) { state = Cancelled })
done_and_cancelled = refl

-- bytes that are no control byte are dropped first, so two CAN may stand apart; a NAK between them
-- parts them
apart :
    after (Eot 0) Waiting (0x18 ∷ 0x00 ∷ 0x18 ∷ []) ≡
    step (record (at (Eot 0) Waiting) { state = Cancelled })
apart = refl

parted : after (Eot 0) Waiting (0x18 ∷ 0x15 ∷ 0x18 ∷ []) ≡ missed_at (Eot 0) Waiting
parted = refl

-- the tenth delivery without progress
gives_up : hears two_blocks (record (at (Block 0 2) Sent) { retries = 9 }) (controls_in (0x15 ∷ []))
    ≡ step (record (at (Block 0 2) Sent) { retries = 10; state = NoReply; cancel_pending = true })
gives_up = refl

-- ACK of a block 0 is not settled: C may follow
open_at_ack : is_settled two_blocks (at (Header 0) Sent) (controls_in (0x06 ∷ [])) ≡ false
open_at_ack = refl

settled_at_start :
    is_settled two_blocks (at (Header 0) Sent) (controls_in (0x06 ∷ 0x43 ∷ [])) ≡ true
settled_at_start = refl
