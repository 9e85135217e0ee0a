-- A session in which a file is lost, and both ends finish: two files, of which the first has no
-- bytes, on a line that hands everything on 1.5 seconds later.
use Rattle.std.specs.Prelude.{◌≡◌, ℕ, List, [], ◌∷◌, true, false, Some, refl}
use Rattle.ym_heard.specs.declared.cancel.Opening.{Opening}
use Rattle.ym_port.specs.Turn.{new_turn, replied, is_other, out_of_turn}
use Rattle.ym_port.specs.declared.turn.Next.TheVariants.{Any, Repeat, Data}
use Rattle.ym_port.specs.declared.turn.Turn.{Turn}

abbrev ack : List ℕ
ack = 0x06 ∷ []

abbrev ack_start : List ℕ
ack_start = 0x06 ∷ 0x43 ∷ []

abbrev nak : List ℕ
nak = 0x15 ∷ []

abbrev start : List ℕ
start = 0x43 ∷ []

-- the block 0 of either file
abbrev first : Opening
first = record { length = 133; high = 0xBC; low = 0x44 }

abbrev second : Opening
second = record { length = 133; high = 0x7A; low = 0x09 }

-- it came
abbrev comes : Opening → Turn → Turn
comes zero t = record t { zero = Some zero }

-- the receiver asked twice before the first block 0 came, and got it twice
abbrev opened : Turn
opened = replied ack_start (comes first new_turn)

opened-next : opened.next ≡ Repeat first
opened-next = refl

repeated : is_other (Some first) opened.next ≡ false
repeated = refl

-- The EOT of that file is refused, and its sender takes the second ACK C for the EOT's. It goes on
-- to the second file: what comes now is no repeat.
abbrev refused : Turn
refused = replied nak (replied ack_start (comes first opened))

lost : is_other (Some second) refused.next ≡ true
lost = refl

-- it is handed on as a block that is out of turn
lost-given : out_of_turn (0x01 ∷ 0x00 ∷ 0xFF ∷ 0x62 ∷ []) ≡ 0x01 ∷ 0x02 ∷ 0xFD ∷ 0x62 ∷ []
lost-given = refl

-- C, where a delivery was no frame, changes nothing
lost-later : is_other (Some second) (replied start refused).next ≡ true
lost-later = refl

-- ---- Where nothing went wrong

-- the second EOT is acknowledged: the second file may come
stored : (replied ack_start refused).next ≡ Any
stored = refl

-- a data block is taken: number 0 may be that of data block 256
data_taken : (replied ack opened).next ≡ Data
data_taken = refl

data_stored : (replied ack_start (replied nak (replied ack opened))).next ≡ Any
data_stored = refl
