-- Lines with a file without bytes, computed. Its EOT is acknowledged also by a receiver that never
-- saw its block 0. A block is shortened to its head and a few bytes more.
use Rattle.std.specs.Prelude.{◌≡◌, ℕ, List, [], ◌∷◌, ◌++◌, true, refl}
use Rattle.ym_timing.specs.Clears.{purge, clear_at}
use Rattle.ym_timing.specs.Out.{again, one}
use Rattle.ym_timing.specs.ByteRows.{heard_of, after_bytes, writes}
use Rattle.ym_timing.specs.Timing.{new_timing}
use Rattle.ym_timing.specs.TimingExamples.{opening, block_2, block_3, eot, ack, start, ack_start}
use Rattle.ym_timing.specs.TimingExamples.{nak, quick, asked}
use Rattle.ym_timing.specs.declared.role.Role.TheVariants.{Sender}
use Rattle.ym_timing.specs.declared.timing.Timing.{Timing}

abbrev opening_empty : List ℕ
opening_empty = 0x01 ∷ 0x00 ∷ 0xFF ∷ 0x62 ∷ 0x00 ∷ 0x30 ∷ 0x20 ∷ 0x1A ∷ []

-- An EOT was written three times, and the answer to one of them came. Those to the others are
-- overdue long before block 0 of the next file is written.
abbrev stored_late : Timing
stored_late = after_bytes ack_start eot 24000 (writes eot 21036 (writes eot 11036 (writes eot 1036
    (after_bytes ack block_2 1036 quick))))

stored_late-clear : clear_at (purge opening_empty 24000 stored_late) stored_late ≡ 25250
stored_late-clear = refl

-- Yet another one comes. It says nothing of block 0, and is not heard: a receiver that has no block
-- 0 would acknowledge the EOT of this file, too.
abbrev stale : Timing
stale = after_bytes ack_start opening_empty 31000 (writes opening_empty 25250 stored_late)

stale-heard : heard_of ack_start opening_empty 31000 (writes opening_empty 25250 stored_late) ≡ []
stale-heard = refl

-- so block 0 is asked for, written once more and answered
stale-asked : heard_of start opening_empty 34000 stale ≡ start
stale-asked = refl

stale-answered : heard_of ack_start opening_empty 34012 (writes opening_empty 34000
    (after_bytes start opening_empty 34000 stale)) ≡ ack_start
stale-answered = refl

-- The C of the ACK that was dropped is no ask, however soon it came, and the next one is.
stale_soon : heard_of (ack_start ++ start) opening_empty 25750 (writes opening_empty 25250
    stored_late) ≡ []
stale_soon = refl

stale_soon-asked : heard_of start opening_empty 28750 (after_bytes ack_start opening_empty 25750
    (writes opening_empty 25250 stored_late)) ≡ start
stale_soon-asked = refl

-- The first block 0 of all is such a one, and asked for so soon that its peer most likely lacks it.
-- Its sender had started late, and the ask before may have waited for it. So both may be answered.
first_empty : (writes opening_empty 2200 (after_bytes start opening_empty 2200
    (writes opening_empty 1000 (after_bytes start [] 1000 (new_timing Sender))))).out
    ≡ again true 2200 (one 1000)
first_empty = refl

-- A file with bytes needs no such care: its block 1 is refused by who has no block 0.
stale-other : heard_of ack_start opening 31000 (writes opening 25250 stored_late) ≡ ack_start
stale-other = refl

-- A line may double that ACK. Neither counts, and the C behind them is theirs.
stale_doubled : heard_of (ack ++ ack_start) opening_empty 31000 (writes opening_empty 25250
    stored_late) ≡ []
stale_doubled = refl

stale_doubled-answered : heard_of ack_start opening_empty 34012 (writes opening_empty 34000
    (after_bytes start opening_empty 34000 (after_bytes (ack ++ ack_start) opening_empty 31000
    (writes opening_empty 25250 stored_late)))) ≡ ack_start
stale_doubled-answered = refl

-- ---- A frame that was written again

-- block 2 was asked for again, and answered: yet another answer to it may come
abbrev copied : Timing
copied = after_bytes ack block_2 3112 asked

-- so it is behind an EOT, and an empty file behind that has to be answered once more
copied-heard : heard_of ack_start opening_empty 3148 (writes opening_empty 3136
    (after_bytes ack_start eot 3136 (writes eot 3124 copied))) ≡ []
copied-heard = refl

-- a block that is answered alone shows that there is none
calm-heard : heard_of ack_start opening_empty 3160 (writes opening_empty 3148
    (after_bytes ack_start eot 3148 (writes eot 3136 (after_bytes ack block_3 3136
    (writes block_3 3124 copied))))) ≡ ack_start
calm-heard = refl

-- An EOT that is refused once, by a receiver that confirms twice, shows nothing; twice does.
abbrev refused : Timing
refused = after_bytes nak eot 1048 (writes eot 1036 (after_bytes ack block_2 1036 quick))

refused-heard : heard_of ack_start opening_empty 1072 (writes opening_empty 1060
    (after_bytes ack_start eot 1060 (writes eot 1048 refused))) ≡ ack_start
refused-heard = refl

refused_twice-heard : heard_of ack_start opening_empty 1084 (writes opening_empty 1072
    (after_bytes ack_start eot 1072 (writes eot 1060 (after_bytes nak eot 1060
    (writes eot 1048 refused))))) ≡ []
refused_twice-heard = refl
