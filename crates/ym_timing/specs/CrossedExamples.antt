-- Asks that crossed what they ask for, computed.
use Rattle.std.specs.Prelude.{◌≡◌, [], ◌++◌, refl}
use Rattle.ym_timing.specs.ByteRows.{after_bytes, heard_of, writes}
use Rattle.ym_timing.specs.Clears.{clear_at, purge}
use Rattle.ym_timing.specs.Pace.{last_sample}
use Rattle.ym_timing.specs.Timing.{new_timing, until}
use Rattle.ym_timing.specs.TimingExamples.{ack, ack_start, block_1, block_2, end_block, nak}
use Rattle.ym_timing.specs.TimingExamples.{opening, start}
use Rattle.ym_timing.specs.declared.pace.Trust.TheVariants.{Doubtful, Sure}
use Rattle.ym_timing.specs.declared.role.Role.TheVariants.{Sender}
use Rattle.ym_timing.specs.declared.timing.Expected.TheVariants.{Reply}
use Rattle.ym_timing.specs.declared.timing.Timing.{Timing}

-- ---- Block 0

-- rb acknowledges a block 0 that comes twice, and says no C; then it asks for block 1 by NAK
abbrev twice : Timing
twice = after_bytes ack opening 18000 (writes opening 9000 (after_bytes start opening 9000
    (writes opening 1000 (new_timing Sender))))

twice-starts : heard_of nak opening 28000 twice ≡ start
twice-starts = refl

-- without an ACK it asks for block 0, and behind another frame for that
alone-heard : heard_of nak opening 9000 (writes opening 1000 (new_timing Sender)) ≡ nak
alone-heard = refl

-- behind the ACK of one that was written once it is of a receiver of XMODEM, and heard as it is
once-heard : heard_of nak opening 19000 (after_bytes ack opening 9000
    (writes opening 1000 (new_timing Sender))) ≡ nak
once-heard = refl

later-heard : heard_of nak block_1 29000 (writes block_1 28000
    (after_bytes nak opening 28000 twice)) ≡ nak
later-heard = refl

-- ---- The end block

-- C and the ACK come at once, and the engine hears the C: the block is written again
abbrev crossed : Timing
crossed = writes end_block 9000 (after_bytes (start ++ ack) end_block 9000
    (writes end_block 1000 (new_timing Sender)))

-- the ACK counts when a moment has passed
crossed-until : until Reply 9000 crossed ≡ 9100
crossed-until = refl

-- where that ACK did not come, the reply is waited for
asked-until : until Reply 9000 (writes end_block 9000 (after_bytes start end_block 9000
    (writes end_block 1000 (new_timing Sender)))) ≡ 11500
asked-until = refl

-- ---- How long answers take

-- the answer may be that of the first write, 9 seconds ago, or that of the last, one second ago
either : last_sample 1000 (record { slowest = 9000; trust = Doubtful })
    ≡ record { slowest = 7000; trust = Doubtful }
either = refl

-- where nothing better was known it is taken for that of the last
sooner : last_sample 9000 (record { slowest = 1000; trust = Doubtful })
    ≡ record { slowest = 9000; trust = Sure }
sooner = refl

-- ---- rb, where answers take 22 seconds: it drops what comes in the second before it asks

abbrev three_out : Timing
three_out = writes block_1 43000 (after_bytes nak block_1 43000 (writes block_1 33000
    (after_bytes nak block_1 33000 (writes block_1 23000 (after_bytes ack_start opening 23000
    (writes opening 1000 (after_bytes start [] 1000 (new_timing Sender))))))))

abbrev one_answered : Timing
one_answered = after_bytes ack block_1 45000 three_out

-- two answers may come yet, and the second copy may be dropped: so twice ten seconds are let pass
one_answered-clear : clear_at (purge block_2 45000 one_answered) one_answered ≡ 67000
one_answered-clear = refl
