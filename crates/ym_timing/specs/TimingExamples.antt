-- Lines, computed. A block is shortened to its head and two more bytes.
use Rattle.std.specs.Prelude.{◌≡◌, ℕ, List, [], ◌∷◌, ◌++◌, true, refl}
use Rattle.ym_timing.specs.Clears.{purge, clear_at}
use Rattle.ym_timing.specs.Out.{again, one, late}
use Rattle.ym_timing.specs.Pace.{bound}
use Rattle.ym_timing.specs.ByteRows.{heard_of, after_bytes, writes}
use Rattle.ym_heard.specs.Times.{new_clock, told, waited}
use Rattle.ym_timing.specs.Timing.{new_timing, until, after_vain}
use Rattle.ym_timing.specs.declared.pace.Trust.TheVariants.{Doubtful, Sure}
use Rattle.ym_timing.specs.declared.role.Role.TheVariants.{Sender, Receiver}
use Rattle.ym_timing.specs.declared.timing.Timing.{Timing}
use Rattle.ym_timing.specs.declared.timing.Expected.TheVariants.{Reply, Within}

abbrev pub opening : List ℕ
opening = 0x01 ∷ 0x00 ∷ 0xFF ∷ 0x61 ∷ 0x1A ∷ []

abbrev pub block_1 : List ℕ
block_1 = 0x01 ∷ 0x01 ∷ 0xFE ∷ 0x06 ∷ 0x1A ∷ []

abbrev pub block_2 : List ℕ
block_2 = 0x01 ∷ 0x02 ∷ 0xFD ∷ 0x06 ∷ 0x1A ∷ []

abbrev pub block_3 : List ℕ
block_3 = 0x01 ∷ 0x03 ∷ 0xFC ∷ 0x06 ∷ 0x1A ∷ []

abbrev pub eot : List ℕ
eot = 0x04 ∷ []

abbrev pub end_block : List ℕ
end_block = 0x01 ∷ 0x00 ∷ 0xFF ∷ 0x00 ∷ 0x1A ∷ []

abbrev pub ack : List ℕ
ack = 0x06 ∷ []

abbrev pub start : List ℕ
start = 0x43 ∷ []

abbrev pub ack_start : List ℕ
ack_start = 0x06 ∷ 0x43 ∷ []

abbrev pub nak : List ℕ
nak = 0x15 ∷ []

abbrev cancel : List ℕ
cancel = 0x18 ∷ 0x18 ∷ []

-- ---- A clean line

-- a sender whose block 1 was answered in 12, and which has just written block 2
abbrev pub quick : Timing
quick = writes block_2 1024 (after_bytes ack block_1 1024 (writes block_1 1012
    (after_bytes ack_start opening 1012 (writes opening 1000 (new_timing Sender)))))

quick-pace : quick.pace ≡ record { slowest = 12; trust = Sure }
quick-pace = refl

-- each write was answered: nothing is let clear, and nothing waits
quick-clear : clear_at (purge block_3 1036 (after_bytes ack block_2 1036 quick))
    (after_bytes ack block_2 1036 quick) ≡ 0
quick-clear = refl

-- ---- U-Boot, and a damaged block

-- it asks by C when two seconds brought no more of the block: no peer asks unasked so soon
abbrev pub asked : Timing
asked = writes block_2 3100 (after_bytes start block_2 3100 quick)

asked-out : asked.out ≡ one 3100
asked-out = refl

asked-clear : clear_at (purge block_3 3112 (after_bytes ack block_2 3112 asked))
    (after_bytes ack block_2 3112 asked) ≡ 0
asked-clear = refl

-- Where a whole block was lost it asks after 4250: the answer was overdue. What was stuck in the
-- line is let pass for 212, and the next time for half of it; its own two seconds are not met.
abbrev asked_late : Timing
asked_late = writes block_2 5274 (after_bytes start block_2 5274 quick)

asked_late-out : asked_late.out ≡ late 5274
asked_late-out = refl

abbrev answered_late : Timing
answered_late = after_bytes ack block_2 5286 asked_late

asked_late-clear : clear_at (purge block_3 5286 answered_late) answered_late ≡ 5498
asked_late-clear = refl

asked_late-vain : (writes block_3 5498 answered_late).vain ≡ 1
asked_late-vain = refl

-- A bit of an ACK was struck: what is left of it is heard, and block 2 is written again. Behind an
-- EOT the byte EOT is its echo.
struck : heard_of (0x07 ∷ []) block_2 1036 quick ≡ 0x07 ∷ []
struck = refl

-- That is so as soon as an answer is overdue, since a peer that had no block drops what comes
-- later: its own waits, of a second or two, are not met. A line that is not known gets a second.
struck-until : until Within 1036 (after_bytes (0x07 ∷ []) block_2 1036 quick) ≡ 1304
struck-until = refl

struck_first-until : until Within 1012
    (after_bytes (0x07 ∷ []) opening 1012 (writes opening 1000 (new_timing Sender))) ≡ 2012
struck_first-until = refl

struck_eot : heard_of eot eot 1036 (writes eot 1030 quick) ≡ []
struck_eot = refl

-- Block 0 was written twice, and acknowledged at 5774. The C behind it comes 4250 later; a second
-- ACK would have come as soon as the writes are apart, and a jitter.
abbrev opened : Timing
opened = after_bytes start opening 10024 (after_bytes ack opening 5774 (writes opening 5762
    (after_bytes start opening 5762 (writes opening 1000 (new_timing Sender)))))

opened-clear : clear_at (purge block_1 10024 opened) opened ≡ 12536
opened-clear = refl

-- Where block 0 came whole at once, its C comes 4250 behind its ACK too. A C that comes 100 behind
-- that one answers the block that was struck.
abbrev struck_first : Timing
struck_first = writes block_1 5362 (after_bytes start block_1 5362 (writes block_1 5262
    (after_bytes start opening 5262 (after_bytes ack opening 1012 (writes opening 1000
    (new_timing Sender))))))

struck_first-out : struck_first.out ≡ one 5362
struck_first-out = refl

-- it cancels behind the ACK of the end block: that ACK is not heard
abbrev ended : Timing
ended = writes end_block 9000 (after_bytes ack_start eot 9000 (writes eot 8988 quick))

cancelled : heard_of (ack ++ cancel) end_block 11270 ended ≡ cancel
cancelled = refl

cancelled_later : heard_of cancel end_block 11274 (after_bytes
    (0x06 ∷ 0x18 ∷ []) end_block 11270 ended) ≡ cancel
cancelled_later = refl

-- And where nothing comes behind it, it is waited for: 25, where the C behind the EOT's ACK came
-- right behind it, and a tenth of a second where a network kept that for 45.
end_until : until Reply 9000 (after_bytes ack end_block 9012 ended) ≡ 9037
end_until = refl

abbrev ended_apart : Timing
ended_apart = writes end_block 9045
    (after_bytes start eot 9045 (after_bytes ack eot 9000 (writes eot 8988 quick)))

end_apart-until : until Reply 9045 (after_bytes ack end_block 9057 ended_apart) ≡ 9157
end_apart-until = refl

-- so it is where the end block was written again: U-Boot may have printed by then
end_again-until : until Reply 13250 (after_bytes ack end_block 13262 (writes end_block 13250
    (after_bytes start end_block 13250 ended))) ≡ 13362
end_again-until = refl

-- ---- rb, which waits a second behind an EOT, and another one behind its ACK

-- that says nothing of how long the answer to a block takes
abbrev stored_by_rb : Timing
stored_by_rb = writes opening 3036 (after_bytes start eot 3036 (after_bytes ack eot 2036
    (writes eot 1036 (after_bytes ack block_2 1036 quick))))

stored_by_rb-pace : stored_by_rb.pace ≡ record { slowest = 12; trust = Sure }
stored_by_rb-pace = refl

-- so it asks behind a block 0 that lost a byte, and nothing has to clear
asked_by_rb : (writes opening 5048 (after_bytes start opening 5048 stored_by_rb)).out ≡ one 5048
asked_by_rb = refl

-- and CAN CAN is not listened for behind the end block: it writes nothing right behind an ACK
stored_by_rb-until : until Reply 3048 (after_bytes ack end_block 3048 (writes end_block 3036
    (after_bytes start eot 3036 (after_bytes ack eot 2036 (writes eot 1036 quick))))) ≡ 3048
stored_by_rb-until = refl

-- The first block 0 of all lost a byte: it asks a second behind that byte, and one more.
abbrev first_of_rb : Timing
first_of_rb = writes opening 3060 (after_bytes start opening 3060 (writes opening 1000
    (after_bytes start [] 1000 (new_timing Sender))))

first_of_rb-out : first_of_rb.out ≡ again true 3060 (one 1000)
first_of_rb-out = refl

-- Nothing has to clear before block 1, whose ACK is heard a tenth of a second later.
abbrev led_on_by_rb : Timing
led_on_by_rb = after_bytes ack_start opening 3072 first_of_rb

led_on_by_rb-clear : clear_at (purge block_1 3072 led_on_by_rb) led_on_by_rb ≡ 0
led_on_by_rb-clear = refl

abbrev first_acked : Timing
first_acked = after_bytes ack block_1 3084 (writes block_1 3072 led_on_by_rb)

first_acked-heard : heard_of ack block_1 3084 (writes block_1 3072 led_on_by_rb) ≡ []
first_acked-heard = refl

first_acked-until : until Reply 3072 first_acked ≡ 3184
first_acked-until = refl

-- Had both been answered, its C shows that an ACK is that of the copy. The next one is held too.
first_answered_twice : heard_of ack_start block_1 3084 (writes block_1 3072 led_on_by_rb) ≡ []
first_answered_twice = refl

first_answered : until Reply 3084
    (after_bytes (ack_start ++ ack) block_1 3084 (writes block_1 3072 led_on_by_rb)) ≡ 3184
first_answered = refl

-- and where C of the copy's answer was lost, NAK shows that block 1 was refused
first_refused : heard_of (ack ++ nak) block_1 3084 (writes block_1 3072 led_on_by_rb) ≡ nak
first_refused = refl

-- behind the EOT of an empty file the first ACK C is dropped
first_stored : heard_of (ack_start ++ ack_start) eot 3084 (writes eot 3072 led_on_by_rb)
    ≡ ack_start
first_stored = refl

-- ---- A line that delays by two seconds each way

abbrev pub far : Timing
far = writes block_1 9000 (after_bytes ack_start opening 9000 (writes opening 5000
    (new_timing Sender)))

far-pace : far.pace ≡ record { slowest = 4000; trust = Sure }
far-pace = refl

far-bound : bound far.pace ≡ 6250
far-bound = refl

-- An EOT is refused once, as a receiver that confirms twice refuses it, and no one can tell
-- whether it had waited. The answer to either EOT may still come, until the second one is overdue.
abbrev far_ended : Timing
far_ended = after_bytes ack_start eot 21000 (writes eot 17000 (after_bytes nak eot 17000
    (writes eot 13000 (after_bytes ack block_1 13000 far))))

far_ended-clear : clear_at (purge opening 21000 far_ended) far_ended ≡ 23250
far_ended-clear = refl

-- rb asks each five seconds, and drops what comes in the last of them. Here each copy comes four
-- seconds behind an ask. So the third one is put off, and comes soon behind the next ask.
abbrev asked_again : ℕ → Timing → Timing
asked_again now t = after_bytes nak block_1 now (after_vain Reply now t)

abbrev far_asked : Timing
far_asked = asked_again 24000 (writes block_1 19000 (asked_again 19000 (writes block_1 14000
    (asked_again 14000 far))))

far_asked-clear : clear_at (purge block_1 24000 far_asked) far_asked ≡ 25250
far_asked-clear = refl

-- and the next one goes at once
far_asked-next : clear_at (purge block_1 29000 (asked_again 29000 (writes block_1 25250 far_asked)))
    (asked_again 29000 (writes block_1 25250 far_asked)) ≡ 0
far_asked-next = refl

-- ---- An answer that was stuck

-- a receiver whose ACK of block 1 is stuck, so that both ends ask once more: 4000 is what an answer
-- takes here, and it waited for half as much again and 250
abbrev stuck : Timing
stuck = writes nak 23250 (writes ack 17000 (after_bytes block_1 ack_start 17000
    (writes ack_start 13000 (after_bytes opening start 13000 (writes start 9000
    (new_timing Receiver))))))

-- block 1 comes again 250 behind its NAK, and is no answer to that: nothing has to clear
stuck-crossed : clear_at (purge ack 23500 (after_bytes block_1 nak 23500 stuck))
    (after_bytes block_1 nak 23500 stuck) ≡ 0
stuck-crossed = refl

-- 2000 behind it and later it may be that: what else was written because of it is let come first
stuck-clear : clear_at (purge ack 25250 (after_bytes block_1 nak 25250 stuck))
    (after_bytes block_1 nak 25250 stuck) ≡ 29500
stuck-clear = refl

-- and so it is where another block comes, however soon
stuck-other : clear_at (purge ack 23500 (after_bytes block_2 nak 23500 stuck))
    (after_bytes block_2 nak 23500 stuck) ≡ 29500
stuck-other = refl

-- Nor is it so where answers come soon: a damaged block is written again as soon as it is asked
-- for, and a short one may take less than half of what a long one does.
abbrev near : Timing
near = writes nak 12169 (writes ack 9169 (after_bytes block_1 ack_start 9169
    (writes ack_start 9100 (after_bytes opening start 9100 (writes start 9000
    (new_timing Receiver))))))

near-clear : clear_at (purge ack 12181 (after_bytes block_1 nak 12181 near))
    (after_bytes block_1 nak 12181 near) ≡ 13181
near-clear = refl

-- ---- A late start

-- a receiver has asked at 3, 6 and 9 seconds when its peer starts
abbrev late_start : Timing
late_start =
    after_bytes opening start 20000 (writes start 9000 (writes start 6000 (writes start 3000
    (new_timing Receiver))))

-- its peer may answer each of them, three seconds apart and a jitter
late_start-clear : clear_at (purge ack_start 20000 late_start) late_start ≡ 25000
late_start-clear = refl

late_start-pace : (writes ack_start 25000 late_start).pace
    ≡ record { slowest = 17000; trust = Doubtful }
late_start-pace = refl

-- the first answer to one write says how long answers take
late_start-falls : (writes ack 25012 (after_bytes block_1 ack_start 25012
    (writes ack_start 25000 late_start))).pace
    ≡ record { slowest = 12; trust = Sure }
late_start-falls = refl

-- block 0 again, a second behind a NAK: how long answers take is not known for sure
late_start-again : clear_at (purge ack 52000
    (after_bytes opening nak 52000 (writes nak 51000 (writes ack_start 25000 late_start))))
    (after_bytes opening nak 52000 (writes nak 51000 (writes ack_start 25000 late_start)))
    ≡ 76750
late_start-again = refl

-- ---- An echo

-- the block comes back, ACK among its data; the ACK behind the whole of it is heard
echoed : heard_of (block_2 ++ ack) block_2 1036 quick ≡ ack
echoed = refl

-- an echo that lost a byte: nothing is heard
echoed_in_part : heard_of ((0x01 ∷ 0x02 ∷ 0xFD ∷ 0x1A ∷ []) ++ ack) block_2 1036 quick ≡ []
echoed_in_part = refl

-- the echo of another block: neither
echoed_late : heard_of (block_1 ++ ack) block_2 1036 quick ≡ []
echoed_late = refl

-- a receiver's own ACK C, in front of a block
echoed_reply : heard_of (ack_start
    ++ block_1) ack_start 4000 (writes ack_start 3990 (new_timing Receiver)) ≡ block_1
echoed_reply = refl

-- ---- The end of a file

-- the ACK of something else, and the NAK of the EOT: only that is heard
refused : heard_of (ack ++ nak) eot 9000 (writes eot 8988 quick) ≡ nak
refused = refl

stored : heard_of ack_start eot 9000 (writes eot 8988 quick) ≡ ack_start
stored = refl

-- ---- A wait for a reply

-- it has parts, and the last one is over when the wait is
abbrev waited_once : Timing
waited_once = after_vain Reply 3500 (writes opening 1000 (new_timing Sender))

waits-first : until Reply 1000 (writes opening 1000 (new_timing Sender)) ≡ 3500
waits-first = refl

waits-next : until Reply 1000 waited_once ≡ 6000
waits-next = refl

waits-last : until Reply 1000 (after_vain Reply 8500 (after_vain Reply 6000 waited_once)) ≡ 11000
waits-last = refl

-- ---- A clock that runs backwards, and one that stands still

-- a read waited from 5 seconds to 15, as the clock says too: nothing is added
went_on : waited 15000 15000 (told 5000 new_clock) ≡ record { at = 15000; behind = 0 }
went_on = refl

-- at 9 seconds it tells 5: time stands still, and goes on from there
jumped_back : told 5500 (told 5000 (told 9000 new_clock)) ≡ record { at = 9500; behind = 4000 }
jumped_back = refl

-- it stands still, and a read waited for ten seconds
stood_still : told 5000 (waited 15000 5000 (told 5000 new_clock))
    ≡ record { at = 15000; behind = 10000 }
stood_still = refl
