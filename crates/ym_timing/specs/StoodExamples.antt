-- Lines that stood still, computed: a frame was written more than once, and each copy is answered.
-- A block is shortened to its head and two more bytes.
use Rattle.std.specs.Prelude.{◌≡◌, [], ◌++◌, refl}
use Rattle.ym_timing.specs.Clears.{purge, clear_at}
use Rattle.ym_timing.specs.ByteRows.{heard_of, after_bytes, drops, writes}
use Rattle.ym_timing.specs.Timing.{new_timing, until, after_vain}
use Rattle.ym_timing.specs.TimingExamples.{opening, block_1, block_2, eot, ack, start, ack_start}
use Rattle.ym_timing.specs.TimingExamples.{nak, far}
use Rattle.ym_timing.specs.declared.role.Role.TheVariants.{Sender}
use Rattle.ym_timing.specs.declared.timing.Timing.{Timing}
use Rattle.ym_timing.specs.declared.timing.Expected.TheVariants.{Reply}

-- ---- Block 0, and block 1 behind it

-- Block 0 stood in the line when its peer asked for it, at 7000, and both copies are answered.
abbrev stood : Timing
stood = writes opening 7000 (after_bytes start opening 7000 (after_vain Reply 3500
    (writes opening 1000 (new_timing Sender))))

-- nothing is known of the line: the other answer may come as long behind as the writes are apart
stood-clear : clear_at (purge block_1 7012 (after_bytes ack_start opening 7012 stood))
    (after_bytes ack_start opening 7012 stood) ≡ 15012
stood-clear = refl

-- and where it comes later still, behind block 1, its C shows whose it is
abbrev led_on : Timing
led_on = writes block_1 15012 (after_bytes ack_start opening 7012 stood)

led_on-heard : heard_of (ack_start ++ ack) block_1 15024 led_on ≡ []
led_on-heard = refl

led_on-until : until Reply 15024 (after_bytes (ack_start ++ ack) block_1 15024 led_on) ≡ 15124
led_on-until = refl

-- ---- Answers that come at once

-- both came in one read: nothing else may come
stood_both : clear_at (purge block_1 7012 (after_bytes (ack_start ++ ack_start) opening 7012 stood))
    (after_bytes (ack_start ++ ack_start) opening 7012 stood) ≡ 0
stood_both = refl

-- the C of the second one has to come
stood_half : clear_at (purge block_1 7012 (after_bytes (ack_start ++ ack) opening 7012 stood))
    (after_bytes (ack_start ++ ack) opening 7012 stood) ≡ 15012
stood_half = refl

-- an ACK that a line doubled is one
stood_doubled : clear_at (purge block_1 7012 (after_bytes (ack ++ ack_start) opening 7012 stood))
    (after_bytes (ack ++ ack_start) opening 7012 stood) ≡ 15012
stood_doubled = refl

-- Answers take four seconds, and block 1 was asked for again at five: each copy may be answered.
abbrev far_copied : Timing
far_copied = after_bytes ack block_1 18000 (writes block_1 14000 (after_bytes nak block_1 14000
    (after_vain Reply 11500 far)))

far_copied-clear : clear_at (purge block_2 18000 far_copied) far_copied ≡ 20250
far_copied-clear = refl

-- an ACK right behind that one may be the same, and one behind another byte, or later, is not
far_copied_doubled : clear_at (drops ack block_1 18000 (purge block_2 18000 far_copied) far_copied)
    far_copied ≡ 20250
far_copied_doubled = refl

far_copied_apart : clear_at
    (drops (nak ++ ack) block_1 18000 (purge block_2 18000 far_copied) far_copied) far_copied ≡ 0
far_copied_apart = refl

far_copied_later : clear_at (drops ack block_1 18012 (purge block_2 18000 far_copied) far_copied)
    far_copied ≡ 0
far_copied_later = refl

-- ---- An EOT

-- It was never refused: this peer stores the file before it answers, as rb does, and may take a
-- second more than for a block.
abbrev far_stored : Timing
far_stored = after_bytes ack_start eot 18512 (writes eot 18500 (after_bytes start eot 18500
    (after_vain Reply 15500 (writes eot 13000 (after_bytes ack block_1 13000 far)))))

far_stored-clear : clear_at (purge opening 18512 far_stored) far_stored ≡ 26000
far_stored-clear = refl
