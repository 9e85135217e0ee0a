-- A sender's line that is let clear while an ACK comes late, computed. A block is shortened to its
-- head and two more bytes.
use Rattle.std.specs.Prelude.{◌≡◌, ℕ, true, false, List, [], ◌∷◌, Ok, refl}
use Rattle.ym_link.specs.declared.event.Event.TheVariants.{Piece}
use Rattle.ym_port.specs.TimedPort.{Cleared, is_clear, new_line}
unfoldable use Rattle.ym_port.specs.TimedPort.{cleared}
use Rattle.ym_port.specs.Wire.{Tape}
use Rattle.ym_port.specs.declared.deed.Deed.TheVariants.{Looked, Waited}
use Rattle.ym_port.specs.declared.line.Line.{Line}
use Rattle.ym_timing.specs.ByteRows.{after_bytes, writes}
use Rattle.ym_timing.specs.Clears.{clear_at, purge}
use Rattle.ym_timing.specs.Timing.{new_timing}
use Rattle.ym_timing.specs.declared.purge.Purge.{Purge}
use Rattle.ym_timing.specs.declared.purge.Heed.TheVariants.{Ack}
use Rattle.ym_timing.specs.declared.role.Role.TheVariants.{Sender}
use Rattle.ym_timing.specs.declared.timing.Timing.{Timing}
use Rattle.ym_delay.specs.LateAnswers.{Late, brings, purge_behind, line_behind}

abbrev block_0 : List ℕ
block_0 = 0x01 ∷ 0x00 ∷ 0xFF ∷ 0x61 ∷ 0x1A ∷ []

abbrev block_1 : List ℕ
block_1 = 0x01 ∷ 0x01 ∷ 0xFE ∷ 0x06 ∷ 0x1A ∷ []

-- block 0 went out three times, as C came again, and then it was acknowledged
abbrev opened : Timing
opened = after_bytes (0x06 ∷ 0x43 ∷ []) block_0 7100 (writes block_0 7000
    (after_bytes (0x43 ∷ []) block_0 7000 (writes block_0 4000
    (after_bytes (0x43 ∷ []) block_0 4000 (writes block_0 1000 (new_timing Sender))))))

abbrev line : Line
line = record (new_line Sender) {
  timing = opened;
  clock = record { at = 7100; behind = 0 };
  written = block_0;
}

-- Two more ACKs may come, so it has to clear before block 1: for as long as the writes are apart,
-- and a jitter.
abbrev start : Purge
start = purge block_1 7100 opened

start-until : clear_at start opened ≡ 12100
start-until = refl

-- one of them comes late
abbrev acks : List Late
acks = record { bytes = 0x06 ∷ []; at = 8000 } ∷ []

-- the line is not clear as it comes, nor behind it
early : is_clear start line ≡ false
early = refl

unclear : is_clear (purge_behind start line acks) (line_behind start line acks) ≡ false
unclear = refl

-- and a C behind the quiet
abbrev rest : Tape
rest = record { moments = 13010 ∷ []; coming = Piece (0x43 ∷ []) ∷ []; done = [] }

abbrev left : Cleared
left = cleared 2 start line (brings acks 13000 rest)

-- the ACK is dropped, and one more may come
late-ack : left.answer ≡ Ok (record start {
  from = 8000;
  owed = 1;
  answered_at = 8000;
  has_brought = true;
  heed = Ack;
})
unfolding cleared
late-ack = refl

-- the line is clear as long behind that one
late-clock : left.line.clock ≡ record { at = 13000; behind = 0 }
unfolding cleared
late-clock = refl

-- and the C is still to come
late-rest : left.tape ≡ record rest { done = Waited 5000 ∷ Looked ∷ Waited 5000 ∷ Looked ∷ [] }
unfolding cleared
late-rest = refl
