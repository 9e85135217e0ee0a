-- What an end hears of a row of bytes, and a write behind which nothing was dropped (this profile).
use Rattle.std.specs.Prelude.{ℕ, List, [], ◌∷◌, ◌++◌}
use Rattle.ym_timing.specs.Clears.{purge, dropped, after_dropped}
use Rattle.ym_timing.specs.Timing.{said, after_byte}
use Rattle.ym_timing.specs.Writing.{wrote}
use Rattle.ym_heard.specs.declared.hold.Say.{Say}
use Rattle.ym_heard.specs.declared.hold.Say.TheVariants as say
use Rattle.ym_timing.specs.declared.purge.Purge.{Purge}
use Rattle.ym_timing.specs.declared.timing.Timing.{Timing}

-- the bytes that are heard of one
abbrev pub bytes_of : Say → ℕ → List ℕ
bytes_of say.Nothing byte = []
bytes_of say.Byte byte = byte ∷ []
bytes_of say.AckAndByte byte = 0x06 ∷ byte ∷ []
bytes_of say.Start byte = 0x43 ∷ []

-- what is heard of bytes that came at this moment, where this was written last
abbrev pub heard_of : List ℕ → List ℕ → ℕ → Timing → List ℕ
heard_of [] written now t = []
heard_of (byte ∷ bytes) written now t =
    bytes_of (said byte written now t) byte
    ++ heard_of bytes written now (after_byte byte written now t)

abbrev pub after_bytes : List ℕ → List ℕ → ℕ → Timing → Timing
after_bytes [] written now t = t
after_bytes (byte ∷ bytes) written now t =
    after_bytes bytes written now (after_byte byte written now t)

-- a write at this moment
abbrev pub writes : List ℕ → ℕ → Timing → Timing
writes bytes now t = wrote bytes (purge bytes now t) now t

-- bytes that were dropped at this moment before a write
abbrev pub drops : List ℕ → List ℕ → ℕ → Purge → Timing → Purge
drops [] written now c t = c
drops (byte ∷ bytes) written now c t =
    drops bytes written now (dropped c byte written now t) (after_dropped c byte written now t)
