-- What bytes are to a person who reads them.
use Rattle.std.specs.Prelude.{ℕ, ◌≡◌, ◌≤◌, ◌⊎◌}

-- C, by which a receiver asks
abbrev pub IsAsk : ℕ → Type 0
IsAsk byte = byte ≡ 67

-- G, by which a receiver asks that takes all blocks without an answer
abbrev pub IsStream : ℕ → Type 0
IsStream byte = byte ≡ 71

-- NAK, by which a receiver asks for a block again, or C
abbrev pub IsRefusal : ℕ → Type 0
IsRefusal byte = (byte ≡ 21) ⊎ (byte ≡ 67)

-- ACK, by which a receiver takes a frame
abbrev pub IsTaking : ℕ → Type 0
IsTaking byte = byte ≡ 6

-- a character of ASCII that is printed, or a control from BEL to CR, or ESC
abbrev pub IsTextByte : ℕ → Type 0
IsTextByte byte = ((7 ≤ byte) × (byte ≤ 13)) ⊎ (byte ≡ 27) ⊎ ((32 ≤ byte) × (byte ≤ 126))
