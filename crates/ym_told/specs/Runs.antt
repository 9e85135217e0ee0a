-- Runs of bytes that are no frame and no answer, and how they are shown.
use Rattle.std.specs.Prelude.{ℕ, ◌+◌, ◌-◌, ◌/◌, ◌%◌, ◌==◌, nat_le, nat_lt, max, not, ◌&&◌, ◌||◌, Bool, true, false, if◌then◌else◌, List, [], ◌∷◌, length, take_while}

-- a frame, or a header of ZMODEM, may begin with it
abbrev pub begins_frame : ℕ → Bool
begins_frame byte = byte == 0x01 || byte == 0x02 || byte == 0x04 || byte == 0x18 || byte == 0x2a

-- an answer, an echo, or a header of ZMODEM may begin with it: ACK, NAK, C, CAN, and blocks
abbrev pub is_answer_byte : ℕ → Bool
is_answer_byte byte =
    byte == 0x06 || byte == 0x15 || byte == 0x43 || byte == 0x18 || byte == 0x01 || byte == 0x02
    || byte == 0x2a

abbrev pub is_printable : ℕ → Bool
is_printable byte = nat_le 0x20 byte && nat_le byte 0x7e

abbrev pub sent_run : List ℕ → ℕ
sent_run bytes = length (take_while (λ byte. not (begins_frame byte)) bytes)

-- printed text, but for a `*`, with which a header of ZMODEM may begin
abbrev pub is_text : ℕ → Bool
is_text byte = is_printable byte && not (byte == 0x2a)

abbrev pub text_run : List ℕ → ℕ
text_run bytes = length (take_while is_text bytes)

abbrev pub other_run : List ℕ → ℕ
other_run bytes = length (take_while (λ byte. not (is_answer_byte byte)) bytes)

-- behind printed text the longer of both: what is printed there goes on as text
abbrev pub answer_run : Bool → List ℕ → ℕ
answer_run true bytes = max (text_run bytes) (other_run bytes)
answer_run false bytes = other_run bytes

abbrev pub digit : ℕ → ℕ
digit value = if nat_lt value 10 then value + 0x30 else value + 0x57

-- a character that is printed as it is, and any other byte as `\xHH`
abbrev pub escaped : ℕ → List ℕ
escaped byte =
    if is_printable byte then byte ∷ [] else
    0x5c ∷ 0x78 ∷ digit (byte / 16) ∷ digit (byte % 16) ∷ []
