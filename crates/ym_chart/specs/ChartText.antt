-- How bytes stand in a text of XML.
use Rattle.std.specs.Prelude.{ℕ, ◌+◌, ◌/◌, ◌%◌, ◌==◌, nat_le, nat_lt, not, ◌&&◌, ◌≡◌, true, false, Bool, if◌then◌else◌, List, [], ◌∷◌, ◌++◌, length, take, flat_map, codes}
use Rattle.ym_chart.specs.declared.text.TheConstants.{MOST_TEXT}

abbrev pub is_printable : ℕ → Bool
is_printable byte = nat_le 0x20 byte && nat_le byte 0x7e

abbrev pub digit : ℕ → ℕ
digit value = if nat_lt value 10 then value + 0x30 else value + 0x57

-- `\xHH`
abbrev pub code : ℕ → List ℕ
code byte = 0x5c ∷ 0x78 ∷ digit (byte / 16) ∷ digit (byte % 16) ∷ []

-- `<`, `>`, `&` and `"` by their names, another character that is printed as it is
abbrev pub written : ℕ → List ℕ
written byte =
    if byte == 0x3c then codes "&lt;" else (if byte == 0x3e then codes "&gt;"
    else (if byte == 0x26 then codes "&amp;" else (if byte == 0x22 then codes "&quot;"
    else (if is_printable byte then byte ∷ [] else code byte))))

-- the bytes of a text, of which not more are drawn than there is room for
abbrev pub text_of : List ℕ → List ℕ
text_of bytes =
    if nat_le (length bytes) MOST_TEXT then flat_map written bytes
    else flat_map written (take MOST_TEXT bytes) ++ codes " .."

-- means nothing to XML
abbrev pub is_plain : ℕ → Bool
is_plain byte =
    is_printable byte && not (byte == 0x3c) && not (byte == 0x3e) && not (byte == 0x26)
    && not (byte == 0x22)

-- What a reader of XML takes a text for: a name of a character for that character, and any other
-- character for itself. What is not printed is taken for its code.
pub data StandsFor : List ℕ → List ℕ → Type 0 where
  Nothing : StandsFor [] []
  Less : {text bytes : List ℕ} → StandsFor text bytes
      → StandsFor (codes "&lt;" ++ text) (0x3c ∷ bytes)
  Greater : {text bytes : List ℕ} → StandsFor text bytes
      → StandsFor (codes "&gt;" ++ text) (0x3e ∷ bytes)
  Ampersand : {text bytes : List ℕ} → StandsFor text bytes
      → StandsFor (codes "&amp;" ++ text) (0x26 ∷ bytes)
  Quote : {text bytes : List ℕ} → StandsFor text bytes
      → StandsFor (codes "&quot;" ++ text) (0x22 ∷ bytes)
  Itself : {text bytes : List ℕ} (byte : ℕ) → is_plain byte ≡ true → StandsFor text bytes
      → StandsFor (byte ∷ text) (byte ∷ bytes)
  Coded : {text bytes : List ℕ} (byte : ℕ) → is_printable byte ≡ false → StandsFor text bytes
      → StandsFor (code byte ++ text) (byte ∷ bytes)
