-- The words of a line: the parts between its spaces.
use Rattle.std.specs.Prelude.{◌≡◌, ◌==◌, nat_lt, ℕ, Bool, List, [], ◌∷◌, length}
use Rattle.std.specs.List.{slice_split, list_any, before_first, after_first, position_or_len}

abbrev pub is_space : ℕ → Bool
is_space c = c == 0x20

unfoldable pub words_of : List ℕ → List (List ℕ)
words_of line = slice_split is_space line

abbrev pub is_empty : List ℕ → Bool
is_empty word = length word == 0

-- two spaces stand side by side, or one at an end, or there is nothing at all
abbrev pub has_empty_word : List ℕ → Bool
has_empty_word line = list_any is_empty (words_of line)

abbrev pub has_space : List ℕ → Bool
has_space text = nat_lt (position_or_len is_space text) (length text)

abbrev pub before_space : List ℕ → List ℕ
before_space text = before_first is_space text

abbrev pub behind_space : List ℕ → List ℕ
behind_space text = after_first is_space text

abbrev pub HasOneWord : List ℕ → Type 0
HasOneWord text = words_of text ≡ text ∷ []

abbrev pub HasMoreWords : List ℕ → Type 0
HasMoreWords text =
    (first : List ℕ) × (second : List ℕ) × (others : List (List ℕ)) ×
    (words_of text ≡ first ∷ second ∷ others)

-- a word with a colon is cut at its first one
abbrev pub is_colon : ℕ → Bool
is_colon c = c == 0x3a

abbrev pub has_colon : List ℕ → Bool
has_colon word = nat_lt (position_or_len is_colon word) (length word)

abbrev pub before_colon : List ℕ → List ℕ
before_colon word = before_first is_colon word

abbrev pub behind_colon : List ℕ → List ℕ
behind_colon word = after_first is_colon word
