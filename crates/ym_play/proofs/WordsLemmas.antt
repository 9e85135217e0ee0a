-- The words of a text, by its first space.
use Rattle.std.proofs.Common.{◌≡◌, ℕ, List, [], ◌∷◌, length, true, false, refl, ◌∙◌, ap, arith}
use Rattle.std.specs.List.{position_or_len}
use Rattle.std.proofs.lemmas.Bool.{ltb-true, ltb-false}
use Rattle.std.proofs.lemmas.List.Splits.{slice_split_first, slice_split_none, length-slice_split}
use Rattle.std.proofs.lemmas.List.Sums.{fails_before_first}
use Rattle.std.proofs.lemmas.List.Elements.{All-from_get_or}
use Rattle.ym_play.specs.Words.{words_of, is_space, has_space, before_space, behind_space, HasOneWord, HasMoreWords}

pub words_of-split : (text : List ℕ) → has_space text ≡ true → words_of text ≡ before_space text ∷ words_of (behind_space text)
unfolding words_of
words_of-split text h = slice_split_first is_space text 0 (ltb-true (position_or_len is_space text) (length text) h)

pub one_word : (text : List ℕ) → has_space text ≡ false → HasOneWord text
unfolding words_of
one_word text h = slice_split_none is_space text (All-from_get_or (λ c. is_space c ≡ false) text 0
    (λ i below. let all = ltb-false (position_or_len is_space text) (length text) h in fails_before_first is_space text i 0 (omega arith)))

pub some_words : (text : List ℕ) → words_of text ≡ [] → ⊥
unfolding words_of
some_words text h = let e = length-slice_split is_space text in let n = ap length h in omega arith

split_words : (words : List (List ℕ)) → (words ≡ [] → ⊥) → (second : List ℕ) × (others : List (List ℕ)) × (words ≡ second ∷ others)
split_words [] h = absurd (h refl)
split_words (second ∷ others) h = (second, others, refl)

pub more_words : (text : List ℕ) → has_space text ≡ true → HasMoreWords text
more_words text h =
    let behind = split_words (words_of (behind_space text)) (some_words (behind_space text)) in
    (before_space text, behind.0, behind.1, words_of-split text h ∙ ap (λ (ws : List (List ℕ)). before_space text ∷ ws) behind.2)
