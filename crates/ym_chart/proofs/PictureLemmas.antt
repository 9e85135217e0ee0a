-- The parts of a picture, each put behind those before it.
use Rattle.std.proofs.Common.{◌≡◌, ◌∙◌, ◌+◌, ◌++◌, ◌∷◌, [], ℕ, List, ap, codes, length}
use Rattle.ym_chart.specs.Drawing.{end_top, ends_words, head_words, left_out_words, picture_words, row_top, rows_words}
use Rattle.ym_chart.specs.declared.picture.TheConstants.{STEP}
use Rattle.ym_chart.specs.declared.row.Row.{Row}

-- a picture of this height, where what stands behind its rows begins so far down
abbrev pub drawn_at : List Row → ℕ → List (List ℕ) → ℕ → ℕ → List ℕ
drawn_at rows left_out ends height at =
    (((head_words height (at + STEP) ++ rows_words 0 rows) ++ left_out_words at left_out)
    ++ ends_words (at + STEP) 0 ends) ++ (codes "</svg>" ++ 10 ∷ [])

pub parts_put : (rows : List Row) (left_out : ℕ) (ends : List (List ℕ)) (at height : ℕ)
    (head with_rows with_count with_ends all : List ℕ)
    → at ≡ row_top (length rows) → height ≡ end_top (at + STEP) (length ends)
    → head ≡ head_words height (at + STEP) → with_rows ≡ head ++ rows_words 0 rows
    → with_count ≡ with_rows ++ left_out_words at left_out
    → with_ends ≡ with_count ++ ends_words (at + STEP) 0 ends
    → all ≡ with_ends ++ (codes "</svg>" ++ 10 ∷ []) → all ≡ picture_words rows left_out ends
unfolding picture_words
parts_put rows left_out ends at height head with_rows with_count with_ends all a h e1 e2 e3 e4 e5 =
    e5 ∙ ap (λ (t : List ℕ). t ++ (codes "</svg>" ++ 10 ∷ []))
    (e4 ∙ ap (λ (t : List ℕ). t ++ ends_words (at + STEP) 0 ends)
    (e3 ∙ ap (λ (t : List ℕ). t ++ left_out_words at left_out)
    (e2 ∙ ap (λ (t : List ℕ). t ++ rows_words 0 rows) e1)))
    ∙ (ap (λ (n : ℕ). drawn_at rows left_out ends n at) h
    ∙ ap (λ (n : ℕ). drawn_at rows left_out ends (end_top (n + STEP) (length ends)) n) a)
