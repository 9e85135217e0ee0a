-- Charts, worked out.
use Rattle.std.specs.Prelude.{◌≡◌, refl, ℕ, List, [], ◌∷◌, ◌++◌, Option, Some, None, codes, length, map}
use Rattle.ym_told.specs.declared.way.Direction.TheVariants.{There, Back}
use Rattle.ym_chart.specs.Arrows.{arrow_of}
use Rattle.ym_chart.specs.ChartText.{text_of}
use Rattle.ym_chart.specs.Rows.{Kept, after_bytes, flushed, nothing_kept}
use Rattle.ym_chart.specs.declared.arrow.Arrow.{Arrow}
use Rattle.ym_chart.specs.declared.arrow.Kind.TheVariants as kind
use Rattle.ym_chart.specs.declared.row.Row.{Row}
use Rattle.ym_chart.specs.declared.row.Row.TheVariants as row

-- a damaged block has its arrow from the sender, in the other colour
an_arrow : arrow_of (codes "0.006 > damaged, 133 bytes: its end") ≡ Some (record {
  moment = codes "0.006";
  way = There;
  kind = kind.Odd;
  name = codes "damaged";
  said = codes "133 bytes: its end";
})
an_arrow = refl

-- an answer without a moment
an_answer : arrow_of (codes "< ACK: took it") ≡ Some (record {
  moment = [];
  way = Back;
  kind = kind.Takes;
  name = codes "ACK";
  said = codes "took it";
})
an_answer = refl

no_arrow : arrow_of (codes "0.114 here the two ends parted") ≡ None
no_arrow = refl

a_tag : text_of (codes "<b>&\"") ≡ codes "&lt;b&gt;&amp;&quot;"
a_tag = refl

-- a block in its turn, and its answer
abbrev pub block_and_answer : List ℕ → List ℕ
block_and_answer number =
    codes "> block " ++ (number ++ (codes ", 133 bytes: the next" ++ (10 ∷ []
    ++ (codes "< ACK: took it" ++ 10 ∷ []))))

-- so many rows, and of how many blocks the first is a streak
abbrev pub streak_count : Row → ℕ
streak_count (row.Arrow a) = 0
streak_count (row.Streak r) = r.count
streak_count (row.Note text) = 0

abbrev pub rows_of : List ℕ → List Row
rows_of text = (flushed (after_bytes nothing_kept text)).rows

three_blocks : map streak_count (rows_of (block_and_answer (codes "1")
    ++ (block_and_answer (codes "2") ++ block_and_answer (codes "3")))) ≡ 0 ∷ 0 ∷ 0 ∷ 0 ∷ 0 ∷ 0 ∷ []
three_blocks = refl

-- with a fourth they are one row, and what comes behind them stands behind that
a_streak : map streak_count (rows_of (block_and_answer (codes "1") ++ (block_and_answer (codes "2")
    ++ (block_and_answer (codes "3") ++ (block_and_answer (codes "4")
    ++ (codes "> EOT: ends the file" ++ 10 ∷ [])))))) ≡ 4 ∷ 0 ∷ []
a_streak = refl
