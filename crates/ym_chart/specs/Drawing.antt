-- How a chart is drawn. A row is 28 high, and the first is 76 down. Moments end at 84. The line of
-- the sender's life stands at 104, that of the receiver at 404, and what is said begins at 424.
use Rattle.std.specs.Prelude.{ℕ, ◌+◌, ◌*◌, ◌==◌, if◌then◌else◌, List, [], ◌∷◌, ◌++◌, length, codes, decimal}
use Rattle.ym_told.specs.declared.way.Direction.{Direction}
use Rattle.ym_told.specs.declared.way.Direction.TheVariants.{There, Back}
use Rattle.ym_chart.specs.Rows.{Kept}
use Rattle.ym_chart.specs.declared.arrow.Arrow.{Arrow}
use Rattle.ym_chart.specs.declared.arrow.Kind.{Kind}
use Rattle.ym_chart.specs.declared.arrow.Kind.TheVariants.{Next, Takes, Plain, Odd}
use Rattle.ym_chart.specs.declared.picture.TheConstants.{END_STEP, HEADS, STEP, STYLE, TOP}
use Rattle.ym_chart.specs.declared.row.Row.{Row}
use Rattle.ym_chart.specs.declared.row.Row.TheVariants as row
use Rattle.ym_chart.specs.declared.row.Streak.{Streak}

-- ---- An arrow

abbrev pub way_class : Direction → List ℕ
way_class There = codes "there"
way_class Back = codes "back"

-- what is damaged, comes again or does not belong there has another colour, and a dash
abbrev pub class_of : Direction → Kind → List ℕ
class_of way Odd = way_class way ++ codes " odd"
class_of way Next = way_class way
class_of way Takes = way_class way
class_of way Plain = way_class way

-- from one line of life to the other, with a head at its end
abbrev pub stroke_of : Direction → List ℕ
stroke_of There = codes
    "<path class=\"way\" d=\"M 104 20 H 402\"/><path class=\"tip\" d=\"M 404 20 l -11 -5 v 10 z\"/>"
stroke_of Back = codes
    "<path class=\"way\" d=\"M 404 20 H 106\"/><path class=\"tip\" d=\"M 104 20 l 11 -5 v 10 z\"/>"

abbrev pub label_of : Kind → List ℕ
label_of Next = codes "block "
label_of Takes = []
label_of Plain = []
label_of Odd = []

-- what begins a row of this class, so far down: its moment
abbrev pub open_words : List ℕ → ℕ → List ℕ → List ℕ
open_words class at moment =
    codes "<g class=\"" ++ (class ++ (codes "\" transform=\"translate(0 " ++ (decimal at
    ++ (codes ")\"><text class=\"when\" x=\"84\" y=\"24\">" ++ (moment ++ codes "</text>")))))

-- the name above an arrow, and what is said beside it
abbrev pub named_words : List ℕ → List ℕ → List ℕ → List ℕ
named_words label name said =
    codes "<text class=\"name\" x=\"254\" y=\"14\">" ++ (label ++ (name
    ++ (codes "</text><text class=\"said\" x=\"424\" y=\"24\">" ++ (said
    ++ (codes "</text></g>" ++ 10 ∷ [])))))

abbrev pub arrow_words : ℕ → Arrow → List ℕ
arrow_words at a =
    open_words (class_of a.way a.kind) at a.moment
    ++ (stroke_of a.way ++ named_words (label_of a.kind) a.name a.said)

-- ---- A row

-- a streak stands in a box
abbrev pub box : List ℕ
box = codes "<rect x=\"118\" y=\"8\" width=\"272\" height=\"18\" rx=\"6\"/>"

abbrev pub boxed_words : List ℕ → List ℕ → ℕ → List ℕ
boxed_words first last count =
    box ++ (codes "<text class=\"name\" x=\"254\" y=\"21\">blocks " ++ (first
    ++ (codes " to " ++ (last
    ++ (codes ", each acknowledged</text><text class=\"said\" x=\"424\" y=\"24\">"
    ++ (decimal count ++ (codes " blocks</text></g>" ++ 10 ∷ [])))))))

abbrev pub streak_words : ℕ → Streak → List ℕ
streak_words at r =
    open_words (codes "run") at r.first.moment ++ boxed_words r.first.name r.last.name r.count

abbrev pub note_words : ℕ → List ℕ → List ℕ
note_words at text =
    codes "<g class=\"note\" transform=\"translate(0 " ++ (decimal at
    ++ (codes ")\"><text class=\"said\" x=\"424\" y=\"24\">" ++ (text
    ++ (codes "</text></g>" ++ 10 ∷ []))))

abbrev pub row_words : ℕ → Row → List ℕ
row_words at (row.Arrow a) = arrow_words at a
row_words at (row.Streak r) = streak_words at r
row_words at (row.Note text) = note_words at text

abbrev pub row_top : ℕ → ℕ
row_top number = TOP + STEP * number

-- rows of which the first has this number
abbrev pub rows_words : ℕ → List Row → List ℕ
rows_words number [] = []
rows_words number (r ∷ more) = row_words (row_top number) r ++ rows_words (number + 1) more

-- how many are left out, behind so many rows
abbrev pub left_out_words : ℕ → ℕ → List ℕ
left_out_words at count =
    if count == 0 then [] else
    codes "<g class=\"run\" transform=\"translate(0 " ++ (decimal at
    ++ (codes ")\"><text class=\"name\" x=\"254\" y=\"21\">" ++ (decimal count
    ++ (codes " more are not drawn</text></g>" ++ 10 ∷ []))))

-- ---- The picture

abbrev pub end_words : ℕ → List ℕ → List ℕ
end_words at text =
    codes "<text class=\"end\" x=\"24\" y=\"" ++ (decimal at ++ (codes "\">" ++ (text
    ++ (codes "</text>" ++ 10 ∷ []))))

-- sentences stand one below the other, below the lines of both ends
abbrev pub end_top : ℕ → ℕ → ℕ
end_top foot number = foot + END_STEP * (number + 1)

abbrev pub ends_words : ℕ → ℕ → List (List ℕ) → List ℕ
ends_words foot number [] = []
ends_words foot number (text ∷ more) =
    end_words (end_top foot number) text ++ ends_words foot (number + 1) more

-- the paper of this height, with what stands behind that of the picture, and behind its own
abbrev pub paper_words : ℕ → List ℕ → List ℕ → List ℕ
paper_words height style heads =
    codes "<svg xmlns=\"http://www.w3.org/2000/svg\" viewBox=\"0 0 960 " ++ (decimal height
    ++ (codes "\" width=\"960\" height=\"" ++ (decimal height ++ (style
    ++ (codes "<rect class=\"paper\" width=\"960\" height=\"" ++ (decimal height ++ heads))))))

-- the lines of both ends
abbrev pub lives_words : ℕ → List ℕ
lives_words foot =
    codes "<path class=\"life\" d=\"M 104 70 V " ++ (decimal foot
    ++ (codes "\"/><path class=\"life\" d=\"M 404 70 V " ++ (decimal foot
    ++ (codes "\"/>" ++ 10 ∷ []))))

-- what stands before the rows
unfoldable pub head_words : ℕ → ℕ → List ℕ
head_words height foot = paper_words height STYLE.now HEADS.now ++ lives_words foot

-- how far down the lines of both ends go, which leaves room for the count of what is left out
abbrev pub foot_of : List Row → ℕ
foot_of rows = row_top (length rows) + STEP

unfoldable pub picture_words : List Row → ℕ → List (List ℕ) → List ℕ
picture_words rows left_out ends =
    (((head_words (end_top (foot_of rows) (length ends)) (foot_of rows) ++ rows_words 0 rows)
    ++ left_out_words (row_top (length rows)) left_out) ++ ends_words (foot_of rows) 0 ends)
    ++ (codes "</svg>" ++ 10 ∷ [])

abbrev pub chart_words : Kept → List ℕ
chart_words k = picture_words k.rows k.left_out k.ends
