-- The arrow of a line.
use Rattle.std.specs.Prelude.{ℕ, List, drop, Option, Some, None}
use Rattle.ym_told.specs.declared.way.Direction.{Direction}
use Rattle.ym_chart.specs.ChartText.{text_of}
use Rattle.ym_chart.specs.LineParts.{kind_of, moment_of, name_of, said_of, undated, way_of}
use Rattle.ym_chart.specs.declared.arrow.Arrow.{Arrow}
use Rattle.ym_chart.specs.declared.arrow.Kind.{Kind}
use Rattle.ym_chart.specs.declared.arrow.Kind.TheVariants.{Next, Takes, Plain, Odd}

-- of a block in its turn the number alone is kept, which stands behind `block `
abbrev pub kept_name : Kind → List ℕ → List ℕ
kept_name Next name = drop 6 name
kept_name Takes name = name
kept_name Plain name = name
kept_name Odd name = name

-- of these words, which went this way at this moment
abbrev pub arrow_with : List ℕ → Direction → List ℕ → Arrow
arrow_with moment way words = record {
  moment = text_of moment;
  way = way;
  kind = kind_of words;
  name = text_of (kept_name (kind_of words) (name_of words));
  said = text_of (said_of words);
}

abbrev pub arrow_for : List ℕ → List ℕ → Option Direction → Option Arrow
arrow_for moment words None = None
arrow_for moment words (Some way) = Some (arrow_with moment way words)

-- none where the line tells no frame and no answer
abbrev pub arrow_of : List ℕ → Option Arrow
arrow_of line = arrow_for (moment_of line) (drop 2 (undated line)) (way_of (undated line))
