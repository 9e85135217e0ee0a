-- The rows of a session: an arrow for each frame and answer, in the order in which they are told.
-- Blocks that come in their turn and are acknowledged one after another are a streak, from the
-- fourth on, and a streak is one row.
use Rattle.std.specs.Prelude.{ℕ, ◌+◌, ◌^◌, ◌-◌, min, nat_lt, ◌==◌, if◌then◌else◌, List, [], ◌∷◌, ◌++◌, length, drop, Option, Some, None}
use Rattle.ym_chart.specs.Arrows.{arrow_of}
use Rattle.ym_chart.specs.ChartText.{text_of}
use Rattle.ym_chart.specs.LineParts.{is_indented}
use Rattle.ym_chart.specs.declared.arrow.Arrow.{Arrow}
use Rattle.ym_chart.specs.declared.arrow.Kind.{Kind}
use Rattle.ym_chart.specs.declared.arrow.Kind.TheVariants as kind
use Rattle.ym_chart.specs.declared.chart.TheConstants.{FEW, MOST_ENDS, MOST_LINE, MOST_ROWS}
use Rattle.ym_chart.specs.declared.row.Row.{Row}
use Rattle.ym_chart.specs.declared.row.Row.TheVariants as row
use Rattle.ym_chart.specs.declared.row.Streak.{Streak}

-- What is kept of a session: the line under way, the rows, and how many found no room. Behind them
-- wait a few blocks with their answers, or a streak, and a block with no answer yet. Then what is
-- told at the end.
pub record Kept : Type 0 where
  pub line : List ℕ
  pub rows : List Row
  pub left_out : ℕ
  pub few : List Arrow
  pub streak : Option Streak
  pub block : Option Arrow
  pub ends : List (List ℕ)

abbrev pub nothing_kept : Kept
nothing_kept = record {
  line = [];
  rows = [];
  left_out = 0;
  few = [];
  streak = None;
  block = None;
  ends = [];
}

abbrev pub capped : ℕ → ℕ
capped n = min n (2 ^ 64 - 1)

-- with a row more, where there is room
abbrev pub settled : Kept → Row → Kept
settled k r =
    if nat_lt (length k.rows) MOST_ROWS then record k { rows = k.rows ++ r ∷ [] }
    else record k { left_out = capped (k.left_out + 1) }

abbrev pub arrows_settled : Kept → List Arrow → Kept
arrows_settled k [] = k
arrows_settled k (a ∷ more) = arrows_settled (settled k (row.Arrow a)) more

-- a few blocks and their answers become rows
abbrev pub few_settled : Kept → Kept
few_settled k = arrows_settled (record k { few = [] }) k.few

abbrev pub with_streak : Kept → Option Streak → Kept
with_streak k None = k
with_streak k (Some r) = settled k (row.Streak r)

-- a streak does
abbrev pub streak_settled : Kept → Kept
streak_settled k = with_streak (record k { streak = None }) k.streak

abbrev pub with_waiting : Kept → Option Arrow → Kept
with_waiting k None = k
with_waiting k (Some a) = settled k (row.Arrow a)

-- and a block that waits
abbrev pub block_settled : Kept → Kept
block_settled k = with_waiting (record k { block = None }) k.block

-- all that waits becomes rows
abbrev pub flushed : Kept → Kept
flushed k = block_settled (streak_settled (few_settled k))

-- a block in its turn waits for its answer
abbrev pub with_block : Kept → Option Arrow → Arrow → Kept
with_block k None a = record k { block = Some a }
with_block k (Some waits) a = record (flushed k) { block = Some a }

abbrev pub after_block : Kept → Arrow → Kept
after_block k a = with_block k k.block a

-- the fourth of a few begins a streak
abbrev pub streak_begun : Kept → List Arrow → Arrow → Kept
streak_begun k [] last = k
streak_begun k (first ∷ more) last =
    record k { few = []; streak = Some (record { first = first; last = last; count = 4 }) }

abbrev pub after_few : Kept → Arrow → Arrow → Kept
after_few k block answer =
    if nat_lt (length k.few) FEW then record k { few = k.few ++ block ∷ answer ∷ [] }
    else streak_begun k k.few block

abbrev pub in_streak : Kept → Option Streak → Arrow → Arrow → Kept
in_streak k None block answer = after_few k block answer
in_streak k (Some r) block answer = record k {
  streak = Some (record { first = r.first; last = block; count = capped (r.count + 1) });
}

-- a block came and was acknowledged
abbrev pub after_pair : Kept → Arrow → Arrow → Kept
after_pair k block answer = in_streak k k.streak block answer

abbrev pub answered : Kept → Option Arrow → Arrow → Kept
answered k None answer = settled (flushed k) (row.Arrow answer)
answered k (Some block) answer = after_pair (record k { block = None }) block answer

abbrev pub after_answer : Kept → Arrow → Kept
after_answer k answer = answered k k.block answer

abbrev pub with_arrow : Kind → Kept → Arrow → Kept
with_arrow kind.Next k a = after_block k a
with_arrow kind.Takes k a = after_answer k a
with_arrow kind.Plain k a = settled (flushed k) (row.Arrow a)
with_arrow kind.Odd k a = settled (flushed k) (row.Arrow a)

abbrev pub after_arrow : Kept → Arrow → Kept
after_arrow k a = with_arrow a.kind k a

abbrev pub with_end : Kept → List ℕ → Kept
with_end k text =
    if nat_lt (length k.ends) MOST_ENDS then record k { ends = k.ends ++ text_of text ∷ [] } else k

-- a line of a file is indented, and any other is told at the end
abbrev pub after_remark : Kept → Kept
after_remark k =
    if is_indented k.line then settled (flushed k) (row.Note (text_of (drop 2 k.line)))
    else with_end k k.line

abbrev pub told_line : Kept → Option Arrow → Kept
told_line k None = after_remark k
told_line k (Some a) = after_arrow k a

abbrev pub after_line : Kept → Kept
after_line k = record (told_line k (arrow_of k.line)) { line = [] }

abbrev pub after_byte : Kept → ℕ → Kept
after_byte k byte =
    if byte == 10 then after_line k
    else (if nat_lt (length k.line) MOST_LINE then record k { line = k.line ++ byte ∷ [] } else k)

abbrev pub after_bytes : Kept → List ℕ → Kept
after_bytes k [] = k
after_bytes k (byte ∷ more) = after_bytes (after_byte k byte) more
