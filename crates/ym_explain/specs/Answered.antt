-- What is told of the front of what the receiver of the files wrote.
use Rattle.std.specs.Prelude.{ℕ, List, [], ◌∷◌, Option, Some, None, Result, Ok, Err}
use Rattle.ym_frame.specs.Control.{control_at}
use Rattle.ym_frame.specs.Frame.{verdict_of}
use Rattle.ym_frame.specs.declared.control.Control.{Control}
use Rattle.ym_frame.specs.declared.frame.Broken.{Broken}
use Rattle.ym_frame.specs.declared.frame.Item.{Item}
use Rattle.ym_frame.specs.declared.frame.Item.TheVariants as item
use Rattle.ym_frame.specs.declared.frame.Why.{Why}
use Rattle.ym_frame.specs.declared.frame.Why.TheVariants.{FirstByte, Complement, Check, SecondCan, Cut}
use Rattle.ym_explain.specs.declared.answered.AnswerLine.{AnswerLine}
use Rattle.ym_explain.specs.declared.answered.AnswerLine.TheVariants as line

abbrev pub control_line : Option Control → AnswerLine
control_line (Some control) = line.Answer control
control_line None = line.Junk

-- one byte alone: an answer, or nothing that one is
abbrev pub byte_line : ℕ → AnswerLine
byte_line byte = control_line (control_at byte)

-- A receiver writes no block: one that stands here was written by the sender.
abbrev pub item_line : Item → ℕ → ℕ → AnswerLine
item_line (item.Block b) len first = line.Echo len
item_line item.Cancel len first = line.Cancel
item_line item.Eot len first = byte_line first

-- Where no frame stands, the first byte is told alone, and not before it is sure that none comes.
abbrev pub broken_line : Why → ℕ → Option AnswerLine
broken_line Cut first = None
broken_line FirstByte first = Some (byte_line first)
broken_line Complement first = Some (byte_line first)
broken_line Check first = Some (byte_line first)
broken_line SecondCan first = Some (byte_line first)

abbrev pub line_in : Result (Item × ℕ) Broken → ℕ → Option AnswerLine
line_in (Ok found) first = Some (item_line found.0 found.1 first)
line_in (Err broken) first = broken_line broken.why first

abbrev pub answer_of : List ℕ → Option AnswerLine
answer_of [] = None
answer_of (first ∷ more) = line_in (verdict_of (first ∷ more)) first
