-- Which line tells a front, where both ends stand so.
use Rattle.std.specs.Prelude.{ℕ, Option, Some, None}
use Rattle.ym_frame.specs.declared.frame.Whole.{Whole}
use Rattle.ym_frame.specs.declared.frame.Whole.TheVariants as whole
use Rattle.ym_explain.specs.Talking.{footing_of, meaning_of}
use Rattle.ym_explain.specs.declared.answered.AnswerLine.{AnswerLine}
use Rattle.ym_explain.specs.declared.answered.AnswerLine.TheVariants as answer
use Rattle.ym_explain.specs.declared.sent.SentLine.{SentLine}
use Rattle.ym_explain.specs.declared.sent.SentLine.TheVariants as sent
use Rattle.ym_explain.specs.declared.sent.SentTold.{SentTold}
use Rattle.ym_explain.specs.declared.told.FrameKind.{FrameKind}
use Rattle.ym_told.specs.declared.prefix.BufferedPrefix.{BufferedPrefix}
use Rattle.ym_told.specs.declared.prefix.BufferedPrefix.TheVariants as prefix
use Rattle.ym_told.specs.declared.line.Telling.{Telling}
use Rattle.ym_told.specs.declared.line.Telling.TheVariants as line
use Rattle.ym_told.specs.BothStand.{owes}
use Rattle.ym_told.specs.declared.standing.BothStanding.{BothStanding}

abbrev pub frame_line : BothStanding → Whole → FrameKind → ℕ → ℕ → Telling
frame_line at (whole.Block size) kind used number =
    line.Block number used kind (footing_of at.fate kind)
frame_line at whole.Eot kind used number = line.Eot kind (footing_of at.fate kind)
frame_line at whole.Cancel kind used number = line.Cancel

abbrev pub line_of_sent : BothStanding → SentLine → ℕ → ℕ → Option Telling
line_of_sent at sent.Junk used number = None
line_of_sent at (sent.Damage broken short) used number = Some (line.Damage broken used short)
line_of_sent at (sent.Frame whole kind) used number = Some (frame_line at whole kind used number)

abbrev pub line_sent : BothStanding → SentTold → ℕ → Option Telling
line_sent at told number = line_of_sent at told.line told.used number

abbrev pub line_answered : BothStanding → AnswerLine → Option Telling
line_answered at answer.Junk = None
line_answered at answer.Cancel = Some line.ReceiverCancel
line_answered at (answer.Echo used) = Some (line.Echo used)
line_answered at (answer.Answer control) =
    Some (line.Answer control (meaning_of at.position at.fate (owes at) control))

-- a run has no line of its own
abbrev pub line_told : BothStanding → BufferedPrefix → ℕ → Option Telling
line_told at (prefix.Run used) number = None
line_told at prefix.Zmodem number = Some line.Zmodem
line_told at (prefix.Cut used) number = Some (line.Cut used)
line_told at (prefix.Sent told) number = line_sent at told number
line_told at (prefix.Answer line) number = line_answered at line
