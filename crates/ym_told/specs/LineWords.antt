-- What is told of each frame and answer, in words.
use Rattle.std.specs.Prelude.{ℕ, ◌/◌, ◌%◌, List, [], ◌++◌, Bool, true, false, Option, Some, None, codes, decimal}
use Rattle.ym_frame.specs.FaultWords.{broken_text}
use Rattle.ym_frame.specs.declared.control.Control.{Control}
use Rattle.ym_frame.specs.declared.control.Control.TheVariants as control
use Rattle.ym_explain.specs.declared.talk.Footing.{Footing}
use Rattle.ym_explain.specs.declared.talk.Footing.TheVariants as footing
use Rattle.ym_explain.specs.declared.talk.Meaning.{Meaning}
use Rattle.ym_explain.specs.declared.talk.Meaning.TheVariants as meaning
use Rattle.ym_explain.specs.declared.told.FrameKind.{FrameKind}
use Rattle.ym_explain.specs.declared.told.FrameKind.TheVariants as kind
use Rattle.ym_told.specs.declared.line.Telling.{Telling}
use Rattle.ym_told.specs.declared.line.Telling.TheVariants as line
use Rattle.ym_told.specs.declared.scene.Dated.{Dated}
use Rattle.ym_told.specs.declared.way.Direction.{Direction}
use Rattle.ym_told.specs.declared.way.Direction.TheVariants as way

abbrev pub kind_words : FrameKind → List ℕ
kind_words kind.Name = codes "begins a file"
kind_words kind.End = codes "ends the batch"
kind_words kind.Data = codes "the next"
kind_words kind.Eot = codes "ends the file"
kind_words kind.Copy = codes "once more"
kind_words kind.OutOfTurn = codes "cannot come next"
kind_words kind.Late = codes "the first here: those before it were not recorded"
kind_words kind.Cancel = codes "cancels"

abbrev pub footing_words : Footing → List ℕ
footing_words footing.InTurn = []
footing_words footing.AsAsked = codes ", as asked"
footing_words footing.Mended = codes ", and whole now"
footing_words footing.Unanswered = codes ", for no answer came"
footing_words footing.AckUnheard = codes ", though it was acknowledged"
footing_words footing.WentOn = codes ", though the one before it was not acknowledged"
footing_words footing.Astray = codes ": one before it is missing"
footing_words footing.Leaving = []

abbrev pub meaning_words : Meaning → List ℕ
meaning_words meaning.Asks = codes "asks for a file"
meaning_words meaning.AsksOn = codes "asks for what comes next"
meaning_words meaning.AsksAgain = codes "asks once more, and has not heard the frame that is out"
meaning_words meaning.AsksByNak = codes "asks as XMODEM does"
meaning_words meaning.Takes = codes "took it"
meaning_words meaning.TakesCopy = codes "took a copy"
meaning_words meaning.Ahead = codes "acknowledges, and nothing is out"
meaning_words meaning.TakesEotAgain = codes "took the EOT, once more"
meaning_words meaning.Refuses = codes "wants it once more"
meaning_words meaning.WantsEotAgain = codes "wants the EOT once more, as of each first one"
meaning_words meaning.RefusesAgain = codes "wants a frame once more, and none is out"
meaning_words meaning.LoneCan = codes "stands alone, and means nothing"

abbrev pub control_words : Control → List ℕ
control_words control.Ack = codes "ACK"
control_words control.Nak = codes "NAK"
control_words control.Start = codes "C"
control_words control.Can = codes "CAN"

-- a damaged frame that ends where another begins
abbrev pub short_words : Bool → List ℕ
short_words true = codes ", and another begins there"
short_words false = []

abbrev pub line_words : Telling → List ℕ
line_words (line.Block number used kind footing) =
    codes "block " ++ (decimal number ++ (codes ", " ++ (decimal used ++ (codes " bytes: "
    ++ (kind_words kind ++ footing_words footing)))))
line_words (line.Eot kind footing) = codes "EOT: " ++ (kind_words kind ++ footing_words footing)
line_words line.Cancel = codes "CAN CAN: the sender cancels"
line_words (line.Damage broken used short) =
    codes "damaged, " ++ (decimal used ++ (codes " bytes, "
    ++ (broken_text broken ++ short_words short)))
line_words (line.Cut used) =
    codes "cut, " ++ (decimal used ++ codes " bytes of a frame and no more")
line_words (line.Answer control meaning) =
    control_words control ++ (codes ": " ++ meaning_words meaning)
line_words line.ReceiverCancel = codes "CAN CAN: the receiver cancels"
line_words (line.Echo used) = decimal used ++ codes " bytes of the sender's own: an echo"
line_words line.Zmodem = codes "a header of ZMODEM"

-- from the sender, or from the receiver
abbrev pub way_words : Direction → List ℕ
way_words way.There = codes "> "
way_words way.Back = codes "< "

-- seconds and their thousandths, of a number of microseconds
abbrev pub moment_words : Option ℕ → List ℕ
moment_words None = []
moment_words (Some micros) =
    let millis = micros / 1000 % 1000 in
    decimal (micros / 1000000) ++ (codes "." ++ (decimal (millis / 100)
    ++ (decimal (millis / 10 % 10) ++ (decimal (millis % 10) ++ codes " "))))

abbrev pub told_words : Dated → List ℕ
told_words told =
    moment_words told.at.0 ++ (way_words told.way ++ line_words told.line)
