-- The words of cases, of what ends do, of what is found, and of the lines of a report.
use Rattle.std.specs.Prelude.{ℕ, ◌/◌, ◌%◌, Bool, true, false, List, ◌++◌, codes, decimal}
use Rattle.ym_form.specs.Forms.{form_text}
use Rattle.ym_frame.specs.declared.control.Reply.{Reply}
use Rattle.ym_frame.specs.declared.control.Reply.TheVariants as reply
use Rattle.ym_judge.specs.declared.act.Act.{Act}
use Rattle.ym_judge.specs.declared.act.Act.TheVariants as act
use Rattle.ym_judge.specs.declared.case.Case.{Case}
use Rattle.ym_judge.specs.declared.case.Case.TheVariants as case
use Rattle.ym_judge.specs.declared.finding.Finding.{Finding}
use Rattle.ym_judge.specs.declared.finding.Finding.TheVariants.{Conforms, Differs, Loses, NoAnswer, NotTried}
use Rattle.ym_judge.specs.declared.parcel.Parcel.{Parcel}
use Rattle.ym_judge.specs.declared.parcel.Parcel.TheVariants as parcel
use Rattle.ym_judge.specs.declared.report.Sums.{Sums}
use Rattle.ym_judge.specs.declared.report.Tried.{Tried}
use Rattle.ym_judge.specs.declared.spot.Spot.{Spot}
use Rattle.ym_judge.specs.declared.spot.Spot.TheVariants as spot
use Rattle.ym_judge.specs.declared.twist.Twist.{Twist}
use Rattle.ym_judge.specs.declared.twist.Twist.TheVariants as twist

-- ---- Cases

abbrev pub spot_text : Spot → List ℕ
spot_text spot.Start = codes "start"
spot_text spot.Header = codes "block 0"
spot_text spot.First = codes "data block 1"
spot_text spot.Second = codes "data block 2"
spot_text spot.Eot = codes "EOT"
spot_text spot.EotAgain = codes "second EOT"
spot_text spot.End = codes "end block"

abbrev pub twist_text : Twist → List ℕ
twist_text twist.Lost = codes "lost"
twist_text twist.Damaged = codes "damaged"
twist_text twist.Garbled = codes "garbled"
twist_text twist.Cut = codes "cut"
twist_text twist.Doubled = codes "doubled"
twist_text twist.Late = codes "late"
twist_text twist.Junk = codes "behind junk"
twist_text twist.LoneCan = codes "behind one CAN"
twist_text twist.Cancel = codes "CAN CAN in its place"
twist_text twist.Misnumbered = codes "a wrong number"
twist_text twist.Early = codes "an early EOT in its place"
twist_text twist.AnswerLost = codes "its answer lost"
twist_text twist.Unheard = codes "as if nothing was heard"
twist_text twist.Refused = codes "NAK in its place"
twist_text twist.Asked = codes "C in its place"
twist_text twist.Taken = codes "ACK in its place"
twist_text twist.Behind = codes "NAK behind it"
twist_text twist.Prompt = codes "C with its ACK"

abbrev pub parcel_text : Parcel → List ℕ
parcel_text parcel.Usual = codes "a file of two blocks"
parcel_text parcel.OneByte = codes "a file of one byte"
parcel_text parcel.Empty = codes "an empty file"
parcel_text parcel.ShortFull = codes "a file of 128 bytes"
parcel_text parcel.LongFull = codes "a file of 1024 bytes"
parcel_text parcel.TwoFiles = codes "two files"
parcel_text parcel.TwoEmpty = codes "two empty files"
parcel_text parcel.NoFiles = codes "no file"
parcel_text parcel.NoTime = codes "a block 0 without time"
parcel_text parcel.LongName = codes "a name of 124 bytes"
parcel_text parcel.LongestName = codes "a name of 255 bytes"
parcel_text parcel.Spaces = codes "a name with spaces"
parcel_text parcel.LongHeader = codes "a block 0 of 1024 bytes"
parcel_text parcel.NoLength = codes "a block 0 without length"
parcel_text parcel.Path = codes "a name with folders"

abbrev pub case_text : Case → List ℕ
case_text case.Plain = codes "plain"
case_text (case.Frame spot twist) = spot_text spot ++ (codes ": " ++ twist_text twist)
case_text (case.Sends parcel) = parcel_text parcel
case_text (case.Answer spot twist) =
    codes "answer to " ++ (spot_text spot ++ (codes ": " ++ twist_text twist))
case_text (case.Bytes spot) = spot_text spot ++ codes ": its bytes"

-- ---- What ends do

abbrev pub answer_text : Reply → List ℕ
answer_text reply.Silence = codes "nothing"
answer_text reply.Start = codes "C"
answer_text reply.Ack = codes "ACK"
answer_text reply.AckStart = codes "ACK C"
answer_text reply.Nak = codes "NAK"
answer_text reply.Cancel = codes "CAN CAN"

abbrev pub act_text : Act → List ℕ
act_text act.Nothing = codes "nothing"
act_text act.Header = codes "block 0"
act_text (act.Block number) = codes "data block " ++ decimal number
act_text act.Eot = codes "EOT"
act_text act.End = codes "the end block"
act_text act.Cancel = codes "CAN CAN"
act_text act.Noise = codes "other bytes"
act_text (act.Answer reply) = answer_text reply
act_text (act.Answers first second) = answer_text first ++ (codes ", " ++ answer_text second)
act_text (act.Form form) = form_text form

-- ---- What is found

abbrev pub finding_text : Finding → List ℕ
finding_text Conforms = codes "conforms"
finding_text Differs = codes "differs (harmless)"
finding_text Loses = codes "loses data"
finding_text NoAnswer = codes "no answer"
finding_text NotTried = codes "not tried"

-- the same in one word
abbrev pub finding_word : Finding → List ℕ
finding_word Conforms = codes "conforms"
finding_word Differs = codes "differs"
finding_word Loses = codes "loses-data"
finding_word NoAnswer = codes "no-answer"
finding_word NotTried = codes "not-tried"

-- ---- The lines of a report

-- tenths of a second, in seconds
abbrev pub seconds_text : ℕ → List ℕ
seconds_text tenths = decimal (tenths / 10) ++ (codes "." ++ decimal (tenths % 10))

abbrev pub case_line : Tried → List ℕ
case_line it =
    case_text it.case ++ (codes ": asks for " ++ (act_text it.asked ++ (codes "; did "
    ++ (act_text it.did ++ (codes " after " ++ (seconds_text it.tenths ++ (codes " s: "
    ++ finding_text it.finding)))))))

abbrev pub truth_text : Bool → List ℕ
truth_text true = codes "true"
truth_text false = codes "false"

abbrev pub json_acts : Tried → List ℕ
json_acts it =
    codes "\"case\":\"" ++ (case_text it.case ++ (codes "\",\"asks\":\"" ++ (act_text it.asked
    ++ (codes "\",\"did\":\"" ++ (act_text it.did ++ codes "\"")))))

abbrev pub json_found : Tried → List ℕ
json_found it =
    codes "\"seconds\":" ++ (seconds_text it.tenths ++ (codes ",\"finding\":\""
    ++ (finding_word it.finding ++ (codes "\",\"finished\":" ++ (truth_text it.finished
    ++ (codes ",\"takes_back\":" ++ truth_text it.takes_back))))))

abbrev pub case_json : Tried → List ℕ
case_json it = codes "{" ++ (json_acts it ++ (codes "," ++ (json_found it ++ codes "}")))

abbrev pub start_line : Case → List ℕ
start_line case = codes "start the peer: " ++ case_text case

-- how a session stops short
abbrev pub stop_text : Bool → List ℕ
stop_text true = codes "it takes an ACK back"
stop_text false = codes "it does not come to the end"

-- why a case is to be avoided
abbrev pub harm_text : Finding → Bool → List ℕ
harm_text Loses takes_back = codes "it loses data"
harm_text NoAnswer takes_back = codes "it does not answer"
harm_text Conforms takes_back = stop_text takes_back
harm_text Differs takes_back = stop_text takes_back
harm_text NotTried takes_back = stop_text takes_back

abbrev pub avoid_line : Tried → List ℕ
avoid_line it =
    codes "avoid " ++ (case_text it.case ++ (codes ": " ++ harm_text it.finding it.takes_back))

abbrev pub sums_line : Sums → List ℕ
sums_line it =
    decimal it.conform ++ (codes " conform, " ++ (decimal it.differ
    ++ (codes " differ (harmless), " ++ (decimal it.lose ++ (codes " lose data, "
    ++ (decimal it.left ++ codes " left open"))))))
