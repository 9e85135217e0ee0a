-- What `explain` prints and answers.
use Rattle.std.specs.Prelude.{◌≡◌, ◌⊎◌, ◌++◌, ⊤, ℕ, List, Bool, true, false, codes, decimal}
use Rattle.std.specs.Prelude.{IfOk, IfErr, Option, Some, None, Result, Ok, Err}
use Rattle.std.specs.Str.{bytes_eq}
use Rattle.ym_capture.specs.CaptureWords.{capture_words}
use Rattle.ym_capture.specs.declared.fault.CaptureFault.{CaptureFault}
use Rattle.ym_explain.specs.declared.verdict.Verdict.{Verdict}
use Rattle.ym_explain.specs.declared.verdict.Ways.{Ways}
use Rattle.ym_explain.specs.declared.verdict.Ways.TheVariants as ways
use Rattle.ym_file.specs.Counts.{Counted}
use Rattle.ym_inspect.specs.CaptureFaults.{CountsReads, CountsWrites, record_words}
use Rattle.ym_inspect.specs.CaptureTold.{Explains, TellsLast, tagged, ways_of}
use Rattle.ym_inspect.specs.PcapRead.{FaultOfCapture, TellsCapture}
use Rattle.ym_inspect.specs.RecordRead.{IsCut}
use Rattle.ym_inspect.specs.declared.fault.InspectFault.{InspectFault}
use Rattle.ym_inspect.specs.declared.fault.InspectFault.TheVariants as inspect
use Rattle.ym_inspect.specs.declared.fault.RecordFault.{RecordFault}
use Rattle.ym_answer.specs.Desk.{Desk}
use Rattle.ym_answer.specs.Lines.{line}
use Rattle.ym_answer.specs.Page.{Page, Prints}
use Rattle.ym_answer.specs.declared.command_fault.CommandFault.{CommandFault}
use Rattle.ym_answer.specs.declared.command_fault.CommandFault.TheVariants as fault
use Rattle.ym_text.specs.Reasons.{reason_text}
use Rattle.ym_text.specs.declared.reason.Reason.{Reason}
use Rattle.ym_told.specs.declared.way.Direction.TheVariants.{There, Back}
use Rattle.ym_explained.specs.declared.explaining.Form.{Form}
use Rattle.ym_explained.specs.declared.explaining.Form.TheVariants.{Capture, OneWay}
use Rattle.ym_explained.specs.declared.explaining.Reading.{Reading}
use Rattle.ym_explained.specs.declared.explaining.Reading.TheVariants as reading
use Rattle.ym_explained.specs.declared.opened.Seen.{Seen}
use Rattle.ym_explained.specs.declared.untold.Untold.{Untold}
use Rattle.ym_explained.specs.declared.untold.Untold.TheVariants as untold

-- the bytes of a word or a path
abbrev pub Text : Type 0
Text = List ℕ

-- ---- Why a capture is not told to its end, in words

abbrev pub closed_words : Text → Reason → List ℕ
closed_words path why = codes "cannot open '" ++ (path ++ (codes "': " ++ reason_text why))

-- for a reason, where one is known
abbrev pub unread_words : Text → Option Reason → List ℕ
unread_words name None = codes "cannot read '" ++ (name ++ codes "'")
unread_words name (Some why) = codes "cannot read '" ++ (name ++ (codes "': " ++ reason_text why))

-- of two files the first of which a read failed, for a reason that is known
abbrev pub unread_pair : Text → Text → Option Reason → Option Reason → List ℕ
unread_pair there back (Some why) why_back = unread_words there (Some why)
unread_pair there back None why_back = unread_words back why_back

abbrev pub endless_words : Text → List ℕ
endless_words name = codes "'" ++ (name ++ codes "' has no end")

abbrev pub forms_words : List ℕ
forms_words =
    codes "; its lines are SECONDS > HEX or SECONDS < HEX; files of bytes go by --there and --back"

abbrev pub no_record_words : Text → ℕ → RecordFault → List ℕ
no_record_words name number why =
    codes "'" ++ (name ++ (codes "' is no record: line " ++ (decimal number ++ (codes ": "
    ++ (record_words why ++ forms_words)))))

abbrev pub cut_words : Text → ℕ → List ℕ
cut_words name number =
    codes "'" ++ (name ++ (codes "' is cut: line " ++ (decimal number ++ codes
    " has no end, and only what stands before it is told")))

abbrev pub pcapng_words : Text → List ℕ
pcapng_words name =
    codes "'" ++ (name ++ codes
    "' is a pcapng capture, which is not read; editcap -F pcap IN OUT makes a pcap of it")

abbrev pub no_capture_words : Text → ℕ → CaptureFault → List ℕ
no_capture_words name position why =
    codes "'" ++ (name ++ (codes "' cannot be read on: byte " ++ (decimal position ++ (codes ": "
    ++ capture_words why))))

abbrev pub too_many_words : List ℕ
too_many_words = codes "a record has both ways: give it alone, or else --there and --back"

abbrev pub turned_files_words : List ℕ
turned_files_words = codes "files of bytes are not turned: swap --there and --back"

abbrev pub unturned_words : Text → List ℕ
unturned_words path =
    codes "'" ++ (path ++ codes "' is a record, which says its ways: --turned changed nothing")

abbrev pub chart_unnamed_words : List ℕ
chart_unnamed_words =
    codes "standard output has what is told: name a file for the chart (./- is one called -)"

abbrev pub chart_there_words : Text → List ℕ
chart_there_words path = codes "'" ++ (path ++ codes "' is there already: no chart is written")

abbrev pub chart_unwritten_words : Text → Reason → List ℕ
chart_unwritten_words path why =
    codes "cannot write the chart '" ++ (path ++ (codes "': " ++ reason_text why))

abbrev pub untold_words : Untold → List ℕ
untold_words (untold.Closed path why) = closed_words path.now why
untold_words (untold.Unread name why) = unread_words name.now why
untold_words (untold.Endless name) = endless_words name.now
untold_words (untold.NoRecord name number why) = no_record_words name.now number why
untold_words (untold.Cut name number) = cut_words name.now number
untold_words (untold.Pcapng name) = pcapng_words name.now
untold_words (untold.NoCapture name position why) = no_capture_words name.now position why
untold_words untold.TooMany = too_many_words
untold_words untold.TurnedFiles = turned_files_words
untold_words (untold.Unturned path) = unturned_words path.now
untold_words untold.ChartUnnamed = chart_unnamed_words
untold_words (untold.ChartThere path) = chart_there_words path.now
untold_words (untold.ChartUnwritten path why) = chart_unwritten_words path.now why

-- ---- What is told

abbrev pub ways_in : Form → Ways
ways_in (Capture turned) = ways.Both
ways_in (OneWay way) = ways_of way

-- all of a capture of these bytes is told in its order, and nothing else
abbrev pub TellsForm :
    Form → List ℕ → Option (List ℕ) → Verdict → Option (List ℕ) → Type 0
TellsForm (Capture turned) text before verdict after =
    TellsCapture turned text before verdict after
TellsForm (OneWay way) text before verdict after =
    Explains (ways_of way) (tagged way text) before verdict after

-- a line that cannot be read is the first such line of a record, and a packet of a capture
abbrev pub IsFaultOf : Form → InspectFault → List ℕ → Type 0
IsFaultOf (Capture turned) why text = FaultOfCapture turned why text
IsFaultOf (OneWay way) why text = ⊤

-- where the last line of a record has no end, all that the lines before it say is told
abbrev pub IsCutOf :
    Form → InspectFault → List ℕ → Option (List ℕ) → Option (List ℕ) → Type 0
IsCutOf (Capture turned) why text before after = IsCut why text before after
IsCutOf (OneWay way) why text before after = ⊤

-- A capture of this form was told, where reads give this text: its last line is the verdict's.
pub record Told (form : Form) (text : Option (List ℕ)) (reads_failed : ℕ) (out : Page)
    (told : Result Verdict InspectFault) (new_reads_failed : ℕ) (new_out : Page) : Type 0 where
  pub last : IfOk told (λ verdict. TellsLast (ways_in form) verdict new_out.holds)
  pub all : IfOk told (λ verdict. (known : List ℕ) → text ≡ Some known
      → TellsForm form known out.holds verdict new_out.holds)
  pub fault_is : IfErr told (λ why. (known : List ℕ) → text ≡ Some known
      → IsFaultOf form why known)
  pub cut : IfErr told (λ why. (known : List ℕ) → text ≡ Some known
      → IsCutOf form why known out.holds new_out.holds)
  pub reads : CountsReads told reads_failed new_reads_failed
  pub writes : CountsWrites told out.failed new_out.failed

-- ---- What is answered

-- The line says it, and the status is this; or the line could not be written.
abbrev pub Refuses : List ℕ → ℕ → Page → Result ℕ CommandFault → Page → Type 0
Refuses words status old answer new =
    ((answer ≡ Ok status) × Prints old (line words) (Ok tt) new)
    ⊎ ((answer ≡ Err fault.Device) × Counted old.failed new.failed)

abbrev pub Fails : CommandFault → Page → Result ℕ CommandFault → Page → Type 0
Fails why old answer new = (answer ≡ Err why) × (new ≡ old)

-- where what has this name was told so, and these words are for where it cannot be read
abbrev pub AnswersCapture : Text → List ℕ → Result Verdict InspectFault → Page
    → Result ℕ CommandFault → Page → Type 0
AnswersCapture name unread (Ok verdict) old answer new = (answer ≡ Ok 0) × (new ≡ old)
AnswersCapture name unread (Err inspect.Memory) old answer new = Fails fault.Memory old answer new
AnswersCapture name unread (Err inspect.Write) old answer new = Fails fault.Device old answer new
AnswersCapture name unread (Err inspect.Read) old answer new = Refuses unread 1 old answer new
AnswersCapture name unread (Err inspect.Endless) old answer new =
    Refuses (endless_words name) 1 old answer new
AnswersCapture name unread (Err (inspect.Line number why)) old answer new =
    Refuses (no_record_words name number why) 1 old answer new
AnswersCapture name unread (Err (inspect.Cut number)) old answer new =
    Refuses (cut_words name number) 1 old answer new
AnswersCapture name unread (Err inspect.Pcapng) old answer new =
    Refuses (pcapng_words name) 1 old answer new
AnswersCapture name unread (Err (inspect.Packet position why)) old answer new =
    Refuses (no_capture_words name position why) 1 old answer new

-- nothing is said
abbrev pub Passes : Page → Result ℕ CommandFault → Page → Type 0
Passes old answer new = (answer ≡ Ok 0) × (new ≡ old)

-- All of the file at this path was told. A record says its ways: where they were to be turned, a
-- line says that they were not.
abbrev pub AnswersTold : Form → Bool → Text → Page → Result ℕ CommandFault → Page → Type 0
AnswersTold (Capture true) true path old answer new = Refuses (unturned_words path) 0 old answer new
AnswersTold (Capture true) false path old answer new = Passes old answer new
AnswersTold (Capture false) is_record path old answer new = Passes old answer new
AnswersTold (OneWay way) is_record path old answer new = Passes old answer new

-- where the file at this path was told so, and this was seen of it
abbrev pub AnswersOpened : Form → Seen → Text → Result Verdict InspectFault → Page
    → Result ℕ CommandFault → Page → Type 0
AnswersOpened form seen path (Ok verdict) old answer new =
    AnswersTold form seen.is_record path old answer new
AnswersOpened form seen path (Err fault) old answer new =
    AnswersCapture path (unread_words path seen.why) (Err fault) old answer new

-- where the file at this path could not be opened
abbrev pub AnswersClosed : Text → Page → Result ℕ CommandFault → Page → Type 0
AnswersClosed path old answer new =
    ((why : Reason) × Refuses (closed_words path why) 1 old answer new)
    ⊎ Fails fault.Memory old answer new

-- ---- One file, or one for each way

-- nothing of standard input was read
pub record KeepsInput (old new : Desk) : Type 0 where
  pub text : new.text ≡ old.text
  pub reads : new.reads_failed ≡ old.reads_failed

abbrev pub input_name : Text
input_name = codes "standard input"

pub record InputGives (form : Form) (old : Desk) (answer : Result ℕ CommandFault) (new : Desk)
    : Type 0 where
  pub told : Result Verdict InspectFault
  pub tells : Told form old.text old.reads_failed old.out told new.reads_failed new.out
  pub answers : AnswersCapture input_name (unread_words input_name None) told old.err answer new.err

-- What a file has nobody knows.
pub record OpenedGives (path : Text) (form : Form) (old : Desk) (answer : Result ℕ CommandFault)
    (new : Desk) : Type 0 where
  pub told : Result Verdict InspectFault
  pub seen : Seen
  pub last : IfOk told (λ verdict. TellsLast (ways_in form) verdict new.out.holds)
  pub writes : CountsWrites told old.out.failed new.out.failed
  pub answers : AnswersOpened form seen path told old.err answer new.err
  pub keeps : KeepsInput old new

pub record ClosedGives (path : Text) (old : Desk) (answer : Result ℕ CommandFault) (new : Desk)
    : Type 0 where
  pub answers : AnswersClosed path old.err answer new.err
  pub out : new.out ≡ old.out
  pub keeps : KeepsInput old new

abbrev pub GivesBy : Bool → Text → Form → Desk → Result ℕ CommandFault → Desk → Type 0
GivesBy true path form old answer new = InputGives form old answer new
GivesBy false path form old answer new =
    OpenedGives path form old answer new ⊎ ClosedGives path old answer new

-- `-` is standard input
abbrev pub FileGives : Text → Form → Desk → Result ℕ CommandFault → Desk → Type 0
FileGives path form old answer new = GivesBy (bytes_eq path (codes "-")) path form old answer new

pub record BothOpened (there back : Text) (old_out old_err : Page) (answer : Result ℕ CommandFault)
    (new_out new_err : Page) : Type 0 where
  pub told : Result Verdict InspectFault
  pub why_there : Option Reason
  pub why_back : Option Reason
  pub unread : List ℕ
  pub names : unread ≡ unread_pair there back why_there why_back
  pub last : IfOk told (λ verdict. TellsLast ways.Both verdict new_out.holds)
  pub writes : CountsWrites told old_out.failed new_out.failed
  pub answers : AnswersCapture there unread told old_err answer new_err

abbrev pub PairGives : Text → Text → Page → Page → Result ℕ CommandFault → Page → Page → Type 0
PairGives there back old_out old_err answer new_out new_err =
    BothOpened there back old_out old_err answer new_out new_err
    ⊎ ((AnswersClosed there old_err answer new_err ⊎ AnswersClosed back old_err answer new_err)
    × (new_out ≡ old_out))

-- ---- The command

-- Nothing is read or told, for what these words say.
abbrev pub RefusesWords : List ℕ → Desk → Result ℕ CommandFault → Desk → Type 0
RefusesWords words old answer new =
    Refuses words 2 old.err answer new.err × (new.out ≡ old.out) × KeepsInput old new

-- where these files of one way are given, and a capture or none, whose ways are turned or not. The
-- ways of files of one way are named, and not turned.
abbrev pub ExplainGives :
    Option Text → Option Text → Option Text → Bool → Desk → Result ℕ CommandFault → Desk → Type 0
ExplainGives None None (Some path) turned old answer new =
    FileGives path (Capture turned) old answer new
ExplainGives None (Some back) (Some path) turned old answer new =
    RefusesWords too_many_words old answer new
ExplainGives (Some there) None (Some path) turned old answer new =
    RefusesWords too_many_words old answer new
ExplainGives (Some there) (Some back) (Some path) turned old answer new =
    RefusesWords too_many_words old answer new
ExplainGives None None None turned old answer new =
    FileGives (codes "-") (Capture turned) old answer new
ExplainGives (Some path) None None true old answer new =
    RefusesWords turned_files_words old answer new
ExplainGives (Some path) None None false old answer new =
    FileGives path (OneWay There) old answer new
ExplainGives None (Some path) None true old answer new =
    RefusesWords turned_files_words old answer new
ExplainGives None (Some path) None false old answer new =
    FileGives path (OneWay Back) old answer new
ExplainGives (Some there) (Some back) None true old answer new =
    RefusesWords turned_files_words old answer new
ExplainGives (Some there) (Some back) None false old answer new =
    PairGives there back old.out old.err answer new.out new.err × KeepsInput old new

-- what is told of one file, or of one for each way, and where the words ask for too many
abbrev pub ReadingGives : Reading → Desk → Result ℕ CommandFault → Desk → Type 0
ReadingGives (reading.One path form) old answer new = FileGives path.now form old answer new
ReadingGives (reading.Pair there back) old answer new =
    PairGives there.now back.now old.out old.err answer new.out new.err × KeepsInput old new
ReadingGives reading.TooMany old answer new = RefusesWords too_many_words old answer new
ReadingGives reading.TurnedFiles old answer new = RefusesWords turned_files_words old answer new

-- ---- The chart

-- what was answered of the telling, or a line that says why no chart is written at this path. Where
-- nothing was told there is none to write.
abbrev pub AnswersChart : Text → ℕ → Page → Result ℕ CommandFault → Page → Type 0
AnswersChart path status old answer new =
    ((answer ≡ Ok status) × (new ≡ old))
    ⊎ (Refuses (chart_there_words path) 1 old answer new
    ⊎ ((why : Reason) × Refuses (chart_unwritten_words path why) 1 old answer new))

abbrev pub ChartBehind :
    Text → Result ℕ CommandFault → Page → Result ℕ CommandFault → Page → Type 0
ChartBehind path (Ok status) old answer new =
    AnswersChart path status old answer new ⊎ Fails fault.Memory old answer new
ChartBehind path (Err why) old answer new = Fails why old answer new

-- The same is told as without a chart. That is written behind it, or not.
pub record Draws (path : Text) (there back both : Option Text) (turned : Bool) (old : Desk)
    (answer : Result ℕ CommandFault) (new : Desk) : Type 0 where
  pub told : Result ℕ CommandFault
  pub between : Page
  pub tells : ExplainGives there back both turned old told (record new { err = between })
  pub answers : ChartBehind path told between answer new.err

abbrev pub DrawsBy : Bool → Text → Option Text → Option Text → Option Text → Bool → Desk
    → Result ℕ CommandFault → Desk → Type 0
DrawsBy true path there back both turned old answer new =
    RefusesWords chart_unnamed_words old answer new
DrawsBy false path there back both turned old answer new =
    Draws path there back both turned old answer new

-- what is told goes to standard output, which `-` would be
abbrev pub DrawsGives : Option Text → Option Text → Option Text → Option Text → Bool → Desk
    → Result ℕ CommandFault → Desk → Type 0
DrawsGives None there back both turned old answer new =
    ExplainGives there back both turned old answer new
DrawsGives (Some path) there back both turned old answer new =
    DrawsBy (bytes_eq path (codes "-")) path there back both turned old answer new
