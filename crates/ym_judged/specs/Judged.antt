-- What `judge` prints and answers.
use Rattle.std.specs.Prelude.{◌≡◌, ◌<◌, ◌⊎◌, ◌&&◌, ◌||◌, ℕ, Bool, true, false, not, if◌then◌else◌}
use Rattle.std.specs.Prelude.{List, [], ◌∷◌, ◌++◌, map, take, length, codes}
use Rattle.std.specs.Prelude.{Option, Some, None, Result, Ok, Err, IfErr}
use Rattle.std.specs.List.{AllZip, filter, flat_map, fold}
use Rattle.std.specs.Str.{bytes_eq}
use Rattle.std.specs.declared.io.ErrorKind.{ErrorKind}
use Rattle.std.specs.declared.io.ErrorKind.TheVariants as kind
use Rattle.clap.specs.Words.{Text}
use Rattle.ym_file.specs.Counts.{Counted}
use Rattle.ym_judge.specs.Cases.{cases_for}
use Rattle.ym_judge.specs.JudgeText.{avoid_line, case_json, case_line, case_text, sums_line}
use Rattle.ym_judge.specs.Reporting.{counted, no_sums}
use Rattle.ym_judge.specs.declared.case.Case.{Case}
use Rattle.ym_judge.specs.declared.cases.Peer.{Peer}
use Rattle.ym_judge.specs.declared.cases.Peer.TheVariants.{Sender, Receiver}
use Rattle.ym_judge.specs.declared.finding.Finding.{Finding}
use Rattle.ym_judge.specs.declared.finding.Finding.TheVariants as finding
use Rattle.ym_judge.specs.declared.report.Sums.{Sums}
use Rattle.ym_judge.specs.declared.report.Tried.{Tried}
use Rattle.ym_judging.specs.JudgedSteps.{IsFound, IsStep}
use Rattle.ym_judging.specs.declared.outcome.Outcome.{Outcome}
use Rattle.ym_answer.specs.Lines.{line}
use Rattle.ym_answer.specs.Page.{Page, Prints}
use Rattle.ym_answer.specs.declared.command_fault.CommandFault.{CommandFault}
use Rattle.ym_answer.specs.declared.command_fault.CommandFault.TheVariants as fault
use Rattle.ym_ends.specs.declared.told_line.LineWords.{LineWords}
use Rattle.ym_text.specs.declared.end_message.EndMessage.{EndMessage}
use Rattle.ym_text.specs.declared.end_message.EndMessage.TheVariants as end
use Rattle.ym_text.specs.declared.reason.Reason.TheVariants as why

-- ---- Names

abbrev pub peer_named : List ℕ → Option Peer
peer_named word =
    if bytes_eq word (codes "sender") then Some Sender
    else (if bytes_eq word (codes "receiver") then Some Receiver else None)

-- the first of these cases that has the name
abbrev pub case_named : List Case → Text → Option Case
case_named [] name = None
case_named (case ∷ more) name =
    if bytes_eq (case_text case) name then Some case else case_named more name

-- ---- The report

-- a line for each, in order
abbrev pub lines_of : {A : Type 0} → (A → List ℕ) → List A → List ℕ
lines_of words its = flat_map (λ it. line (words it)) its

abbrev pub names_text : List Case → List ℕ
names_text cases = lines_of case_text cases

-- for machines, or for people
abbrev pub case_words : Bool → Tried → List ℕ
case_words true it = case_json it
case_words false it = case_line it

abbrev pub case_lines : Bool → List Tried → List ℕ
case_lines json tried = lines_of (case_words json) tried

-- the finding is to be avoided, in a session that came to its end or did not
abbrev pub is_harm : Finding → Bool → Bool
is_harm finding.Loses finished = true
is_harm finding.NoAnswer finished = true
is_harm finding.Differs finished = not finished
is_harm finding.Conforms finished = false
is_harm finding.NotTried finished = false

abbrev pub to_avoid : List Tried → List Tried
to_avoid tried = filter (λ it. is_harm it.finding it.finished) tried

-- how many cases have each finding
abbrev pub sums_of : List Tried → Sums
sums_of tried = fold (λ sums it. counted it.finding sums) no_sums tried

abbrev pub avoid_lines : List Tried → List ℕ
avoid_lines avoided = lines_of avoid_line avoided

-- for people: what is to be avoided, and the sums
abbrev pub report_end : Bool → List Tried → Sums → List ℕ
report_end true avoided sums = []
report_end false avoided sums = avoid_lines avoided ++ line (sums_line sums)

abbrev pub report_text : Bool → List Tried → List ℕ
report_text json tried =
    case_lines json tried ++ report_end json (to_avoid tried) (sums_of tried)

-- ---- The line

-- the error says no more than that nobody is there yet
abbrev pub is_nobody : ErrorKind → Bool
is_nobody kind.WouldBlock = true
is_nobody kind.Interrupted = true
is_nobody kind.ConnectionRefused = true
is_nobody kind.ConnectionReset = true
is_nobody kind.ConnectionAborted = true
is_nobody kind.TimedOut = true
is_nobody _ = false

-- A call of the line fails so since the peer has closed its end, or takes nothing. A terminal that
-- has hung up looks so too.
abbrev pub is_of_peer : EndMessage → Bool
is_of_peer end.LineHungUp = true
is_of_peer (end.LineRefused why.Closed) = true
is_of_peer (end.LineRefused why.Broken) = true
is_of_peer (end.LineRefused why.Late) = true
is_of_peer _ = false

-- why the line failed in a case: a read did, or a call for another reason than the peer's
abbrev pub failure_in : Bool → LineWords → Option EndMessage
failure_in is_read_failed words =
    if is_read_failed || (words.has_failed && not (is_of_peer words.failed))
    then Some words.failed else None

-- ---- What was tried

abbrev pub cases_in : List Tried → List Case
cases_in tried = map (λ it. it.case) tried

-- the report says of a case what its outcome shows, and no read of the line failed in it
pub record IsShown (outcome : Outcome) (it : Tried) : Type 0 where
  pub sound : outcome.has_failed ≡ false
  pub step : IsStep outcome.notes.shown it
  pub finished : it.finished ≡ outcome.is_finished
  pub takes_back : it.takes_back ≡ outcome.notes.takes_back
  pub found : IsFound outcome it.finding

-- these cases were tried, in order, with these outcomes
pub record AreTried (cases : List Case) (outcomes : List Outcome) (tried : List Tried)
    : Type 0 where
  pub are : cases_in tried ≡ cases
  pub shown : AllZip IsShown outcomes tried

-- ---- The status

-- 0 where nothing is to be avoided, and 1 where something is
abbrev pub status_of_avoided : List Tried → ℕ
status_of_avoided [] = 0
status_of_avoided (tried ∷ more) = 1

-- ---- What is printed

abbrev pub Gives : Type 1
Gives = Page → Result ℕ CommandFault → Page → Type 0

-- some of it may have gone there
abbrev pub OutFails : Gives
OutFails old answer new = (answer ≡ Err fault.Device) × Counted old.failed new.failed

-- the names of all cases were printed, or out failed
abbrev pub ListsCases : Peer → Gives
ListsCases peer old answer new =
    ((answer ≡ Ok 0) × Prints old (names_text (cases_for peer)) (Ok tt) new)
    ⊎ OutFails old answer new

-- all the cases were tried, and the whole report was printed
pub record IsReported (cases : List Case) (json : Bool) (old : Page)
    (answer : Result ℕ CommandFault) (new : Page) : Type 0 where
  pub outcomes : List Outcome
  pub tried : List Tried
  pub are : AreTried cases outcomes tried
  pub prints : Prints old (report_text json tried) (Ok tt) new
  pub answer_is : answer ≡ Ok (status_of_avoided (to_avoid tried))

-- memory ran out; or err or the line failed, or what is stored cannot be looked at
abbrev pub IsMidway : CommandFault → Type 0
IsMidway why = (why ≡ fault.Memory) ⊎ (why ≡ fault.Device)

-- A fault midway: the first so many cases have their lines, and nothing else was printed.
pub record IsCutOff (cases : List Case) (json : Bool) (old : Page)
    (answer : Result ℕ CommandFault) (new : Page) : Type 0 where
  pub outcomes : List Outcome
  pub tried : List Tried
  pub count : ℕ
  pub few : count < length cases
  pub are : AreTried (take count cases) outcomes tried
  pub prints : Prints old (case_lines json tried) (Ok tt) new
  pub why : CommandFault
  pub midway : IsMidway why
  pub answer_is : answer ≡ Err why

abbrev pub TriesCases : List Case → Bool → Gives
TriesCases cases json old answer new =
    IsReported cases json old answer new
    ⊎ (IsCutOff cases json old answer new ⊎ OutFails old answer new)

-- ---- The command

-- words that are refused; or the line that tells it could not be written
abbrev pub IsRefusal : Result ℕ CommandFault → Type 0
IsRefusal answer = (answer ≡ Ok 2) ⊎ (answer ≡ Err fault.Device)

-- nothing was printed
abbrev pub Refused : Gives
Refused old answer new = IsRefusal answer × (new ≡ old)

abbrev pub FailsBefore : CommandFault → Gives
FailsBefore why old answer new = (answer ≡ Err why) × (new ≡ old)

-- The way to a peer is a port or a line, and not both: without one there is this answer.
abbrev pub LacksWay : Option Text → Option Text → Result ℕ CommandFault → Type 0
LacksWay None None answer = IsRefusal answer
LacksWay (Some port) (Some path) answer = IsRefusal answer
LacksWay (Some port) None answer = answer ≡ Err fault.Device
LacksWay None (Some path) answer = answer ≡ Err fault.Device

-- where there is a way, or why there is none
abbrev pub HasWay : {A : Type 0} → Option Text → Option Text → Result A CommandFault → Type 0
HasWay None None found = found ≡ Err fault.Device
HasWay (Some port) (Some path) found = found ≡ Err fault.Device
HasWay (Some port) None found = Unit {0}
HasWay None (Some path) found = IfErr found (λ why. why ≡ fault.Device)

abbrev pub PlaysCases : Option Text → Option Text → List Case → Bool → Gives
PlaysCases None None cases json old answer new = Refused old answer new
PlaysCases (Some port) (Some path) cases json old answer new = Refused old answer new
PlaysCases (Some port) None cases json old answer new =
    TriesCases cases json old answer new
    ⊎ (FailsBefore fault.Port old answer new ⊎ FailsBefore fault.Device old answer new)
PlaysCases None (Some path) cases json old answer new =
    TriesCases cases json old answer new ⊎ FailsBefore fault.Device old answer new

abbrev pub JudgesOne : Option Case → Option Text → Option Text → Bool → Gives
JudgesOne None port path json old answer new = Refused old answer new
JudgesOne (Some case) port path json old answer new =
    PlaysCases port path (case ∷ []) json old answer new

-- all cases of the peer, or the one of this name
abbrev pub JudgesOnly : Option Text → Peer → Option Text → Option Text → Bool → Gives
JudgesOnly None peer port path json old answer new =
    PlaysCases port path (cases_for peer) json old answer new
JudgesOnly (Some name) peer port path json old answer new =
    JudgesOne (case_named (cases_for peer) name) port path json old answer new
    ⊎ FailsBefore fault.Memory old answer new

-- their names, or what comes of them
abbrev pub JudgesPeer : Bool → Option Text → Peer → Option Text → Option Text → Bool → Gives
JudgesPeer true only peer port path json old answer new = ListsCases peer old answer new
JudgesPeer false only peer port path json old answer new =
    JudgesOnly only peer port path json old answer new

abbrev pub JudgesNamed :
    Option Peer → Option Text → Option Text → Option Text → Bool → Bool → Gives
JudgesNamed None port path only list json old answer new = Refused old answer new
JudgesNamed (Some peer) port path only list json old answer new =
    JudgesPeer list only peer port path json old answer new

abbrev pub JudgeGives : Text → Option Text → Option Text → Option Text → Bool → Bool → Gives
JudgeGives peer port path only list json old answer new =
    JudgesNamed (peer_named peer) port path only list json old answer new
