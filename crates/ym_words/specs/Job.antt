-- The job that the matches of the command line stand for.
use Rattle.std.specs.Prelude.{◌≡◌, ℕ, Bool, false, List, [], map, codes, if◌then◌else◌}
use Rattle.std.specs.Prelude.{Option, Some, None, option_map, unwrap_or}
use Rattle.clap.specs.Words.{Row, Text, Kinds, IsAmong, kind_of, all_of, first_of}
use Rattle.std.specs.Str.{bytes_eq}
use Rattle.ym_words.specs.PortNumber.{port_value}
use Rattle.ym_words.specs.declared.job.ReceiveFlags.{ReceiveFlags}
use Rattle.ym_words.specs.declared.job.StoreFlags.{StoreFlags}
use Rattle.ym_words.specs.declared.job.TellFlags.{TellFlags}
use Rattle.ym_words.specs.declared.job.Job.{Job}
use Rattle.ym_words.specs.declared.job.Job.TheVariants as job
use Rattle.ym_words.specs.declared.job.JobFault.{JobFault}
use Rattle.ym_words.specs.declared.job.JobFault.TheVariants as fault

-- what a contract sees of a job
pub data Asked : Type 0 where
  Play : Asked
  Loop : ℕ → TellFlags → Asked
  Send : ℕ → Bool → List Text → Option Text → TellFlags → Asked
  Receive : ℕ → ReceiveFlags → Text → Option Text → TellFlags → Asked
  SendLine : Option Text → Bool → List Text → Option Text → TellFlags → Asked
  ReceiveLine : Option Text → StoreFlags → Text → Option Text → TellFlags → Asked
  Explain : Option Text → Option Text → Option Text → Bool → Option Text → Asked
  Judge : Text → Option Text → Option Text → Option Text → Option Text → Bool → Bool → Asked

abbrev pub is_true_text : Option Text → Bool
is_true_text None = false
is_true_text (Some text) = bytes_eq text (codes "true")

-- what the flag of this name says
abbrev pub flag_of : Text → List Row → Bool
flag_of name rows = is_true_text (first_of name rows)

abbrev pub store_flags_of : List Row → StoreFlags
store_flags_of rows = record {
  single = flag_of (codes "single") rows;
  no_sync = flag_of (codes "no_sync") rows;
  discard_parts = flag_of (codes "discard_parts") rows;
}

abbrev pub receive_flags_of : List Row → ReceiveFlags
receive_flags_of rows = record {
  store = store_flags_of rows;
  eager = flag_of (codes "eager") rows;
  keep = flag_of (codes "keep") rows;
}

abbrev pub tell_flags_of : List Row → TellFlags
tell_flags_of rows =
    record { verbose = flag_of (codes "verbose") rows; quiet = flag_of (codes "quiet") rows }

-- the file that what passes is recorded in, if there is one
abbrev pub recorded_of : List Row → Option Text
recorded_of rows = first_of (codes "record") rows

-- over the connection of a port
abbrev pub send_for : ℕ → Bool → Option (List Text) → Option Text → TellFlags → Option Asked
send_for port short None to tell = None
send_for port short (Some files) to tell = Some (Send port short files to tell)

abbrev pub send_of : ℕ → List Row → Option Asked
send_of port rows =
    send_for port (flag_of (codes "short") rows) (all_of (codes "files") rows) (recorded_of rows)
    (tell_flags_of rows)

abbrev pub receive_for : ℕ → ReceiveFlags → Option Text → Option Text → TellFlags → Option Asked
receive_for port flags None to tell = None
receive_for port flags (Some dir) to tell = Some (Receive port flags dir to tell)

abbrev pub receive_of : ℕ → List Row → Option Asked
receive_of port rows =
    receive_for port (receive_flags_of rows) (first_of (codes "dir") rows) (recorded_of rows)
    (tell_flags_of rows)

-- what a subcommand with a port asks for
abbrev pub ported_for : Option ℕ → Text → List Row → Option Asked
ported_for None name rows = None
ported_for (Some port) name rows =
    if bytes_eq name (codes "loop") then Some (Loop port (tell_flags_of rows))
    else (if bytes_eq name (codes "send") then send_of port rows
    else (if bytes_eq name (codes "receive") then receive_of port rows
    else None))

-- without a line it is standard input and output
abbrev pub send_line_for : Option Text → Bool → Option (List Text) → Option Text → TellFlags
    → Option Asked
send_line_for line short None to tell = None
send_line_for line short (Some files) to tell = Some (SendLine line short files to tell)

abbrev pub send_line_of : List Row → Option Asked
send_line_of rows =
    send_line_for (first_of (codes "line") rows) (flag_of (codes "short") rows)
    (all_of (codes "files") rows) (recorded_of rows) (tell_flags_of rows)

-- and without a folder it is the working one
abbrev pub folder_of : List Row → Text
folder_of rows = unwrap_or (first_of (codes "dir") rows) (codes ".")

abbrev pub receive_line_of : List Row → Asked
receive_line_of rows =
    ReceiveLine (first_of (codes "line") rows) (store_flags_of rows) (folder_of rows)
    (recorded_of rows) (tell_flags_of rows)

abbrev pub explain_of : List Row → Asked
explain_of rows =
    Explain (first_of (codes "there") rows) (first_of (codes "back") rows)
    (first_of (codes "record") rows) (flag_of (codes "turned") rows)
    (first_of (codes "chart") rows)

abbrev pub peer_of : List Row → Text
peer_of rows = unwrap_or (first_of (codes "peer") rows) []

abbrev pub judge_of : List Row → Asked
judge_of rows =
    Judge (peer_of rows) (first_of (codes "port") rows) (first_of (codes "line") rows)
    (first_of (codes "only") rows) (first_of (codes "stored") rows) (flag_of (codes "list") rows)
    (flag_of (codes "json") rows)

-- the job that a subcommand and its matches ask for, unless a value is lacking
abbrev pub asked_for : Text → List Row → Option Asked
asked_for name rows =
    if bytes_eq name (codes "play") then Some Play
    else (if bytes_eq name (codes "explain") then Some (explain_of rows)
    else (if bytes_eq name (codes "judge") then Some (judge_of rows)
    else (if bytes_eq name (codes "sb") then send_line_of rows
    else (if bytes_eq name (codes "rb") then Some (receive_line_of rows)
    else ported_for (port_value (first_of (codes "port") rows)) name rows))))

abbrev pub asked : Option (Text × List Row) → Option Asked
asked None = Some Play
asked (Some p) = asked_for p.0 p.1

abbrev pub asked_of : Job → Asked
asked_of job.Play = Play
asked_of (job.Loop port tell) = Loop port tell
asked_of (job.Send port short files to tell) =
    Send port short (map (λ f. f.now) files.items) (option_map (λ r. r.now) to) tell
asked_of (job.Receive port flags dir to tell) =
    Receive port flags dir.now (option_map (λ r. r.now) to) tell
asked_of (job.SendLine line short files to tell) =
    SendLine (option_map (λ l. l.now) line) short (map (λ f. f.now) files.items)
    (option_map (λ r. r.now) to) tell
asked_of (job.ReceiveLine line flags dir to tell) =
    ReceiveLine (option_map (λ l. l.now) line) flags dir.now (option_map (λ r. r.now) to) tell
asked_of (job.Explain there back both turned chart) =
    Explain (option_map (λ f. f.now) there) (option_map (λ f. f.now) back)
    (option_map (λ f. f.now) both) turned (option_map (λ f. f.now) chart)
asked_of (job.Judge peer port line only stored list json) =
    Judge peer.now (option_map (λ f. f.now) port) (option_map (λ f. f.now) line)
    (option_map (λ f. f.now) only) (option_map (λ f. f.now) stored) list json

-- what each fault says of the words
abbrev pub FaultSays : JobFault → Option Asked → Bool → Type 0
FaultSays (fault.Words e) job taken = taken ≡ false
FaultSays fault.Value job taken = job ≡ None
FaultSays fault.Memory job taken = Unit {0}

-- the kind of clap's error is among those of the rule's first fault; and there is none where the
-- words are clap's, but for a value
abbrev pub IsKind : JobFault → Kinds → Type 0
IsKind (fault.Words e) kinds = IsAmong (kind_of e) kinds
IsKind fault.Value kinds = kinds ≡ []
IsKind fault.Memory kinds = Unit {0}
