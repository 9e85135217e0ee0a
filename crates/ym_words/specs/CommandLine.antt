-- The command line: `--version`, and eight optional subcommands, with `--port` (or `-p`) a required
-- text, `--line`, `--record`, `--there`, `--back` and `--chart` ones that may be left out, DIR and
-- RECORD one positional, FILE the last positional with one or more values, and all else flags.
use Rattle.std.specs.Prelude.{◌≡◌, Bool, false, true, List, [], ◌∷◌, Some, codes}
use Rattle.clap.specs.Words.{App, Rule, Text, app_of, new_app, new_rule, rule_of}
use Rattle.clap.specs.Words.{with_rule, with_subcommand}
use Rattle.clap.specs.Lexer.{usize_max}
use Rattle.clap.specs.declared.builder.ArgAction.TheVariants.{Set, SetTrue, Append}
use Rattle.clap.specs.declared.builder.arg.Arg.{Arg}
use Rattle.clap.specs.declared.builder.command.Command.{Command}
use Rattle.clap.specs.declared.builder.command.Command.TheViews.{out-Command}
use Rattle.ym_words.specs.declared.parts.Part.{Part}
use Rattle.ym_words.specs.declared.parts.Part.TheVariants as part
use Rattle.ym_words.specs.declared.words.Flag.{Flag}
use Rattle.ym_words.specs.declared.words.Flag.TheVariants as flags
use Rattle.ym_words.specs.declared.words.Value.{Value}
use Rattle.ym_words.specs.declared.words.Value.TheVariants as value
use Rattle.ym_words.specs.declared.words.Word.{Word}
use Rattle.ym_words.specs.declared.words.Word.TheVariants as word

-- what a parse reads of an argument that is not global
pub record HasRule (a : Arg) (r : Rule) : Type 0 where
  pub rule : rule_of a ≡ r
  pub local : a.global ≡ false

-- what it reads of a command that has no global argument
pub record HasApp (c : Command) (app : App) : Type 0 where
  pub app_is : app_of c ≡ app
  pub local : (out-Command c).has_globals ≡ false

-- an argument that takes one value, and may be left out
abbrev pub value_rule : Text → Rule
value_rule id = record (new_rule id) { value_names = 1; action = Some Set }

abbrev pub port_rule : Rule
port_rule = record (value_rule (codes "port")) {
  short = Some 112;
  long = Some (codes "port");
  required = true;
}

-- a flag of this name, behind two dashes
abbrev pub flag : Text → Text → Rule
flag id long = record (new_rule id) { long = Some long; action = Some SetTrue }

abbrev pub port_rule_if : Bool → Rule
port_rule_if needed = record (value_rule (codes "port")) {
  short = Some 112;
  long = Some (codes "port");
  required = needed;
}

abbrev pub files_rule : Rule
files_rule = record (new_rule (codes "files")) {
  value_names = 1;
  required = true;
  action = Some Append;
  range = Some (record { start_inclusive = 1; end_inclusive = usize_max });
}

abbrev pub short_rule : Rule
short_rule = flag (codes "short") (codes "short")

abbrev pub single_rule : Rule
single_rule = flag (codes "single") (codes "single")

abbrev pub no_sync_rule : Rule
no_sync_rule = flag (codes "no_sync") (codes "no-sync")

abbrev pub discard_parts_rule : Rule
discard_parts_rule = flag (codes "discard_parts") (codes "discard-parts")

abbrev pub eager_rule : Rule
eager_rule = flag (codes "eager") (codes "eager")

abbrev pub keep_rule : Rule
keep_rule = flag (codes "keep") (codes "keep")

abbrev pub verbose_rule : Rule
verbose_rule = flag (codes "verbose") (codes "verbose")

abbrev pub quiet_rule : Rule
quiet_rule = flag (codes "quiet") (codes "quiet")

abbrev pub dir_rule : Rule
dir_rule = record (value_rule (codes "dir")) { required = true }

-- those of `sb` and `rb` that may be left out: the line, and the folder
abbrev pub line_rule : Rule
line_rule = record (value_rule (codes "line")) { long = Some (codes "line") }

abbrev pub folder_rule : Rule
folder_rule = value_rule (codes "dir")

-- those of `explain`: a file for each way, or a record of both, and one for a chart
abbrev pub there_rule : Rule
there_rule = record (value_rule (codes "there")) { long = Some (codes "there") }

abbrev pub back_rule : Rule
back_rule = record (value_rule (codes "back")) { long = Some (codes "back") }

abbrev pub chart_rule : Rule
chart_rule = record (value_rule (codes "chart")) { long = Some (codes "chart") }

abbrev pub record_rule : Rule
record_rule = value_rule (codes "record")

abbrev pub turned_rule : Rule
turned_rule = flag (codes "turned") (codes "turned")

-- and the file of a record, of who sends or receives
abbrev pub recorded_rule : Rule
recorded_rule = record (value_rule (codes "record")) { long = Some (codes "record") }

-- and how much is told
abbrev pub with_telling : App → App
with_telling app = with_rule (with_rule app verbose_rule) quiet_rule

abbrev pub bare_app : App
bare_app =
    let app = new_app (codes "ymodem") in record app { top = record app.top { has_version = true } }

abbrev pub play_app : App
play_app = new_app (codes "play")

abbrev pub loop_app : App
loop_app = with_telling (with_rule (new_app (codes "loop")) port_rule)

abbrev pub send_app : App
send_app =
    with_telling (with_rule (with_rule (with_rule (with_rule (new_app (codes "send")) port_rule)
    short_rule) recorded_rule) files_rule)

-- what the words of `receive` say of the line
abbrev pub line_app : App
line_app = with_rule (with_rule (new_app (codes "receive")) port_rule) single_rule

-- of when it asks, and how often
abbrev pub asking_app : App
asking_app = with_rule (with_rule line_app eager_rule) keep_rule

-- and what they say of the folder
abbrev pub receive_app : App
receive_app =
    with_telling (with_rule (with_rule (with_rule (with_rule asking_app no_sync_rule)
    discard_parts_rule) recorded_rule) dir_rule)

-- the same over a serial line
abbrev pub sb_app : App
sb_app =
    with_telling (with_rule (with_rule (with_rule (with_rule (new_app (codes "sb")) line_rule)
    short_rule) recorded_rule) files_rule)

abbrev pub rb_line_app : App
rb_line_app = with_rule (with_rule (new_app (codes "rb")) line_rule) single_rule

abbrev pub rb_app : App
rb_app =
    with_telling (with_rule (with_rule (with_rule (with_rule rb_line_app no_sync_rule)
    discard_parts_rule) recorded_rule) folder_rule)

abbrev pub explain_app : App
explain_app =
    with_rule (with_rule (with_rule (with_rule (with_rule (new_app (codes "explain")) there_rule)
    back_rule) turned_rule) chart_rule) record_rule

-- those of `judge`: what the peer does, where it is, one case, and the folder that it stores in
abbrev pub peer_rule : Rule
peer_rule = record (value_rule (codes "peer")) { required = true }

abbrev pub any_port_rule : Rule
any_port_rule =
    record (value_rule (codes "port")) { short = Some 112; long = Some (codes "port") }

abbrev pub only_rule : Rule
only_rule = record (value_rule (codes "only")) { long = Some (codes "only") }

abbrev pub stored_rule : Rule
stored_rule = record (value_rule (codes "stored")) { long = Some (codes "stored") }

abbrev pub list_rule : Rule
list_rule = flag (codes "list") (codes "list")

abbrev pub json_rule : Rule
json_rule = flag (codes "json") (codes "json")

abbrev pub judged_app : App
judged_app =
    with_rule (with_rule (with_rule (with_rule (new_app (codes "judge")) peer_rule) any_port_rule)
    line_rule) only_rule

abbrev pub judge_app : App
judge_app =
    with_rule (with_rule (with_rule judged_app stored_rule) list_rule)
    json_rule

-- ---- The words of the commands, and the commands

abbrev pub flag_rule : Flag → Rule
flag_rule flags.Short = short_rule
flag_rule flags.Single = single_rule
flag_rule flags.NoSync = no_sync_rule
flag_rule flags.DiscardParts = discard_parts_rule
flag_rule flags.Eager = eager_rule
flag_rule flags.Keep = keep_rule
flag_rule flags.Verbose = verbose_rule
flag_rule flags.Quiet = quiet_rule
flag_rule flags.Turned = turned_rule
flag_rule flags.List = list_rule
flag_rule flags.Json = json_rule

abbrev pub value_id : Value → Text
value_id value.Line = codes "line"
value_id value.JudgedLine = codes "line"
value_id value.Folder = codes "dir"
value_id value.Dir = codes "dir"
value_id value.Recorded = codes "record"
value_id value.Record = codes "record"
value_id value.There = codes "there"
value_id value.Back = codes "back"
value_id value.Chart = codes "chart"
value_id value.Peer = codes "peer"
value_id value.Only = codes "only"
value_id value.Stored = codes "stored"

-- what is read of a word, and of the command with these words more
abbrev pub word_rule : Word → Rule
word_rule (word.Flag it) = flag_rule it
word_rule (word.Named it) = record (value_rule (value_id it)) { long = Some (value_id it) }
word_rule (word.Placed it needed) = record (value_rule (value_id it)) { required = needed }
word_rule (word.Port needed) = port_rule_if needed
word_rule word.Files = files_rule

abbrev pub with_words : App → List Word → App
with_words app [] = app
with_words app (it ∷ rest) = with_words (with_rule app (word_rule it)) rest

abbrev pub part_app : Part → App
part_app part.Sb = sb_app
part_app part.Rb = rb_app
part_app part.Send = send_app
part_app part.Receive = receive_app
part_app part.Play = play_app
part_app part.Loop = loop_app
part_app part.Explain = explain_app
part_app part.Judge = judge_app

-- and of the command with these parts more
abbrev pub with_parts : App → List Part → App
with_parts app [] = app
with_parts app (it ∷ rest) = with_parts (with_subcommand app (part_app it).top) rest

-- the whole command, serial lines first
unfoldable pub the_app : App
the_app =
    with_subcommand (with_subcommand (with_subcommand (with_subcommand (with_subcommand
    (with_subcommand (with_subcommand (with_subcommand bare_app sb_app.top) rb_app.top)
    send_app.top) receive_app.top) play_app.top) loop_app.top) explain_app.top) judge_app.top
