-- What the bytes of a script stand for: a batch of files, how it is sent and received, and the
-- rounds of the line.
use Rattle.std.specs.Prelude.{ℕ, ◌+◌, ◌==◌, ◌&&◌, not, nat_lt, nat_le, Bool, List, [], ◌∷◌, ◌++◌, length, Option, Some, None, Result, Ok, Err, codes, replicate, if◌then◌else◌}
use Rattle.std.specs.List.{slice_split, list_all}
use Rattle.std.specs.Str.{bytes_eq, is_utf8}
use Rattle.ym_header.specs.declared.limits.TheConstants.{MOST_NAME_BYTES}
use Rattle.ym_header.specs.declared.stamp.Stamp.{Stamp}
use Rattle.ym_file.specs.declared.plan.Shape.{Shape}
use Rattle.ym_file.specs.declared.plan.Shape.TheVariants as shape
use Rattle.ym_machine.specs.declared.confirm.Confirm.{Confirm}
use Rattle.ym_machine.specs.declared.confirm.Confirm.TheVariants as confirm
use Rattle.ym_machine.specs.declared.limits.TheConstants.{MOST_FILES}
use Rattle.ym_file.specs.SourceFile.{FileParts}
use Rattle.ym_line.specs.declared.delivery.Delivery.TheVariants as line
use Rattle.ym_line.specs.declared.delivery.Round.{Round}
use Rattle.ym_play.specs.Command.{StampWords, DeliveryWords, CommandWords, Short, Single, File, Rounds, Round as RoundWords, command_of}
use Rattle.ym_play.specs.Value.{count_at, stamp_at, bytes_at, delivery_at}
use Rattle.ym_play.specs.declared.fault.ScriptWhy.{ScriptWhy}
use Rattle.ym_play.specs.declared.fault.ScriptWhy.TheVariants as why
use Rattle.ym_play.specs.declared.limits.TheConstants.{MOST_ROUNDS, MOST_SCRIPT_BYTES}

pub record ScriptParts : Type 0 where
  pub batch : List FileParts
  pub shape : Shape
  pub confirm : Confirm
  pub rounds : List Round

-- the script of no lines
abbrev pub empty : ScriptParts
empty = record { batch = []; shape = shape.Mixed; confirm = confirm.Twice; rounds = [] }

-- the second step, if the first gave a value
infixl 10 ◌>>=◌
abbrev pub ◌>>=◌ : {A B : Type 0} → Result A ScriptWhy → (A → Result B ScriptWhy) →
    Result B ScriptWhy
Ok x >>= f = f x
Err why >>= f = Err why

-- some bytes of UTF-8, within the limit on a name, without control characters and slashes, and no
-- name of a directory
abbrev pub is_name : List ℕ → Bool
is_name name =
    nat_lt 0 (length name) &&
    (nat_le (length name) MOST_NAME_BYTES &&
    (is_utf8 name && (list_all (λ b. nat_le 0x20 b && not (b == 0x2f)) name
    && (not (bytes_eq name (codes ".")) && not (bytes_eq name (codes ".."))))))

abbrev pub named_file : List ℕ → List ℕ → Stamp → Result FileParts ScriptWhy
named_file name bytes stamp =
    if is_name name
    then Ok (record {
      header = record { name = name; length = length bytes; stamp = stamp };
      bytes = Some bytes;
      failures = 0;
      fills = 0;
    })
    else Err why.Name

-- the file of a name, bytes and a stamp as they are written
abbrev pub file_at : List ℕ → List ℕ → StampWords → Result FileParts ScriptWhy
file_at name bytes stamp = bytes_at bytes >>= (λ b. stamp_at stamp >>= (λ s. named_file name b s))

-- nothing but rounds stands behind a round
abbrev pub early : {A : Type 0} → ScriptParts → Result A ScriptWhy → Result A ScriptWhy
early s next = if length s.rounds == 0 then next else Err why.Late

abbrev pub with_file : ScriptParts → FileParts → Result ScriptParts ScriptWhy
with_file s file =
    if nat_lt (length s.batch) MOST_FILES
    then Ok (record s { batch = s.batch ++ file ∷ [] })
    else Err why.TooMany

abbrev pub with_written_file : ScriptParts → List ℕ → List ℕ → StampWords →
    Result ScriptParts ScriptWhy
with_written_file s name bytes stamp = file_at name bytes stamp >>= (λ file. with_file s file)

abbrev pub whole_round : Round
whole_round = record { there = line.Whole; back = line.Whole }

abbrev pub with_whole : ScriptParts → ℕ → Result ScriptParts ScriptWhy
with_whole s count =
    if nat_le (length s.rounds + count) MOST_ROUNDS
    then Ok (record s { rounds = s.rounds ++ replicate count whole_round })
    else Err why.Number

abbrev pub with_round : ScriptParts → DeliveryWords → DeliveryWords → Result ScriptParts ScriptWhy
with_round s there back = if nat_lt (length s.rounds) MOST_ROUNDS
    then (delivery_at there >>= (λ t.
    delivery_at back >>= (λ b.
    Ok (record s { rounds = s.rounds ++ record { there = t; back = b } ∷ [] }))))
    else Err why.Number

-- what one command makes of a script
abbrev pub followed : ScriptParts → CommandWords → Result ScriptParts ScriptWhy
followed s Short = early s (Ok (record s { shape = shape.Short }))
followed s Single = early s (Ok (record s { confirm = confirm.Once }))
followed s (File name bytes stamp) = early s (with_written_file s name bytes stamp)
followed s (Rounds digits) = count_at digits >>= (λ count. with_whole s count)
followed s (RoundWords there back) = with_round s there back

abbrev pub said : ScriptParts → Option CommandWords → Result ScriptParts ScriptWhy
said s None = Err why.NotCommand
said s (Some command) = followed s command

-- what one line makes of a script: an empty one makes nothing of it
abbrev pub line_read : ScriptParts → List ℕ → Result ScriptParts ScriptWhy
line_read s text = if length text == 0 then Ok s else said s (command_of text)

-- a fault with its line's number
abbrev pub numbered : {A : Type 0} → ℕ → Result A ScriptWhy → Result A (ℕ × ScriptWhy)
numbered n (Ok x) = Ok x
numbered n (Err why) = Err (n, why)

infixl 10 ◌>>>◌
abbrev pub ◌>>>◌ : {A B : Type 0} →
    Result A (ℕ × ScriptWhy) → (A → Result B (ℕ × ScriptWhy)) → Result B (ℕ × ScriptWhy)
Ok x >>> f = f x
Err fault >>> f = Err fault

-- what lines make of a script, the first of them with this number, or the first fault
unfoldable pub lines_read : ℕ → ScriptParts → List (List ℕ) → Result ScriptParts (ℕ × ScriptWhy)
lines_read n s [] = Ok s
lines_read n s (text ∷ others) =
    numbered n (line_read s text) >>> (λ t. lines_read (n + 1) t others)

-- the parts between the line ends
unfoldable pub lines_of : List ℕ → List (List ℕ)
lines_of text = slice_split (λ c. c == 10) text

-- the script of some bytes, or its first fault with its line; line 0 is the whole
abbrev pub script_of : List ℕ → Result ScriptParts (ℕ × ScriptWhy)
script_of bytes =
    if nat_le (length bytes) MOST_SCRIPT_BYTES
    then (if is_utf8 bytes then lines_read 1 empty (lines_of bytes) else Err (0, why.NotText))
    else Err (0, why.Large)
