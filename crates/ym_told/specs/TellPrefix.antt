-- What stands at the front of what is held of a way, and when that is sure.
use Rattle.std.specs.Prelude.{ℕ, ◌==◌, nat_lt, not, ◌&&◌, ◌||◌, Bool, true, false, if◌then◌else◌, List, [], ◌∷◌, length, Option, Some, None}
use Rattle.ym_frame.specs.declared.control.Control.TheVariants.{Can}
use Rattle.ym_frame.specs.declared.frame.Why.{Why}
use Rattle.ym_frame.specs.declared.frame.Why.TheVariants.{FirstByte, Complement, Check, SecondCan, Cut}
use Rattle.ym_explain.specs.Answered.{answer_of}
use Rattle.ym_explain.specs.SignOf.{greets_zmodem}
use Rattle.ym_explain.specs.declared.answered.AnswerLine.{AnswerLine}
use Rattle.ym_explain.specs.declared.answered.AnswerLine.TheVariants as answer
use Rattle.ym_explain.specs.declared.sent.SentLine.{SentLine}
use Rattle.ym_explain.specs.declared.sent.SentLine.TheVariants as line
use Rattle.ym_explain.specs.declared.sent.SentTold.{SentTold}
use Rattle.ym_told.specs.Runs.{sent_run, answer_run, is_answer_byte}
use Rattle.ym_told.specs.declared.prefix.BufferedPrefix.{BufferedPrefix}
use Rattle.ym_told.specs.declared.prefix.BufferedPrefix.TheVariants as prefix
use Rattle.ym_told.specs.declared.prefix.Settle.{Settle}
use Rattle.ym_told.specs.declared.prefix.Settle.TheVariants as settle
use Rattle.ym_told.specs.declared.run.Tail.{Tail}
use Rattle.ym_told.specs.declared.run.Tail.TheVariants.{Text, Gs, Nothing}

abbrev pub answer_len : AnswerLine → ℕ
answer_len answer.Cancel = 2
answer_len (answer.Echo used) = used
answer_len (answer.Answer control) = 1
answer_len answer.Junk = 1

-- how many bytes are told, and let go
abbrev pub used_by : BufferedPrefix → ℕ
used_by (prefix.Run used) = used
used_by prefix.Zmodem = 4
used_by (prefix.Cut used) = used
used_by (prefix.Sent told) = told.used
used_by (prefix.Answer line) = answer_len line

-- nothing is told that may go on
abbrev pub waits : Settle → Bool
waits settle.Nothing = true
waits settle.Damage = false
waits settle.All = false

-- the first bytes of `**`, CAN, `B0`, and no more
abbrev pub begins_greeting : List ℕ → Bool
begins_greeting [] = false
begins_greeting (a ∷ []) = a == 0x2a
begins_greeting (a ∷ b ∷ []) = a == 0x2a && b == 0x2a
begins_greeting (a ∷ b ∷ c ∷ []) = a == 0x2a && b == 0x2a && c == 0x18
begins_greeting (a ∷ b ∷ c ∷ d ∷ []) = a == 0x2a && b == 0x2a && c == 0x18 && d == 0x42
begins_greeting (a ∷ b ∷ c ∷ d ∷ e ∷ []) =
    a == 0x2a && b == 0x2a && c == 0x18 && d == 0x42 && e == 0x30
begins_greeting (a ∷ b ∷ c ∷ d ∷ e ∷ f ∷ more) = false

abbrev pub may_greet : List ℕ → Settle → Bool
may_greet buffered settle = waits settle && begins_greeting buffered

abbrev pub is_empty : List ℕ → Bool
is_empty [] = true
is_empty (byte ∷ more) = false

-- a CAN that stands alone is no frame, and any other beginning of one is cut
abbrev pub open_all : List ℕ → Option BufferedPrefix
open_all [] = Some (prefix.Cut 0)
open_all (byte ∷ more) =
    if byte == 0x18 then Some (prefix.Run 1) else Some (prefix.Cut (length (byte ∷ more)))

abbrev pub prefix_open : List ℕ → Settle → Option BufferedPrefix
prefix_open buffered settle.Nothing = None
prefix_open buffered settle.Damage = None
prefix_open buffered settle.All = open_all buffered

-- where the next frame begins is sure with so many bytes
abbrev pub damaged_prefix : Why → SentTold → ℕ → Settle → Option BufferedPrefix
damaged_prefix SecondCan told count settle = Some (prefix.Run 1)
damaged_prefix FirstByte told count settle =
    if waits settle && nat_lt count 2057 then None else Some (prefix.Sent told)
damaged_prefix Complement told count settle =
    if waits settle && nat_lt count 2057 then None else Some (prefix.Sent told)
damaged_prefix Check told count settle =
    if waits settle && nat_lt count 2057 then None else Some (prefix.Sent told)
damaged_prefix Cut told count settle =
    if waits settle && nat_lt count 2057 then None else Some (prefix.Sent told)

abbrev pub line_prefix : SentLine → SentTold → ℕ → Settle → Option BufferedPrefix
line_prefix line.Junk told count settle = Some (prefix.Run 1)
line_prefix (line.Frame whole kind) told count settle = Some (prefix.Sent told)
line_prefix (line.Damage broken short) told count settle =
    damaged_prefix broken.why told count settle

abbrev pub prefix_told : SentTold → ℕ → Settle → Option BufferedPrefix
prefix_told told count settle = line_prefix told.line told count settle

abbrev pub sent_prefix : List ℕ → Option SentTold → Settle → Option BufferedPrefix
sent_prefix buffered None settle = prefix_open buffered settle
sent_prefix buffered (Some told) settle = prefix_told told (length buffered) settle

-- the front of the sender's bytes, of which this is told by `ym_explain`
abbrev pub prefix_there : List ℕ → Option SentTold → Settle → Option BufferedPrefix
prefix_there buffered told settle =
    if is_empty buffered || may_greet buffered settle then None else
    if greets_zmodem buffered then Some prefix.Zmodem else
    if nat_lt 0 (sent_run buffered) then Some (prefix.Run (sent_run buffered)) else
    sent_prefix buffered told settle

abbrev pub open_answer : List ℕ → Settle → Option BufferedPrefix
open_answer buffered settle.Nothing = None
open_answer buffered settle.Damage = None
open_answer [] settle.All = Some (prefix.Run 1)
open_answer (byte ∷ more) settle.All =
    if byte == 0x18 then Some (prefix.Answer (answer.Answer Can)) else Some (prefix.Run 1)

abbrev pub answer_prefix : List ℕ → Settle → Option AnswerLine → Option BufferedPrefix
answer_prefix buffered settle None = open_answer buffered settle
answer_prefix buffered settle (Some answer.Junk) = Some (prefix.Run 1)
answer_prefix buffered settle (Some (answer.Answer control)) =
    Some (prefix.Answer (answer.Answer control))
answer_prefix buffered settle (Some answer.Cancel) = Some (prefix.Answer answer.Cancel)
answer_prefix buffered settle (Some (answer.Echo used)) = Some (prefix.Answer (answer.Echo used))

abbrev pub is_gs : Tail → Bool
is_gs Gs = true
is_gs Text = false
is_gs Nothing = false

-- a C or two, and no more
abbrev pub is_c_or_two : List ℕ → Bool
is_c_or_two [] = false
is_c_or_two (a ∷ []) = a == 0x43
is_c_or_two (a ∷ b ∷ []) = a == 0x43 && b == 0x43
is_c_or_two (a ∷ b ∷ c ∷ more) = false

-- Behind G a C asks, or is a letter of a text that begins so, as `GCC`: what comes next tells.
abbrev pub may_ask : Tail → List ℕ → Settle → Bool
may_ask tail buffered settle = waits settle && is_gs tail && is_c_or_two buffered

abbrev pub is_letter : ℕ → Bool
is_letter byte = not (is_answer_byte byte)

abbrev pub is_letter_behind : ℕ → ℕ → Bool
is_letter_behind a b = if a == 0x43 then is_letter b else is_letter a

-- no answer stands there, or behind a C or two
abbrev pub begins_text : List ℕ → Bool
begins_text [] = false
begins_text (a ∷ []) = is_letter a
begins_text (a ∷ b ∷ []) = is_letter_behind a b
begins_text (a ∷ b ∷ c ∷ more) =
    if a == 0x43 then is_letter_behind b c else is_letter a

-- the bytes go on as text, where this came last of a run of the receiver
abbrev pub is_text_behind : Tail → List ℕ → Bool
is_text_behind Text buffered = true
is_text_behind Gs buffered = begins_text buffered
is_text_behind Nothing buffered = false

abbrev pub answer_run_behind : Tail → List ℕ → ℕ
answer_run_behind tail buffered = answer_run (is_text_behind tail buffered) buffered

-- the front of the receiver's bytes
abbrev pub prefix_back : Tail → List ℕ → Settle → Option BufferedPrefix
prefix_back tail buffered settle =
    if is_empty buffered || may_greet buffered settle || may_ask tail buffered settle then None else
    if greets_zmodem buffered then Some prefix.Zmodem else
    if nat_lt 0 (answer_run_behind tail buffered)
    then Some (prefix.Run (answer_run_behind tail buffered)) else
    answer_prefix buffered settle (answer_of buffered)
