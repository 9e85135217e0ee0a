-- What passes on the line to a peer: what came, what of it is said, and what was written.
use Rattle.std.specs.Prelude.{ℕ, Bool, true, false, List, [], ◌∷◌, ◌++◌, Option, Some, None}
use Rattle.std.specs.Prelude.{Result, Ok, Err}
use Rattle.ym_frame.specs.Frame.{is_cut, verdict_of}
use Rattle.ym_frame.specs.declared.frame.Broken.{Broken}
use Rattle.ym_frame.specs.declared.frame.Item.{Item}
use Rattle.ym_judge.specs.AnswerBytes.{answers_in}
use Rattle.ym_judge.specs.declared.twist.Twist.{Twist}
use Rattle.ym_judge.specs.declared.twist.Twist.TheVariants as twist
use Rattle.ym_judging.specs.declared.line.Ear.{Ear}
use Rattle.ym_judging.specs.declared.line.Ear.TheVariants.{Answers, Frames}
use Rattle.ym_judging.specs.declared.turn.Heard.{Heard}
use Rattle.ym_link.specs.Port.{Seen, Data, Silence, End, Failed}
use Rattle.ym_port.specs.Wire.{Tape, after_write}

-- what an end takes for said of bytes that came
abbrev pub said_in : Ear → List ℕ → List ℕ
said_in Answers bytes = answers_in 0 bytes
said_in Frames bytes = bytes

-- whether more bytes may make these a frame
abbrev pub is_begun : Result (Item × ℕ) Broken → Bool
is_begun (Ok found) = false
is_begun (Err broken) = is_cut broken.why

-- whether these bytes are the front of a frame that is listened for
abbrev pub is_within : Ear → List ℕ → Bool
is_within Answers bytes = false
is_within Frames bytes = is_begun (verdict_of bytes)

-- the bytes that a read brings
abbrev pub brought : Seen → List ℕ
brought (Data bytes) = bytes
brought Silence = []
brought End = []
brought Failed = []

-- What a write of these bytes leaves, which may fail. Nothing is written where there are none, and
-- where the line is closed.
abbrev pub written_on : Bool → Bool → List ℕ → Tape → Tape
written_on true made bytes t = t
written_on false made [] t = t
written_on false made (byte ∷ more) t = after_write made t (byte ∷ more)

-- a C that is to come with the ACK counts only so, and else it may come late
abbrev pub late_of : Option Twist → List ℕ → List ℕ
late_of None late = late
late_of (Some twist.Prompt) late = []
late_of (Some twist) late = late

-- what counts as the answer of a turn
abbrev pub said_by : Option Twist → Heard → List ℕ
said_by twist heard =
    heard.before.items ++ heard.bytes.items ++ late_of twist heard.late.items
