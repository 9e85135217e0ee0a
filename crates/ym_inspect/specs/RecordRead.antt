-- What a record says, from its beginning to its end: the bytes that passed, each with its way.
use Rattle.std.specs.Prelude.{◌≡◌, ℕ, ◌+◌, ◌==◌, Bool, true, false, List, [], ◌∷◌, ◌++◌, if◌then◌else◌}
use Rattle.std.specs.Prelude.{Option, Some, None, option_to_list, Result, Ok, Err}
use Rattle.ym_explain.specs.declared.verdict.Verdict.{Verdict}
use Rattle.ym_explain.specs.declared.verdict.Ways.TheVariants as ways
use Rattle.ym_told.specs.declared.way.Direction.{Direction}
use Rattle.ym_inspect.specs.CaptureTold.{Explains, Tells, tagged}
use Rattle.ym_inspect.specs.Inspecting.{Parts, nothing_buffered}
use Rattle.ym_inspect.specs.Recorded.{after_char, capped, is_open}
use Rattle.ym_inspect.specs.declared.fault.InspectFault.{InspectFault}
use Rattle.ym_inspect.specs.declared.fault.InspectFault.TheVariants.{Cut, Line}
use Rattle.ym_inspect.specs.declared.fault.RecordFault.{RecordFault}
use Rattle.ym_inspect.specs.declared.in_line.InLine.{InLine}
use Rattle.ym_inspect.specs.declared.in_line.InLine.TheVariants as line
use Rattle.ym_inspect.specs.declared.in_line.Stepped.{Stepped}

-- the way of the bytes of the line under way
abbrev pub way_in : InLine → Option Direction
way_in (line.Bytes at way) = Some way
way_in (line.Half at way high) = Some way
way_in line.Start = None
way_in line.Comment = None
way_in (line.Seconds micros) = None
way_in (line.Fraction micros unit) = None
way_in (line.Moment micros) = None

-- bytes of the line under way
abbrev pub in_line : Option Direction → List ℕ → List (Direction × ℕ)
in_line (Some way) bytes = tagged way bytes
in_line None bytes = []

-- so much of a record: how much of its last line, the number of that line and its bytes, and what
-- the lines before it say
pub record SoMuch : Type 0 where
  pub state : InLine
  pub number : ℕ
  pub buffered : List ℕ
  pub read : List (Direction × ℕ)

abbrev pub so_much : InLine → ℕ → List ℕ → List (Direction × ℕ) → SoMuch
so_much state number buffered read =
    record { state = state; number = number; buffered = buffered; read = read }

abbrev pub no_line : SoMuch
no_line = so_much line.Start 1 [] []

-- With its end a line says its bytes, each with its way.
abbrev pub behind_line : SoMuch → InLine → SoMuch
behind_line at state =
    so_much state (capped (at.number + 1)) [] (at.read ++ in_line (way_in at.state) at.buffered)

-- in the line under way, which has a byte more, or none
abbrev pub further : SoMuch → Stepped → SoMuch
further at stepped =
    so_much stepped.state at.number (at.buffered ++ option_to_list stepped.byte) at.read

-- behind a character, which completes a byte or none
abbrev pub behind_char : SoMuch → ℕ → Result Stepped RecordFault → Result SoMuch InspectFault
behind_char at c (Ok stepped) =
    Ok (if c == 10 then behind_line at stepped.state else further at stepped)
behind_char at c (Err why) = Err (Line at.number why)

abbrev pub and_char : Result SoMuch InspectFault → ℕ → Result SoMuch InspectFault
and_char (Ok at) c = behind_char at c (after_char at.state c)
and_char (Err fault) c = Err fault

-- and these characters behind it
abbrev pub and_chars : Result SoMuch InspectFault → List ℕ → Result SoMuch InspectFault
and_chars at [] = at
and_chars at (c ∷ more) = and_chars (and_char at c) more

-- A record that ends within a line is cut there.
abbrev pub ended : SoMuch → Bool → Result (List (Direction × ℕ)) InspectFault
ended at false = Ok at.read
ended at true = Err (Cut at.number)

abbrev pub at_record_end : Result SoMuch InspectFault → Result (List (Direction × ℕ)) InspectFault
at_record_end (Ok at) = ended at (is_open at.state)
at_record_end (Err fault) = Err fault

-- the bytes of a record, each with its way, in order; or the first line that cannot be read, or
-- the last line, where that has no end
abbrev pub recorded : List ℕ → Result (List (Direction × ℕ)) InspectFault
recorded text = at_record_end (and_chars (Ok no_line) text)

-- What the lines of a record say that have an end is told in its order, so far.
abbrev pub SoFar :
    Option (List ℕ) → Parts → Option (List ℕ) → List (Direction × ℕ) → Type 0
SoFar before at out read = Tells nothing_buffered before read at out

-- A fault of a line is that of the record.
abbrev pub SaysLine : InspectFault → Result SoMuch InspectFault → Type 0
SaysLine fault at = (number : ℕ) (why : RecordFault) → fault ≡ Line number why → at ≡ Err fault

-- So much was read, and what was told of it goes on.
pub record GoesOn (before : Option (List ℕ)) (much : Result SoMuch InspectFault) (at : Parts)
    (state : InLine) (number : ℕ) (buffered : List ℕ) (out : Option (List ℕ)) : Type 0 where
  pub read : List (Direction × ℕ)
  pub much_is : much ≡ Ok (so_much state number buffered read)
  pub so_far : SoFar before at out read

-- all that a record says is told in its order, and nothing else
pub record TellsRecord (text : List ℕ) (before : Option (List ℕ)) (verdict : Verdict)
    (after : Option (List ℕ)) : Type 0 where
  pub read : List (Direction × ℕ)
  pub says : recorded text ≡ Ok read
  pub explains : Explains ways.Both read before verdict after

-- this line of the record is the first that cannot be read, if that is the fault
abbrev pub IsFirstLine : InspectFault → List ℕ → Type 0
IsFirstLine fault text =
    (number : ℕ) (why : RecordFault) → fault ≡ Line number why → recorded text ≡ Err fault

-- All that the lines of a record say that have an end is told in its order, and nothing else.
pub record TellsLines (much : Result SoMuch InspectFault) (before after : Option (List ℕ))
    : Type 0 where
  pub at : SoMuch
  pub much_is : much ≡ Ok at
  pub verdict : Verdict
  pub explains : Explains ways.Both at.read before verdict after

-- Where the record ends within a line, that is the fault, and the lines before it are told.
abbrev pub EndsCut : InspectFault → Result SoMuch InspectFault → Option (List ℕ)
    → Option (List ℕ) → Type 0
EndsCut fault much before after = (number : ℕ) → fault ≡ Cut number
    → (at_record_end much ≡ Err fault) × TellsLines much before after

abbrev pub IsCut : InspectFault → List ℕ → Option (List ℕ) → Option (List ℕ) → Type 0
IsCut fault text before after = EndsCut fault (and_chars (Ok no_line) text) before after
