-- What a line of a script says, its values still as they are written.
use Rattle.std.specs.Prelude.{◌&&◌, ℕ, List, [], ◌∷◌, Option, Some, None, codes, if◌then◌else◌}
use Rattle.std.specs.Str.{bytes_eq}
use Rattle.ym_play.specs.Words.{words_of, has_empty_word, has_colon, before_colon, behind_colon}
use Rattle.ym_play.specs.declared.command.DeliveryText.{DeliveryText}
use Rattle.ym_play.specs.declared.command.DeliveryText.TheVariants as delivery
use Rattle.ym_play.specs.declared.command.StampText.{StampText}
use Rattle.ym_play.specs.declared.command.StampText.TheVariants as stamp
use Rattle.ym_play.specs.declared.command.Command.{Command}
use Rattle.ym_play.specs.declared.command.Command.TheVariants as command

-- a delivery: as it was sent, lost, or damaged into the bytes of some digits
pub data DeliveryWords : Type 0 where
  Whole : DeliveryWords
  Lost : DeliveryWords
  Damaged : List ℕ → DeliveryWords

-- a stamp's numbers
pub data StampWords : Type 0 where
  Nothing : StampWords
  Time : List ℕ → StampWords
  TimeMode : List ℕ → List ℕ → StampWords

-- a file has a name, the digits of its bytes and a stamp; a number of whole rounds has its digits
pub data CommandWords : Type 0 where
  Short : CommandWords
  Single : CommandWords
  File : List ℕ → List ℕ → StampWords → CommandWords
  Rounds : List ℕ → CommandWords
  Round : DeliveryWords → DeliveryWords → CommandWords

-- `whole`, `lost`, or `hex` and a colon with the digits behind it
abbrev pub delivery_at : List ℕ → Option DeliveryWords
delivery_at word =
    if bytes_eq word (codes "whole") then Some Whole
    else if bytes_eq word (codes "lost") then Some Lost
    else if has_colon word && bytes_eq (before_colon word) (codes "hex")
    then Some (Damaged (behind_colon word))
    else None

abbrev pub round_of : Option DeliveryWords → Option DeliveryWords → Option CommandWords
round_of (Some there) (Some back) = Some (Round there back)
round_of (Some there) None = None
round_of None back = None

-- behind `round`: two deliveries
abbrev pub round_at : List (List ℕ) → Option CommandWords
round_at [] = None
round_at (there ∷ []) = None
round_at (there ∷ back ∷ []) = round_of (delivery_at there) (delivery_at back)
round_at (there ∷ back ∷ more ∷ others) = None

-- behind `ok`: a number
abbrev pub rounds_at : List (List ℕ) → Option CommandWords
rounds_at [] = None
rounds_at (number ∷ []) = Some (Rounds number)
rounds_at (number ∷ more ∷ others) = None

-- behind a file's name and bytes: a time, or a time and a mode
abbrev pub stamped_at : List ℕ → List ℕ → List (List ℕ) → Option CommandWords
stamped_at name bytes [] = Some (File name bytes Nothing)
stamped_at name bytes (time ∷ []) = Some (File name bytes (Time time))
stamped_at name bytes (time ∷ mode ∷ []) = Some (File name bytes (TimeMode time mode))
stamped_at name bytes (time ∷ mode ∷ more ∷ others) = None

-- behind `file`: a name and bytes, and what stamps them
abbrev pub file_at : List (List ℕ) → Option CommandWords
file_at [] = None
file_at (name ∷ []) = None
file_at (name ∷ bytes ∷ others) = stamped_at name bytes others

-- nothing may stand behind a command of one word
abbrev pub only : CommandWords → List (List ℕ) → Option CommandWords
only said [] = Some said
only said (more ∷ others) = None

-- the command of some words
abbrev pub command_at : List (List ℕ) → Option CommandWords
command_at [] = None
command_at (word ∷ others) =
    if bytes_eq word (codes "short") then only Short others
    else if bytes_eq word (codes "single") then only Single others
    else if bytes_eq word (codes "file") then file_at others
    else if bytes_eq word (codes "ok") then rounds_at others
    else if bytes_eq word (codes "round") then round_at others
    else None

-- the command of a line, none of whose words is empty
abbrev pub command_of : List ℕ → Option CommandWords
command_of line = if has_empty_word line then None else command_at (words_of line)

-- the same as the code's types hold it
abbrev pub delivery_in : DeliveryText → DeliveryWords
delivery_in delivery.Whole = Whole
delivery_in delivery.Lost = Lost
delivery_in (delivery.Damaged digits) = Damaged digits.now

abbrev pub stamp_in : StampText → StampWords
stamp_in stamp.Nothing = Nothing
stamp_in (stamp.Time time) = Time time.now
stamp_in (stamp.TimeMode time mode) = TimeMode time.now mode.now

abbrev pub command_in : Command → CommandWords
command_in command.Short = Short
command_in command.Single = Single
command_in (command.File name bytes stamp) = File name.now bytes.now (stamp_in stamp)
command_in (command.Rounds digits) = Rounds digits.now
command_in (command.Round there back) = Round (delivery_in there) (delivery_in back)
