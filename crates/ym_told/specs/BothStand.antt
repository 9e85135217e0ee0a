-- Where both ends stand behind what is told of either.
use Rattle.std.specs.Prelude.{ℕ, ◌-◌, ◌==◌, nat_lt, Bool, true, false, not, ◌&&◌, ◌||◌, if◌then◌else◌, List, Option, Some, None}
use Rattle.ym_frame.specs.Block.{length_of}
use Rattle.ym_frame.specs.declared.control.Control.{Control}
use Rattle.ym_frame.specs.declared.frame.Whole.{Whole}
use Rattle.ym_frame.specs.declared.frame.Whole.TheVariants as whole
use Rattle.ym_explain.specs.Noting.{nothing_seen, noted, with_answer_junk}
use Rattle.ym_explain.specs.SignOf.{sign_of, answer_sign}
use Rattle.ym_explain.specs.Talking.{footing_of, meaning_of, is_parting, is_ahead}
use Rattle.ym_explain.specs.Talking.{behind_answer as fate_behind}
use Rattle.ym_explain.specs.declared.answered.AnswerLine.{AnswerLine}
use Rattle.ym_explain.specs.declared.answered.AnswerLine.TheVariants as answer
use Rattle.ym_explain.specs.declared.sent.SentLine.{SentLine}
use Rattle.ym_explain.specs.declared.sent.SentLine.TheVariants as line
use Rattle.ym_explain.specs.declared.signs.Sign.{Sign}
use Rattle.ym_explain.specs.declared.signs.Sign.TheVariants as sign
use Rattle.ym_explain.specs.declared.signs.Signs.{Signs}
use Rattle.ym_explain.specs.declared.talk.Meaning.{Meaning}
use Rattle.ym_explain.specs.declared.talk.Meaning.TheVariants as meaning
use Rattle.ym_explain.specs.declared.talk.Fate.{Fate}
use Rattle.ym_explain.specs.declared.talk.Fate.TheVariants as fate
use Rattle.ym_explain.specs.declared.told.FrameKind.{FrameKind}
use Rattle.ym_explain.specs.declared.told.FrameKind.TheVariants as kind
use Rattle.ym_explain.specs.declared.told.SendPosition.{SendPosition}
use Rattle.ym_explain.specs.declared.told.SendPosition.TheVariants as position
use Rattle.ym_told.specs.declared.prefix.BufferedPrefix.{BufferedPrefix}
use Rattle.ym_told.specs.declared.prefix.BufferedPrefix.TheVariants as prefix
use Rattle.ym_told.specs.declared.standing.BothStanding.{BothStanding}
use Rattle.ym_told.specs.declared.way.Direction.{Direction}
use Rattle.ym_told.specs.declared.way.Direction.TheVariants as way
use Rattle.ym_told.specs.declared.stated.Stated.{Stated}
use Rattle.ym_told.specs.declared.stated.Stated.TheVariants.{Length, NoRoom, Nothing}

abbrev pub at_start : BothStanding
at_start = record {
  position = position.Before;
  fate = fate.Start;
  signs = nothing_seen;
  left = None;
  parted = false;
}

-- what a block 0 states of its file
abbrev pub with_stated : BothStanding → Stated → BothStanding
with_stated at (Length length) = record at { left = Some length }
with_stated at NoRoom = record at { signs = noted at.signs sign.NoRoom; left = None }
with_stated at Nothing = record at { left = None }

-- where so many bytes of a file had not come, a block that comes is of its length or past it
abbrev pub with_block_at : Signs → ℕ → Signs
with_block_at seen left = if left == 0 then noted seen sign.PastLength else seen

-- So many bytes of a file came, of which so many had not, where its length is known.
abbrev pub with_bytes_of : BothStanding → Option ℕ → ℕ → BothStanding
with_bytes_of at (Some left) count =
    record at { signs = with_block_at at.signs left; left = Some (left - count) }
with_bytes_of at None count = at

abbrev pub with_data : BothStanding → Whole → BothStanding
with_data at (whole.Block size) = with_bytes_of at at.left (length_of size)
with_data at whole.Eot = at
with_data at whole.Cancel = at

-- The file ends here, of which so many bytes had not come.
abbrev pub with_end : BothStanding → Option ℕ → BothStanding
with_end at (Some left) =
    if nat_lt 0 left then record at { signs = noted at.signs sign.CutLength } else at
with_end at None = at

abbrev pub counted : BothStanding → Whole → FrameKind → Stated → BothStanding
counted at whole kind.Name stated = with_stated at stated
counted at whole kind.Data stated = with_data at whole
counted at whole kind.Eot stated = with_end at at.left
counted at whole kind.End stated = at
counted at whole kind.Copy stated = at
counted at whole kind.OutOfTurn stated = at
counted at whole kind.Late stated = at
counted at whole kind.Cancel stated = at

-- a frame is out, and a cancel is none
abbrev pub fate_of : Fate → FrameKind → Fate
fate_of now kind.Cancel = now
fate_of now kind.Name = fate.Out
fate_of now kind.Data = fate.Out
fate_of now kind.Eot = fate.Out
fate_of now kind.End = fate.Out
fate_of now kind.Copy = fate.Out
fate_of now kind.OutOfTurn = fate.Out
fate_of now kind.Late = fate.Out

abbrev pub is_before : SendPosition → Bool
is_before position.Before = true
is_before position.Named = false
is_before (position.Data number) = false
is_before position.Ended = false
is_before position.Over = false

-- A frame of a file was answered. Two ends that never agreed do not part.
abbrev pub has_met : BothStanding → Bool
has_met at = at.signs.heard && not (is_before at.position)

abbrev pub behind_frame : BothStanding → Whole → FrameKind → SendPosition → Stated → BothStanding
behind_frame at whole kind position stated = record (counted at whole kind stated) {
  position = position;
  fate = fate_of at.fate kind;
  signs = noted (counted at whole kind stated).signs (sign_of at.position (line.Frame whole kind));
  parted = at.parted || has_met at && is_parting (footing_of at.fate kind);
}

-- a damaged frame is out, and has moved nobody
abbrev pub behind_damage : BothStanding → SentLine → BothStanding
behind_damage at told = record at {
  fate = fate.Damaged;
  signs = noted at.signs (sign_of at.position told);
}

-- With its third byte the complement came, and it agreed: the frame was not damaged until it ended.
abbrev pub behind_cut : BothStanding → ℕ → BothStanding
behind_cut at used = record at {
  fate = fate.Damaged;
  signs = noted at.signs (sign.Damage true (nat_lt 2 used));
}

abbrev pub with_sign : Signs → Option Sign → Signs
with_sign seen (Some sign) = noted seen sign
with_sign seen None = seen

-- a frame, or a copy of one, has no answer yet
abbrev pub owes : BothStanding → Bool
owes at = nat_lt 0 at.signs.out

abbrev pub meaning_at : BothStanding → Control → Meaning
meaning_at at control = meaning_of at.position at.fate (owes at) control

abbrev pub is_eot_again : Meaning → Bool
is_eot_again meaning.TakesEotAgain = true
is_eot_again meaning = false

-- An EOT that was acknowledged may be so once more: that tells nothing.
abbrev pub behind_control : BothStanding → Control → BothStanding
behind_control at control = record at {
  fate = fate_behind at.fate control;
  signs =
      if is_eot_again (meaning_at at control) then at.signs
      else noted at.signs (sign.Answer control);
  parted = at.parted || has_met at && is_ahead (meaning_at at control);
}

abbrev pub behind_answer : BothStanding → AnswerLine → BothStanding
behind_answer at (answer.Answer control) = behind_control at control
behind_answer at answer.Cancel =
    record at { signs = with_sign at.signs (answer_sign answer.Cancel) }
behind_answer at (answer.Echo used) =
    record at { signs = with_sign at.signs (answer_sign (answer.Echo used)) }
behind_answer at answer.Junk = record at { signs = with_sign at.signs (answer_sign answer.Junk) }

abbrev pub other_way : Direction → Direction
other_way way.There = way.Back
other_way way.Back = way.There

-- bytes that are no frame and no answer move nobody
abbrev pub behind_run : BothStanding → Direction → List ℕ → BothStanding
behind_run at way.There bytes = record at { signs = noted at.signs sign.Junk }
behind_run at way.Back bytes = record at { signs = with_answer_junk at.signs bytes }

abbrev pub behind_line : BothStanding → SentLine → SendPosition → Stated → BothStanding
behind_line at (line.Frame whole kind) position stated =
    behind_frame at whole kind position stated
behind_line at (line.Damage broken short) position stated =
    behind_damage at (line.Damage broken short)
behind_line at line.Junk position stated = behind_damage at line.Junk

-- behind a front of this way, with these bytes, which states so much of its file
abbrev pub behind_prefix :
    BothStanding → Direction → BufferedPrefix → List ℕ → Stated → BothStanding
behind_prefix at way (prefix.Run used) bytes stated = behind_run at way bytes
behind_prefix at way prefix.Zmodem bytes stated = record at { signs = noted at.signs sign.Zmodem }
behind_prefix at way (prefix.Cut used) bytes stated = behind_cut at used
behind_prefix at way (prefix.Sent told) bytes stated = behind_line at told.line told.position stated
behind_prefix at way (prefix.Answer line) bytes stated = behind_answer at line
