-- Which sign of a session each line is that is told.
use Rattle.std.specs.Prelude.{ℕ, ◌==◌, ◌&&◌, ◌||◌, Bool, true, false, List, ◌∷◌, Option, Some, None}
use Rattle.ym_frame.specs.declared.frame.Whole.{Whole}
use Rattle.ym_frame.specs.declared.frame.Whole.TheVariants as whole
use Rattle.ym_frame.specs.declared.frame.Why.{Why}
use Rattle.ym_frame.specs.declared.frame.Why.TheVariants.{FirstByte, Complement, Check, SecondCan, Cut}
use Rattle.ym_explain.specs.declared.answered.AnswerLine.{AnswerLine}
use Rattle.ym_explain.specs.declared.answered.AnswerLine.TheVariants as answer
use Rattle.ym_explain.specs.declared.sent.SentLine.{SentLine}
use Rattle.ym_explain.specs.declared.sent.SentLine.TheVariants as line
use Rattle.ym_explain.specs.declared.signs.Sign.{Sign}
use Rattle.ym_explain.specs.declared.signs.Sign.TheVariants as sign
use Rattle.ym_explain.specs.declared.told.FrameKind.{FrameKind}
use Rattle.ym_explain.specs.declared.told.SendPosition.{SendPosition}

-- A CAN that stands alone is no frame, and any other reason is one of a frame. Where its check is
-- wrong or its end is missing, its number and the complement agree.
abbrev pub damage_sign : Why → Bool → Sign
damage_sign SecondCan short = sign.Junk
damage_sign FirstByte short = sign.Damage short false
damage_sign Complement short = sign.Damage short false
damage_sign Check short = sign.Damage short true
damage_sign Cut short = sign.Damage short true

abbrev pub frame_sign : SendPosition → Whole → FrameKind → Sign
frame_sign at (whole.Block size) kind = sign.Block at kind
frame_sign at whole.Eot kind = sign.Eot
frame_sign at whole.Cancel kind = sign.SenderCancel

abbrev pub sign_of : SendPosition → SentLine → Sign
sign_of at line.Junk = sign.Junk
sign_of at (line.Damage broken short) = damage_sign broken.why short
sign_of at (line.Frame whole kind) = frame_sign at whole kind

abbrev pub answer_sign : AnswerLine → Option Sign
answer_sign (answer.Answer control) = Some (sign.Answer control)
answer_sign answer.Cancel = Some sign.ReceiverCancel
answer_sign (answer.Echo used) = Some sign.Echo
answer_sign answer.Junk = None

-- `**`, CAN, `B00` or `B01`
abbrev pub greets_zmodem : List ℕ → Bool
greets_zmodem (a ∷ b ∷ c ∷ d ∷ e ∷ f ∷ more) =
    a == 0x2a && b == 0x2a && c == 0x18 && d == 0x42 && e == 0x30 && (f == 0x30 || f == 0x31)
greets_zmodem bytes = false
