-- What the laws say of a sender's steps.
use Rattle.ym_link.specs.Moves.{GoesOnePosition, FinishesLast, KeepsCounts, KeepsFiles}

pub record SenderLaws : Type 0 where
  pub goes : GoesOnePosition
  pub finishes : FinishesLast
  pub counts : KeepsCounts
  pub files : KeepsFiles
