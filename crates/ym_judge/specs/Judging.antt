-- When a peer loses data, and what the reference's receiver answers.
use Rattle.std.specs.Prelude.{◌≡◌, ◌≢◌, ◌<◌, ◌⊎◌, ℕ, true, false, List, Result, max}
use Rattle.ym_frame.specs.declared.control.Reply.{Reply}
use Rattle.ym_header.specs.declared.fault.HeaderFault.{HeaderFault}
use Rattle.ym_header.specs.declared.reading.Zero.{Zero}
use Rattle.ym_core.specs.Hearing.{heard_of}
use Rattle.ym_core.specs.Receiver as table
use Rattle.ym_core.specs.Step.{Means}
use Rattle.ym_core.specs.declared.state.RecvState.TheVariants.{Running, Finished}
use Rattle.ym_judge.specs.declared.evidence.Evidence.{Evidence}

-- Data is lost where a file counts as done that is not there by what was delivered, and where what
-- is stored is not what was sent.
abbrev pub IsLoss : Evidence → Type 0
IsLoss it = (it.held < it.told) ⊎ (it.exact ≡ false)

-- the peer was seen to do what the reference does, at the place of the case too, and lost nothing
pub record Conforms (it : Evidence) : Type 0 where
  pub answered : it.answered ≡ true
  pub tried : it.tried ≡ true
  pub fits : it.fits ≡ true
  pub keeps : IsLoss it → ⊥

-- the line of the table at these bytes: what is answered, and what the receiver is then
pub record AnswersSo (old : table.Receiver) (bytes : List ℕ) (reply : Reply) (new : table.Receiver)
    : Type 0 where
  pub zero : Result Zero HeaderFault
  pub means : Means old (heard_of bytes) zero
  pub reply_is : reply ≡ (table.hears old zero (heard_of bytes)).reply
  pub receiver : new ≡ (table.hears old zero (heard_of bytes)).receiver

abbrev pub most_of : ℕ → ℕ → ℕ
most_of a b = max a b

abbrev pub HasStopped : table.Receiver → Type 0
HasStopped r = (r.state ≢ Running) × (r.state ≢ Finished)
