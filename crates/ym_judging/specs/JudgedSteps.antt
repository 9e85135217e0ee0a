-- What a report rests on: the steps that a session had, in order.
use Rattle.std.specs.Prelude.{◌≡◌, ◌≤◌, ◌+◌, ℕ, Bool, true, false, List, [], ◌∷◌, ◌||◌, length}
use Rattle.ym_judge.specs.Noted.{is_ack, is_cancel, no_notes, notes_behind}
use Rattle.ym_judge.specs.declared.act.Act.{Act}
use Rattle.ym_judge.specs.declared.act.Act.TheVariants as act
use Rattle.ym_judge.specs.Judging.{IsLoss, Conforms as Conforming}
use Rattle.ym_judge.specs.declared.evidence.Evidence.{Evidence}
use Rattle.ym_judge.specs.declared.finding.Finding.{Finding}
use Rattle.ym_judge.specs.declared.finding.Finding.TheVariants.{Conforms, Differs, Loses}
use Rattle.ym_judge.specs.declared.notes.Notes.{Notes}
use Rattle.ym_judge.specs.declared.notes.Passage.{Passage}
use Rattle.ym_judge.specs.declared.report.Tried.{Tried}
use Rattle.ym_judging.specs.declared.outcome.Outcome.{Outcome}

-- the notes of steps, the last one first
abbrev pub notes_of : List Passage → Notes
notes_of [] = no_notes
notes_of (step ∷ before) = notes_behind step (notes_of before)

-- the notes are those of so many steps at most
pub record IsNoted (most : ℕ) (notes : Notes) : Type 0 where
  pub steps : List Passage
  pub few : length steps ≤ most
  pub are : notes ≡ notes_of steps

-- so many steps more, at most
abbrev pub GrowsBy : ℕ → Notes → Notes → Type 0
GrowsBy count old new = (most : ℕ) → IsNoted most old → IsNoted (most + count) new

-- one step more, at which the peer did this
pub record GoesOn (did : Act) (old new : Notes) : Type 0 where
  pub step : Passage
  pub does : step.did ≡ did
  pub goes : new ≡ notes_behind step old

abbrev pub either : Bool → Bool → Bool
either true other = true
either false other = other

abbrev pub has_acknowledged : Act → Bool
has_acknowledged act.Nothing = false
has_acknowledged act.Header = false
has_acknowledged (act.Block number) = false
has_acknowledged act.Eot = false
has_acknowledged act.End = false
has_acknowledged act.Cancel = false
has_acknowledged act.Noise = false
has_acknowledged (act.Answer reply) = is_ack reply
has_acknowledged (act.Answers first second) = either (is_ack first) (is_ack second)
has_acknowledged (act.Form form) = false

abbrev pub has_cancelled : Act → Bool
has_cancelled act.Nothing = false
has_cancelled act.Header = false
has_cancelled (act.Block number) = false
has_cancelled act.Eot = false
has_cancelled act.End = false
has_cancelled act.Cancel = false
has_cancelled act.Noise = false
has_cancelled (act.Answer reply) = is_cancel reply
has_cancelled (act.Answers first second) = either (is_cancel first) (is_cancel second)
has_cancelled (act.Form form) = false

-- the evidence of an outcome
abbrev pub evidence_of : Outcome → Evidence
evidence_of it = record {
  tried = it.notes.tried;
  answered = it.notes.answered || it.is_mute;
  fits = it.notes.fits;
  told = it.told;
  held = it.held;
  exact = it.is_exact;
}

-- a line of the report shows this step
pub record IsStep (step : Passage) (it : Tried) : Type 0 where
  pub asked : it.asked ≡ step.asked
  pub did : it.did ≡ step.did
  pub tenths : it.tenths ≡ step.tenths

-- what is found is what the evidence shows
pub record IsFound (it : Outcome) (found : Finding) : Type 0 where
  pub loses : found ≡ Loses → IsLoss (evidence_of it)
  pub conforms : found ≡ Conforms → Conforming (evidence_of it)
  pub differs : found ≡ Differs → IsLoss (evidence_of it) → ⊥
