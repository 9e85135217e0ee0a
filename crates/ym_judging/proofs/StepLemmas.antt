-- Notes of one step more.
use Rattle.std.proofs.Common.{◌≡◌, ◌≤◌, ◌+◌, ◌∙◌, ℕ, [], ◌∷◌, ap, arith}
use Rattle.ym_judge.specs.Noted.{no_notes, notes_behind}
use Rattle.ym_judge.specs.declared.act.Act.{Act}
use Rattle.ym_judge.specs.declared.notes.Notes.{Notes}
use Rattle.ym_judging.specs.JudgedSteps.{GoesOn, GrowsBy, IsNoted}

pub none_yet : (notes : Notes) → notes ≡ no_notes → IsNoted 0 notes
none_yet notes e = record { steps = []; few = omega arith; are = e }

pub one_more : {did : Act} {old new : Notes} → GoesOn did old new → GrowsBy 1 old new
one_more goes most noted = record {
  steps = goes.step ∷ noted.steps;
  few = let few = noted.few in omega (arith, few);
  are = goes.goes ∙ ap (notes_behind goes.step) noted.are;
}

pub as_before : (count : ℕ) {old new : Notes} → new ≡ old → GrowsBy count old new
as_before count e most noted = record {
  steps = noted.steps;
  few = let few = noted.few in omega (arith, few);
  are = e ∙ noted.are;
}

pub both : (a b : ℕ) {old between new : Notes} → GrowsBy a old between → GrowsBy b between new
    → GrowsBy (a + b) old new
both a b first second most noted =
    let grown = second (most + a) (first most noted) in
    record { steps = grown.steps; few = let few = grown.few in omega (arith, few); are = grown.are }

pub same_notes : {most : ℕ} {old new : Notes} → new ≡ old → IsNoted most old → IsNoted most new
same_notes e noted =
    record { steps = noted.steps; few = noted.few; are = e ∙ noted.are }

pub at_most : {a b : ℕ} {notes : Notes} → a ≤ b → IsNoted a notes → IsNoted b notes
at_most below noted = record {
  steps = noted.steps;
  few = let few = noted.few in omega (arith, few, below);
  are = noted.are;
}
