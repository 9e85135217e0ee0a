use Rattle.std.proofs.Common.{◌≡◌, ℕ, List, [], ◌∷◌, length, inl, inr, refl, ap, subst, arith}
use Rattle.ym_pair.proofs.Names.{Shape, Eot, IsFrameAt, FileParts, AreAcknowledged}
use Rattle.ym_frame.specs.Frame.{IsFrame}
use Rattle.ym_frame.specs.declared.frame.Item.TheVariants as item
use Rattle.ym_pair.specs.PairingExamples.{eot_and_start, another_frame}
use Rattle.ym_pair.proofs.laws.examples.an_ack_is_of_the_frame_before_it.Goals as goal

no-eot : (shape : Shape) (files : List FileParts) → IsFrameAt shape files (Eot 0) (24 ∷ 24 ∷ []) → ⊥
no-eot shape files at =
    let same : ◌≡◌ {A = List ℕ} (24 ∷ 24 ∷ []) (4 ∷ []) = subst (λ i. IsFrame i (24 ∷ 24 ∷ [])) at.there at.frame in
    let long : 2 ≡ 1 = ap (λ (l : List ℕ). length l) same in
    omega (arith, long)

no-start : (shape : Shape) (files : List FileParts) → AreAcknowledged shape files (Eot 0 ∷ []) eot_and_start → ⊥
no-start shape files (inl here) = here.1
no-start shape files (inr later) = later

no-other : (shape : Shape) (files : List FileParts) → AreAcknowledged shape files (Eot 0 ∷ []) another_frame → ⊥
no-other shape files (inl here) = here.1
no-other shape files (inr (inl here)) = no-eot shape files here.0
no-other shape files (inr (inr later)) = later

pub returns-clause-later : goal.returns-clause-later
returns-clause-later c = λ shape files. inr (inl (record { item = item.Eot; there = refl; frame = refl }, tt, tt))

pub returns-clause-start : goal.returns-clause-start
returns-clause-start c = no-start

pub returns-clause-other : goal.returns-clause-other
returns-clause-other c = no-other
