-- What one or two controls are read as.
use Rattle.std.proofs.Common.{ℕ, ◌≡◌, ◌≢◌, List, [], ◌∷◌, true, false, refl, ap, sym, ◌∙◌, cond}
use Rattle.std.specs.Prelude.{is_some}
use Rattle.ym_frame.specs.declared.control.Control.{Control}
use Rattle.ym_frame.specs.declared.control.Control.TheVariants.{Ack, Can}
use Rattle.ym_core.specs.Scan.{reads, reads_control}
use Rattle.ym_core.specs.declared.position.Mode.{Mode}
use Rattle.ym_core.specs.declared.position.Mode.TheVariants.{Sent, Waiting}
use Rattle.ym_core.specs.declared.position.Position.{Position}
use Rattle.ym_core.specs.declared.position.Position.TheVariants.{Block, End, Eot, Header}
use Rattle.ym_core.specs.declared.scan.Scan.{Scan}

pub one_control : (counts : List ℕ) (position : Position) (mode : Mode) (c : Control) → reads_control counts mode c position ≡ reads counts position mode (c ∷ [])
one_control counts (Header file) Sent Ack = refl
one_control counts (Block file k) Sent Ack = refl
one_control counts (Eot file) Sent Ack = refl
one_control counts End Sent Ack = refl
one_control counts position Waiting Ack = refl
one_control counts position _ _ = refl

module _ (counts : List ℕ) (position : Position) (mode : Mode) where
  -- one CAN is passed over
  pub behind_can : (other : Control) → other ≢ Can → reads_control counts mode other position ≡ reads counts position mode (Can ∷ other ∷ [])
  behind_can Can apart = absurd (apart refl)
  behind_can c apart =
      elim mode as (λ m. reads_control counts m c position ≡ reads counts position m (Can ∷ c ∷ [])) [ Sent ↦ one_control counts position Sent c | Waiting ↦ refl ]

  unrolled : (c other : Control) → c ≢ Can
      → reads counts position mode (c ∷ other ∷ [])
      ≡ cond (is_some (reads_control counts mode c position).stop) (reads_control counts mode c position) (reads counts (reads_control counts mode c position).position (reads_control counts mode c position).mode (other ∷ []))
  unrolled Can other apart = absurd (apart refl)
  unrolled _ other apart = refl

  by_scan : (c other : Control) (r : Scan) → c ≢ Can → r ≡ reads_control counts mode c position → reads counts position mode (c ∷ other ∷ []) ≡ cond (is_some r.stop) r (reads counts r.position r.mode (other ∷ []))
  by_scan c other r apart is = unrolled c other apart ∙ ap (λ (x : Scan). cond (is_some x.stop) x (reads counts x.position x.mode (other ∷ []))) (sym is)

  -- the first one stops the scan
  pub stopped : (c other : Control) (r : Scan) → c ≢ Can → r ≡ reads_control counts mode c position → is_some r.stop ≡ true → r ≡ reads counts position mode (c ∷ other ∷ [])
  stopped c other r apart is on = sym (by_scan c other r apart is ∙ ap (λ b. cond b r (reads counts r.position r.mode (other ∷ []))) on)

  -- the second one is read where the first one came to
  pub read_on : (c other : Control) (r : Scan) → c ≢ Can → r ≡ reads_control counts mode c position → is_some r.stop ≡ false → reads_control counts r.mode other r.position ≡ reads counts position mode (c ∷ other ∷ [])
  read_on c other r apart is on = one_control counts r.position r.mode other ∙ sym (by_scan c other r apart is ∙ ap (λ b. cond b r (reads counts r.position r.mode (other ∷ []))) on)

-- how the second one is read, for each way that the first one is
pub ruleset two_controls = (behind_can, stopped, read_on)
