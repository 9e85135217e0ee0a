-- A scan, one byte after another.
use Rattle.std.proofs.Common.{ℕ, ◌+◌, ◌≡◌, ◌≢◌, ◌<◌, List, [], ◌∷◌, length, Bool, true, false, refl, ◌∙◌, get_or, drop, Option, None, Some, cond}
use Rattle.std.specs.Prelude.{is_some}
use Rattle.std.specs.List.{cons_option}
use Rattle.std.proofs.lemmas.List.{drop_more}
use Rattle.ym_frame.specs.Control.{control_at}
use Rattle.ym_frame.specs.declared.control.Control.{Control}
use Rattle.ym_frame.specs.declared.control.Control.TheVariants.{Can}
use Rattle.ym_core.specs.declared.position.Position.{Position}
use Rattle.ym_core.specs.declared.position.Mode.{Mode}
use Rattle.ym_core.specs.declared.position.Mode.TheVariants.{Waiting, Sent}
use Rattle.ym_core.specs.declared.scan.Scan.{Scan}
use Rattle.ym_core.specs.declared.scan.Stop.TheVariants.{Cancels}
use Rattle.ym_core.specs.Scan.{controls_in, reads_control, reads}

-- a CAN that was passed over stands before what is left
abbrev pub pending : Bool → List Control → List Control
pending true controls = Can ∷ controls
pending false controls = controls

over : (counts : List ℕ) (position : Position) (mode : Mode) (c : Control) (more : List Control) → c ≢ Can → reads counts position mode (Can ∷ c ∷ more) ≡ reads counts position mode (c ∷ more)
over counts position mode Can more other = absurd (other refl)
over counts position Sent c more other = refl
over counts position Waiting c more other = refl

module _ (counts : List ℕ) (position : Position) (mode : Mode) where
  -- a control that is no CAN
  one : (c : Control) (more : List Control) → c ≢ Can
      → reads counts position mode (c ∷ more)
      ≡ cond (is_some (reads_control counts mode c position).stop) (reads_control counts mode c position) (reads counts (reads_control counts mode c position).position (reads_control counts mode c position).mode more)
  one Can more other = absurd (other refl)
  one c more other = refl

  -- a CAN before it is passed over
  passed : (after_can : Bool) (c : Control) (more : List Control) → c ≢ Can → reads counts position mode (pending after_can (c ∷ more)) ≡ reads counts position mode (c ∷ more)
  passed false c more other = refl
  passed true c more other = over counts position mode c more other

  -- the controls came to their end
  pub ends : (after_can : Bool) → reads counts position mode (pending after_can []) ≡ record { position = position; mode = mode; stop = None }
  ends false = refl
  ends true = over mode
    where
      over : (m : Mode) → reads counts position m (Can ∷ []) ≡ record { position = position; mode = m; stop = None }
      over Sent = refl
      over Waiting = refl

module _ (counts : List ℕ) (position : Position) (mode : Mode) (after_can : Bool) (bytes : List ℕ) (i d : ℕ) (less : i < length bytes) where
  at : (o : Option Control) → control_at (get_or bytes i d) ≡ o
      → reads counts position mode (pending after_can (controls_in (drop i bytes))) ≡ reads counts position mode (pending after_can (cons_option o (controls_in (drop (i + 1) bytes))))
  at o is = rw (drop_more bytes i d less, is) refl

  pub skips : control_at (get_or bytes i d) ≡ None
      → reads counts position mode (pending after_can (controls_in (drop i bytes))) ≡ reads counts position mode (pending after_can (controls_in (drop (i + 1) bytes)))
  skips is = at None is

  pub waits : control_at (get_or bytes i d) ≡ Some Can → after_can ≡ false
      → reads counts position mode (pending after_can (controls_in (drop i bytes))) ≡ reads counts position mode (pending true (controls_in (drop (i + 1) bytes)))
  waits is other = rw (at (Some Can) is, other) refl

  pub cancels : control_at (get_or bytes i d) ≡ Some Can → after_can ≡ true
      → reads counts position mode (pending after_can (controls_in (drop i bytes))) ≡ record { position = position; mode = mode; stop = Some Cancels }
  cancels is second = rw (at (Some Can) is, second) refl

  turned : (c : Control) (r : Scan) → control_at (get_or bytes i d) ≡ Some c → c ≢ Can → r ≡ reads_control counts mode c position
      → reads counts position mode (pending after_can (controls_in (drop i bytes))) ≡ cond (is_some r.stop) r (reads counts r.position r.mode (controls_in (drop (i + 1) bytes)))
  turned c r is other e =
      rw e (at (Some c) is ∙ (passed counts position mode after_can c (controls_in (drop (i + 1) bytes)) other ∙ one counts position mode c (controls_in (drop (i + 1) bytes)) other))

  pub goes_on : (c : Control) (r : Scan) → control_at (get_or bytes i d) ≡ Some c → c ≢ Can → r ≡ reads_control counts mode c position → is_some r.stop ≡ false
      → reads counts position mode (pending after_can (controls_in (drop i bytes))) ≡ reads counts r.position r.mode (pending false (controls_in (drop (i + 1) bytes)))
  goes_on c r is other e on = rw (turned c r is other e, on) refl

  pub stops_at : (c : Control) (r : Scan) → control_at (get_or bytes i d) ≡ Some c → c ≢ Can → r ≡ reads_control counts mode c position → is_some r.stop ≡ true
      → reads counts position mode (pending after_can (controls_in (drop i bytes))) ≡ r
  stops_at c r is other e on = rw (turned c r is other e, on) refl
