-- What a sender keeps to, after a step.
use Rattle.std.proofs.Common.{ℕ, ◌≡◌, List, true, false, refl, ap, sym, ◌∙◌, subst, Option, None, Some}
use Rattle.std.specs.Prelude.{All}
use Rattle.ym_link.proofs.Names.{Shape, Control, FileParts, IsFile, counts_of, IsPosition, IsFrameAt, Position, Block, Standing, Running, SenderParts, IsSender, IsStep, IsFilled, hears, after_fill}
use Rattle.ym_core.specs.declared.standing.SendStep.{SendStep as Step}
use Rattle.ym_core.specs.declared.state.SendState.TheVariants.{SourceFailed}
use Rattle.ym_link.proofs.Files.{filled_counts, filled_files}
use Rattle.ym_link.proofs.Steps.{Keeps, step_keeps}

-- a step at which the source failed is one of the table's
pub failed_hears : (shape : Shape) (seen files new : List FileParts) (held out : List ℕ) (s t : Standing) (cs : List Control) (step : Step) (position : Position) → seen ≡ files
    → step ≡ hears (counts_of shape seen) s cs → step.fills ≡ Some position → t ≡ record step.standing { state = SourceFailed; cancel_pending = true } → IsFilled true (Some position) files new
    → IsStep (record { standing = s; shape = shape; files = files; frame = held }) (hears (counts_of shape files) s cs) true (record { standing = t; shape = shape; files = new; frame = out })
failed_hears shape seen files new held out s t cs step position same is fills failed filled =
    let old : SenderParts = record { standing = s; shape = shape; files = files; frame = held } in
    let left : SenderParts = record { standing = t; shape = shape; files = new; frame = out } in
    subst (λ (x : Step). IsStep old x true left) (is ∙ ap (λ (fs : List FileParts). hears (counts_of shape fs) s cs) same) (record {
      files = subst (λ p. IsFilled true p files new) (sym fills) filled;
      standing = failed ∙ (by position filled ∙ ap (λ p. after_fill true p step.standing) (sym fills));
      frame = λ h. absurd cc;
      shape = refl;
    })
  where
    by : (p : Position) → IsFilled true (Some p) files new → record step.standing { state = SourceFailed; cancel_pending = true } ≡ after_fill true (Some p) step.standing
    by (Block file k) h = refl
    by _ h = absurd h

-- `seen` are the files before the step, as the step saw them
module _ (shape : Shape) (frame : List ℕ) (seen old : List FileParts) (same : seen ≡ old) where
  keeps : (s : Standing) (step : Step) (cs : List Control) → step ≡ hears (counts_of shape seen) s cs → step.standing.state ≡ Running → Keeps s step
  keeps s step cs is = rw is (step_keeps (counts_of shape seen) s cs)

  -- the source failed
  pub failed_sender : (new : List FileParts) (position : Option Position) (s t : Standing) → t ≡ record s { state = SourceFailed; cancel_pending = true } → IsFilled true position old new → All IsFile old → IsPosition (counts_of shape seen) s.position
      → IsSender (record { standing = t; shape = shape; files = new; frame = frame })
  failed_sender new position s t is filled files within = subst (λ (x : Standing). IsSender (record { standing = x; shape = shape; files = new; frame = frame })) (sym is) (record {
    files = filled_files true position old new filled files;
    position = rw (filled_counts shape true position old new filled) (rw same at within);
    retries = λ h. absurd cc;
    frame = λ h. absurd cc;
  })

  -- no frame was filled
  pub unfilled_sender : (s : Standing) (step : Step) (cs : List Control) → step ≡ hears (counts_of shape seen) s cs → step.fills ≡ None
      → IsPosition (counts_of shape seen) step.standing.position → IsSender (record { standing = s; shape = shape; files = old; frame = frame })
      → IsSender (record { standing = step.standing; shape = shape; files = old; frame = frame })
  unfilled_sender s step cs is none within sender = record {
    files = sender.files;
    position = rw same at within;
    retries = λ h. (keeps s step cs is h).retries;
    frame = λ h sent. subst (λ p. IsFrameAt shape old p frame) (sym ((keeps s step cs is h).position none sent)) (sender.frame (keeps s step cs is h).state ((keeps s step cs is h).mode none sent));
  }

  -- a frame was filled
  pub filled_sender : (out : List ℕ) (new : List FileParts) (s : Standing) (step : Step) (cs : List Control) (position : Position) → step ≡ hears (counts_of shape seen) s cs
      → step.fills ≡ Some position → IsFilled false (Some position) old new → IsPosition (counts_of shape seen) step.standing.position → IsFrameAt shape new position out → All IsFile old
      → IsSender (record { standing = step.standing; shape = shape; files = new; frame = out })
  filled_sender out new s step cs position is fills filled within held files = record {
    files = filled_files false (Some position) old new filled files;
    position = rw (filled_counts shape false (Some position) old new filled) (rw same at within);
    retries = λ h. (keeps s step cs is h).retries;
    frame = λ h sent. subst (λ p. IsFrameAt shape new p out) (sym ((keeps s step cs is h).filled position fills)) held;
  }
