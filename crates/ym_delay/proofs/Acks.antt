-- An ACK is read of a reply that is one.
use Rattle.std.proofs.Common.{◌≡◌, ◌⊎◌, inl, inr, ℕ, Bool, true, false, if◌then◌else◌, List, [], ◌∷◌, refl, subst}
use Rattle.ym_frame.specs.Control.{reply_bytes}
use Rattle.ym_frame.specs.declared.control.Control.{Control}
use Rattle.ym_frame.specs.declared.control.Control.TheVariants.{Ack, Can}
use Rattle.ym_frame.specs.declared.control.Reply.{Reply}
use Rattle.ym_frame.specs.declared.control.Reply.TheVariants as reply
use Rattle.ym_core.specs.Scan.{controls_in}
use Rattle.ym_machine.specs.Steps.{is_within, same_control, controls as reply_controls}
use Rattle.ym_line.specs.declared.delivery.Delivery.{Delivery}
use Rattle.ym_line.specs.declared.delivery.Delivery.TheVariants.{Whole, Lost, Damaged}
use Rattle.ym_pair.specs.Pairing.{ArrivesBack}
use Rattle.ym_delay.specs.Cleared.{HasAck, HasCan, IsAck, ReadsAck, ReadsCan}
use Rattle.ym_delay.proofs.Ahead.{Within}

pick : (b x y : Bool) → (if b then x else y) ≡ true → (x ≡ true) ⊎ (y ≡ true)
pick true x y is = inl is
pick false x y is = inr is

more-ack : (c : Control) (more : List Control) → HasAck more → HasAck (c ∷ more)
more-ack Ack more has = tt
more-ack _ more has = has

within-ack : (came said : List Control) → is_within came said ≡ true → HasAck came → HasAck said
within-ack [] said is has = absurd has
within-ack (c ∷ came) [] is has = absurd (cc)
within-ack (Ack ∷ came) (Ack ∷ said) is has = tt
within-ack (Ack ∷ came) (r ∷ said) is has = within-ack (Ack ∷ came) said is has
within-ack (c ∷ came) (r ∷ said) is has =
    elim (pick (same_control c r) _ _ is) [ inl x ↦ more-ack r said (within-ack came said x has) | inr y ↦ more-ack r said (within-ack (c ∷ came) said y has) ]

of-reply : (r : Reply) → HasAck (reply_controls r) → IsAck r
of-reply reply.Ack has = tt
of-reply reply.AckStart has = tt
of-reply _ has = absurd has

of-bytes : (r : Reply) → HasAck (controls_in (reply_bytes r)) → IsAck r
of-bytes reply.Ack has = tt
of-bytes reply.AckStart has = tt
of-bytes _ has = absurd has

damaged-within : Within → (r : Reply) (bytes came : List ℕ) → ArrivesBack (Damaged bytes) r came → is_within (controls_in bytes) (reply_controls r) ≡ true
damaged-within within reply.Silence bytes came back = within reply.Silence bytes back.shows
damaged-within within reply.Start bytes came back = within reply.Start bytes back.shows
damaged-within within reply.Ack bytes came back = within reply.Ack bytes back.shows
damaged-within within reply.AckStart bytes came back = within reply.AckStart bytes back.shows
damaged-within within reply.Nak bytes came back = within reply.Nak bytes back.shows
damaged-within within reply.Cancel bytes came back = within reply.Cancel bytes back.shows

pub reads-ack : Within → (delivery : Delivery) (r : Reply) (came : List ℕ) → ArrivesBack delivery r came → ReadsAck came → IsAck r
reads-ack within Whole r came back has = of-bytes r (subst HasAck back.heard_is has)
reads-ack within Lost r came back has = absurd (subst HasAck back.heard_is has)
reads-ack within (Damaged bytes) r came back has = of-reply r (within-ack (controls_in bytes) (reply_controls r) (damaged-within within r bytes came back) (subst HasAck back.heard_is has))

-- ---- CAN is read of CAN CAN alone

more-can : (c : Control) (more : List Control) → HasCan more → HasCan (c ∷ more)
more-can Can more has = tt
more-can _ more has = has

within-can : (came said : List Control) → is_within came said ≡ true → HasCan came → HasCan said
within-can [] said is has = absurd has
within-can (c ∷ came) [] is has = absurd (cc)
within-can (Can ∷ came) (Can ∷ said) is has = tt
within-can (Can ∷ came) (r ∷ said) is has = within-can (Can ∷ came) said is has
within-can (c ∷ came) (r ∷ said) is has =
    elim (pick (same_control c r) _ _ is) [ inl x ↦ more-can r said (within-can came said x has) | inr y ↦ more-can r said (within-can (c ∷ came) said y has) ]

cancel-of : (r : Reply) → HasCan (reply_controls r) → r ≡ reply.Cancel
cancel-of reply.Cancel has = refl
cancel-of _ has = absurd has

cancel-bytes : (r : Reply) → HasCan (controls_in (reply_bytes r)) → r ≡ reply.Cancel
cancel-bytes reply.Cancel has = refl
cancel-bytes _ has = absurd has

pub reads-can : Within → (delivery : Delivery) (r : Reply) (came : List ℕ) → ArrivesBack delivery r came → ReadsCan came → r ≡ reply.Cancel
reads-can within Whole r came back has = cancel-bytes r (subst HasCan back.heard_is has)
reads-can within Lost r came back has = absurd (subst HasCan back.heard_is has)
reads-can within (Damaged bytes) r came back has = cancel-of r (within-can (controls_in bytes) (reply_controls r) (damaged-within within r bytes came back) (subst HasCan back.heard_is has))
