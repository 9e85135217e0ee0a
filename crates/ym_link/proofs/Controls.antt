-- The controls of a delivery and its control bytes.
use Rattle.std.proofs.Common.{ℕ, ◌≡◌, List, [], ◌∷◌, refl, sym, ap, ◌∙◌, map, cond, ◌==◌, Option, None, Some}
use Rattle.std.specs.Prelude.{is_some}
use Rattle.std.specs.List.{cons_option}
use Rattle.std.proofs.lemmas.Bool.{cond_both, eqb-true}
use Rattle.ym_link.proofs.Names.{control_at, reply_bytes, Control, Ack, Start, Can, Reply, controls_in}
use Rattle.ym_frame.specs.Control.{controls}
use Rattle.ym_frame.specs.declared.control.Control.TheVariants.{Nak}
use Rattle.ym_frame.specs.declared.control.Reply.TheVariants as reply
use Rattle.ym_machine.specs.Steps.{control_byte, controls as reply_controls}

-- a control and the byte that it is
abbrev IsByteOf : ℕ → Option Control → Type 0
IsByteOf byte None = Unit {0}
IsByteOf byte (Some control) = control_byte control ≡ byte

by_test : (byte key : ℕ) (c : Control) (o : Option Control) → control_byte c ≡ key → IsByteOf byte o → IsByteOf byte (cond (byte == key) (Some c) o)
by_test byte key c o is rest = cond_both (byte == key) (Some c) o (IsByteOf byte) (λ e. is ∙ sym (eqb-true byte key e)) (λ _. rest)

byte_of : (byte : ℕ) → IsByteOf byte (control_at byte)
byte_of byte = by_test byte 0x06 Ack _ refl (by_test byte 0x15 Nak _ refl (by_test byte 0x43 Start _ refl (by_test byte 0x18 Can None refl tt)))

pub control_bytes : (bytes : List ℕ) → map control_byte (controls_in bytes) ≡ controls bytes
control_bytes [] = refl
control_bytes (byte ∷ more) = by (control_at byte) (byte_of byte) (control_bytes more)
  where
    by : (o : Option Control) → IsByteOf byte o → map control_byte (controls_in more) ≡ controls more
        → map control_byte (cons_option o (controls_in more)) ≡ cond (is_some o) (byte ∷ controls more) (controls more)
    by None is rest = rest
    by (Some c) is rest = ap (λ b. b ∷ map control_byte (controls_in more)) is ∙ ap (λ bs. byte ∷ bs) rest

pub reply_is_whole : (r : Reply) → controls_in (reply_bytes r) ≡ reply_controls r
reply_is_whole reply.Silence = refl
reply_is_whole _ = refl
