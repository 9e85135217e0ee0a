-- What is heard of a delivery, and what comes back of a reply, by the machine.
use Rattle.std.proofs.Common.{◌≡◌, ◌∙◌, inl, inr, is_some, if◌then◌else◌, append-nil, unwrap_or, ℕ, Bool, true, List, [], ◌∷◌, ◌++◌, length, map, Option, None, Some, Ok, refl, sym, ap, arith}
use Rattle.std.specs.List.{cons_option}
use Rattle.std.proofs.lemmas.Bool.Decides.{nat_tests}
use Rattle.ym_line.proofs.Names.{reply_bytes, Reply, Control, frames_of, came_back, controls_in, Batch, IsSaid, SendState, SenderParts, IsSender, spoken, Delivery, Whole, arrives, ShowsBack, sent_by, is_whole, came_of, what_of}
use Rattle.ym_frame.specs.Control.{control_at, controls, IsSubsequence}
use Rattle.ym_frame.specs.Frame.{IsFrame, verdict_of}
use Rattle.ym_frame.specs.declared.control.Reply.TheVariants as reply
use Rattle.ym_frame.specs.declared.frame.Item.{Item}
use Rattle.ym_frame.specs.declared.frame.Item.TheVariants as item
use Rattle.ym_machine.specs.Frames.{frame_at}
use Rattle.ym_machine.specs.Steps as machine
use Rattle.ym_machine.specs.Machine.{Speech, Nothing, FrameAt, CanCan}
use Rattle.ym_core.specs.Hearing.{heard_of, heard_at}
use Rattle.ym_core.specs.declared.delivery.Heard.TheVariants as heard
use Rattle.ym_link.specs.ReceiverRefines as receiver
use Rattle.ym_core.specs.declared.position.Mode.{Mode}
use Rattle.ym_core.specs.declared.position.Mode.TheVariants.{Sent}
use Rattle.ym_core.specs.declared.state.SendState.TheVariants as sender
use Rattle.ym_link.specs.Sender.{spoken_in}
use Rattle.ym_line.specs.declared.delivery.Delivery.TheVariants.{Lost, Damaged}
use Rattle.ym_line.specs.Damage.{IsHeardBad}
use Rattle.ym_line.specs.What.{what_heard, what_is}

-- ---- What comes back

-- the controls of a whole reply are the reply's
whole-controls : (r : Reply) → controls_in (reply_bytes r) ≡ machine.controls r
whole-controls reply.Silence = refl
whole-controls _ = refl

pub controls-arrive : (delivery : Delivery) (r : Reply) → controls_in (arrives delivery (reply_bytes r)) ≡ came_back (came_of delivery) r
controls-arrive Whole r = whole-controls r
controls-arrive Lost r = refl
controls-arrive (Damaged bytes) r = refl

-- a reply has control bytes alone
reply-controls : (r : Reply) → controls (reply_bytes r) ≡ reply_bytes r
reply-controls reply.Silence = refl
reply-controls _ = refl

-- the byte of the control that a byte is
byte-of : (byte : ℕ) (found : Control) → control_at byte ≡ Some found → machine.control_byte found ≡ byte
byte-of byte found is = grind (arith, nat_tests, is)

with-control : (byte : ℕ) (found : Option Control) (rest : List Control) (others : List ℕ) → control_at byte ≡ found → map machine.control_byte rest ≡ others →
    map machine.control_byte (cons_option found rest) ≡ (if is_some found then byte ∷ others else others)
with-control byte None rest others is same = same
with-control byte (Some control) rest others is same = rw (byte-of byte control is, same) refl

-- the control bytes are those of the controls
control-bytes : (bytes : List ℕ) → map machine.control_byte (controls_in bytes) ≡ controls bytes
control-bytes [] = refl
control-bytes (byte ∷ bytes) = with-control byte (control_at byte) (controls_in bytes) (controls bytes) refl (control-bytes bytes)

-- ---- What is heard

-- a frame is found, whatever follows it
abbrev pub FrameFound : Type 0
FrameFound = (i : Item) (frame more : List ℕ) → IsFrame i frame → verdict_of (frame ++ more) ≡ Ok (i, length frame)

frame-heard : FrameFound → (i : Item) (frame : List ℕ) → IsFrame i frame → heard_of frame ≡ heard.Item i
frame-heard found i frame is =
    let e : verdict_of frame ≡ Ok (i, length frame) = simp append-nil at (found i frame [] is) in
    ap heard_at e

what-frame : (i : Item) (frame : List ℕ) → IsFrame i frame → what_of frame ≡ what_is i
what-frame (item.Block block) frame is = elim is [ inl short ↦ rw (short.1, short.0) refl | inr long ↦ rw (long.1, long.0) refl ]
what-frame _ frame is = rw is refl

-- what a sender has to send, by its first bytes
words-shown : FrameFound → (state : SendState) (mode : Mode) (cancel_pending : Bool) (frame : List ℕ) → (state ≡ sender.Running → mode ≡ Sent → (i : Item) × IsFrame i frame) →
    what_of (unwrap_or (spoken_in state mode cancel_pending frame) []) ≡ what_heard (heard_of (unwrap_or (spoken_in state mode cancel_pending frame) []))
unfolding verdict_of
words-shown found sender.Running Sent cancel_pending frame holds =
    let held = holds refl refl in
    what-frame held.0 frame held.1 ∙ sym (ap what_heard (frame-heard found held.0 frame held.1))
words-shown found sender.NoReply mode true frame holds = refl
words-shown found sender.SourceFailed mode true frame holds = refl
words-shown found _ _ _ frame holds = refl

pub sent-shown : FrameFound → (s : SenderParts) → IsSender s → what_of (sent_by s) ≡ what_heard (heard_of (sent_by s))
sent-shown found s is = words-shown found s.standing.state s.standing.mode s.standing.cancel_pending s.frame (λ runs sent. let held = is.frame runs sent in (held.item, held.frame))

-- what is heard of what the sender said
pub said-heard : FrameFound → (files : Batch) (speech : Speech) (sender : SenderParts) (delivery : Delivery) → IsSaid files speech (spoken sender) → IsHeardBad delivery →
    heard_of (arrives delivery (sent_by sender)) ≡ receiver.heard_as (frames_of files) (machine.heard (is_whole delivery) speech)
unfolding verdict_of
said-heard found files speech sender Lost says bad = refl
said-heard found files speech sender (Damaged bytes) says bad = bad
said-heard found files Nothing sender Whole says bad = rw says refl
said-heard found files (FrameAt i) sender Whole says bad = rw says.1 (frame-heard found (receiver.item_of (frame_at (frames_of files) i)) says.0 says.2)
said-heard found files CanCan sender Whole says bad = rw says refl

-- ---- What comes back, within the reply

-- control bytes within the reply's bytes are controls within its controls
abbrev pub WithinReply : Type 0
WithinReply = (r : Reply) (came : List Control) → IsSubsequence (map machine.control_byte came) (reply_bytes r) → machine.is_within came (machine.controls r) ≡ true

pub came-within : WithinReply → ((r : Reply) → machine.is_within (machine.controls r) (machine.controls r) ≡ true) → (delivery : Delivery) (r : Reply) → ShowsBack r delivery →
    machine.is_within (came_back (came_of delivery) r) (machine.controls r) ≡ true
came-within within whole Whole r shows = whole r
came-within within whole Lost r shows = refl
came-within within whole (Damaged bytes) r shows =
    within r (controls_in bytes) (rw (control-bytes bytes, ← reply-controls r) shows)

pub none-within : (came : List Control) → machine.is_within came [] ≡ true → came ≡ []
none-within [] within = refl
none-within (c ∷ came) within = absurd (cc)
