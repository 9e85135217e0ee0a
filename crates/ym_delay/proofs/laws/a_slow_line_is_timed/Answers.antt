use Rattle.std.proofs.Common.{◌≡◌, ◌+◌, ◌*◌, ℕ, List, [], ◌∷◌, inl, inr, refl, arith}
unfoldable use Rattle.ym_frame.specs.Frame.{verdict_of}
use Rattle.ym_frame.specs.Control.{reply_bytes}
use Rattle.ym_frame.specs.declared.control.Reply.{Reply}
use Rattle.ym_frame.specs.declared.control.Reply.TheVariants.{Ack, AckStart, Nak}
use Rattle.ym_core.specs.Scan.{controls_in}
use Rattle.ym_core.specs.declared.delivery.Heard.TheVariants as heard
use Rattle.ym_line.specs.declared.delivery.Delivery.TheVariants.{Whole}
use Rattle.ym_pair.specs.Pairing.{up_to_start}
use Rattle.ym_pair.specs.PairingExamples.{Blocks, Framed, ending, eot}
use Rattle.ym_delay.specs.TimedExamples.{ack, ack_start, said, slow_last, slow_line, slow_receiver, slow_sender, turn_replied}
use Rattle.ym_delay.specs.TimedLine.{AnsweredAt, AnswersInTime, BringsBack, BringsThere, HandsBack, HandsThere, HearsEachTime, IsFresh, SpeaksInTime, written}
use Rattle.ym_delay.proofs.Ahead.{Brought, frame-heard, some-bytes}
use Rattle.ym_delay.proofs.laws.a_slow_line_is_timed.Goals as goal

fresh : (turn : ℕ) → IsFresh slow_line (1500 + 3000 * turn) (2900 + 3000 * turn)
fresh turn = record { later = omega arith; young = omega arith }

frame-there : Brought → (one : Framed) (turn : ℕ) (reply : Reply) → BringsThere slow_line (record { bytes = one.bytes; at = 1500 + 3000 * turn }) (turn_replied turn (heard.Item one.item) reply)
frame-there brought one turn reply = record { some = some-bytes brought one; fresh = fresh turn; delivery = Whole; arrives = frame-heard brought one }

eot-there : (turn : ℕ) (reply : Reply) → BringsThere slow_line (record { bytes = eot; at = 1500 + 3000 * turn }) (turn_replied turn ending reply)
unfolding verdict_of
eot-there turn reply = record { some = λ none. cc; fresh = fresh turn; delivery = Whole; arrives = record { bytes = tt; shows = tt; short = tt; heard_is = refl } }

reply-back : (one : AnsweredAt) (wrote : List ℕ) (at : ℕ) (came : List ℕ) (by : ℕ) → IsFresh slow_line one.at by → up_to_start (controls_in came) ≡ controls_in (reply_bytes one.answered.wrote) →
    BringsBack slow_line one (said wrote at came by)
reply-back one wrote at came by fresh same = record { fresh = fresh; delivery = Whole; arrives = record { shows = tt; short = tt; heard_is = same } }

came-some : {A : Type 0} {byte : ℕ} {more : List ℕ} → byte ∷ more ≡ [] → A
came-some none = absurd (cc)

module _ (blocks : Blocks) where
  speaks : SpeaksInTime slow_line 0 (slow_sender blocks) slow_last
  speaks = (omega arith, omega arith, omega arith, (omega arith, omega arith, omega arith, (omega arith, omega arith, omega arith, (omega arith, omega arith, omega arith, (omega arith, omega arith, omega arith, (omega arith, omega arith, omega arith, (omega arith, omega arith, omega arith, (omega arith, omega arith, omega arith, omega arith))))))))

  answers : AnswersInTime slow_line 0 (slow_receiver blocks)
  answers = (omega arith, omega arith, omega arith, omega arith, (omega arith, omega arith, omega arith, omega arith, (omega arith, omega arith, omega arith, omega arith, (omega arith, omega arith, omega arith, omega arith, (omega arith, omega arith, omega arith, omega arith, (omega arith, omega arith, omega arith, omega arith, (omega arith, omega arith, omega arith, omega arith, (omega arith, omega arith, omega arith, omega arith, tt))))))))

  there : Brought → HandsThere slow_line (written (slow_sender blocks) slow_last) (slow_receiver blocks)
  there brought = inl (record { nothing = refl; waited = omega arith }, inr (_, _, inr (inl (refl, refl)), frame-there brought blocks.zero 1 AckStart, inr (_, _, inl (refl, refl), frame-there brought blocks.one 2 Ack, inr (_, _, inl (refl, refl), frame-there brought blocks.two 3 Ack, inr (_, _, inl (refl, refl), frame-there brought blocks.three 4 Ack, inr (_, _, inl (refl, refl), eot-there 5 Nak, inr (_, _, inl (refl, refl), eot-there 6 AckStart, inr (_, _, inl (refl, refl), frame-there brought blocks.end 7 Ack, tt))))))))

  back : HandsBack slow_line (slow_receiver blocks) (slow_sender blocks)
  back = inr (_, _, inl (refl, refl), reply-back _ [] _ (0x43 ∷ []) _ (record { later = omega arith; young = omega arith }) refl, inr (_, _, inl (refl, refl), reply-back _ blocks.zero.bytes _ ack_start _ (record { later = omega arith; young = omega arith }) refl, inr (_, _, inl (refl, refl), reply-back _ blocks.one.bytes _ ack _ (record { later = omega arith; young = omega arith }) refl, inr (_, _, inl (refl, refl), reply-back _ blocks.two.bytes _ ack _ (record { later = omega arith; young = omega arith }) refl, inr (_, _, inl (refl, refl), reply-back _ blocks.three.bytes _ ack _ (record { later = omega arith; young = omega arith }) refl, inr (_, _, inl (refl, refl), reply-back _ eot _ (0x15 ∷ []) _ (record { later = omega arith; young = omega arith }) refl, inr (_, _, inl (refl, refl), reply-back _ eot _ ack_start _ (record { later = omega arith; young = omega arith }) refl, inr (_, _, inl (refl, refl), reply-back _ blocks.end.bytes _ ack _ (record { later = omega arith; young = omega arith }) refl, tt))))))))

  hears : HearsEachTime (slow_sender blocks)
  hears = (came-some, (came-some, (came-some, (came-some, (came-some, (came-some, (came-some, (came-some, tt))))))))

pub returns-clause-prompt : goal.returns-clause-prompt
returns-clause-prompt c = record { sender = omega arith; receiver = omega arith }

pub returns-clause-timed : goal.returns-clause-timed
returns-clause-timed c blocks = (
  refl,
  record { speaks = speaks blocks; answers = answers blocks; there = there blocks c.a_delivery_brings_its_frame.ensures.brought; back = back blocks },
  hears blocks,
)

pub returns-clause-whole : goal.returns-clause-whole
returns-clause-whole c blocks = refl
