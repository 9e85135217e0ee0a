use Rattle.std.proofs.Common.{◌≡◌, ℕ, List, [], ◌∷◌, inl, inr, refl, arith}
unfoldable use Rattle.ym_frame.specs.Frame.{verdict_of}
use Rattle.ym_frame.specs.Control.{reply_bytes}
use Rattle.ym_frame.specs.declared.control.Reply.{Reply}
use Rattle.ym_frame.specs.declared.control.Reply.TheVariants.{Ack, AckStart, Nak}
use Rattle.ym_core.specs.Scan.{controls_in}
use Rattle.ym_core.specs.declared.delivery.Heard.TheVariants as heard
use Rattle.ym_line.specs.declared.delivery.Delivery.TheVariants.{Whole}
use Rattle.ym_pair.specs.Pairing.{up_to_start}
use Rattle.ym_pair.specs.PairingExamples.{Framed, ending, eot}
use Rattle.ym_delay.specs.FalseReport.{SmallBatch, data_block, hasty_last, hasty_receiver, hasty_sender, zero_of}
use Rattle.ym_delay.specs.TimedExamples.{ack, ack_start, clear_line, replied, said}
use Rattle.ym_delay.specs.TimedLine.{AnsweredAt, AnswersInTime, BringsBack, BringsThere, HandsBack, HandsThere, IsFresh, SpeaksInTime, written}
use Rattle.ym_delay.proofs.Ahead.{Brought, frame-heard, some-bytes}
use Rattle.ym_delay.proofs.laws.report.a_millisecond_too_soon_loses_a_file.Goals as goal

abbrev zero : SmallBatch → Framed
zero batch = record { item = zero_of batch.body; bytes = batch.zero; is = batch.zero_is }

abbrev one : SmallBatch → Framed
one batch = record { item = data_block; bytes = batch.one; is = batch.one_is }

zero-there : Brought → (batch : SmallBatch) (at from by then : ℕ) (reply : Reply) → IsFresh clear_line at by →
    BringsThere clear_line (record { bytes = batch.zero; at = at }) (replied from by (heard.Item (zero_of batch.body)) then reply)
zero-there brought batch at from by then reply fresh = record { some = some-bytes brought (zero batch); fresh = fresh; delivery = Whole; arrives = frame-heard brought (zero batch) }

one-there : Brought → (batch : SmallBatch) (at from by then : ℕ) (reply : Reply) → IsFresh clear_line at by →
    BringsThere clear_line (record { bytes = batch.one; at = at }) (replied from by (heard.Item data_block) then reply)
one-there brought batch at from by then reply fresh = record { some = some-bytes brought (one batch); fresh = fresh; delivery = Whole; arrives = frame-heard brought (one batch) }

eot-there : (at from by then : ℕ) (reply : Reply) → IsFresh clear_line at by → BringsThere clear_line (record { bytes = eot; at = at }) (replied from by ending then reply)
unfolding verdict_of
eot-there at from by then reply fresh = record { some = λ none. cc; fresh = fresh; delivery = Whole; arrives = record { bytes = tt; shows = tt; short = tt; heard_is = refl } }

reply-back : (answer : AnsweredAt) (wrote : List ℕ) (at : ℕ) (came : List ℕ) (by : ℕ) → IsFresh clear_line answer.at by → up_to_start (controls_in came) ≡ controls_in (reply_bytes answer.answered.wrote) →
    BringsBack clear_line answer (said wrote at came by)
reply-back answer wrote at came by fresh same = record { fresh = fresh; delivery = Whole; arrives = record { shows = tt; short = tt; heard_is = same } }

module _ (batch : SmallBatch) where
  speaks : SpeaksInTime clear_line 0 (hasty_sender batch) hasty_last
  speaks = (omega arith, omega arith, omega arith, (omega arith, omega arith, omega arith, (omega arith, omega arith, omega arith, (omega arith, omega arith, omega arith, (omega arith, omega arith, omega arith, (omega arith, omega arith, omega arith, omega arith))))))

  answers : AnswersInTime clear_line 0 (hasty_receiver batch)
  answers = (omega arith, omega arith, omega arith, omega arith, (omega arith, omega arith, omega arith, omega arith, (omega arith, omega arith, omega arith, omega arith, (omega arith, omega arith, omega arith, omega arith, (omega arith, omega arith, omega arith, omega arith, (omega arith, omega arith, omega arith, omega arith, tt))))))

  there : Brought → HandsThere clear_line (written (hasty_sender batch) hasty_last) (hasty_receiver batch)
  there brought = inl (record { nothing = refl; waited = omega arith }, inl (record { nothing = refl; waited = omega arith }, inr (_, _, inr (inl (refl, refl)), zero-there brought batch _ _ _ _ AckStart (record { later = omega arith; young = omega arith }), inr (_, _, inl (refl, refl), zero-there brought batch _ _ _ _ AckStart (record { later = omega arith; young = omega arith }), inr (_, _, inl (refl, refl), one-there brought batch _ _ _ _ Ack (record { later = omega arith; young = omega arith }), inr (_, _, inl (refl, refl), eot-there _ _ _ _ Nak (record { later = omega arith; young = omega arith }), tt))))))

  back : HandsBack clear_line (hasty_receiver batch) (hasty_sender batch)
  back = inr (_, _, inl (refl, refl), reply-back _ [] _ (0x43 ∷ []) _ (record { later = omega arith; young = omega arith }) refl, inr (_, _, inl (refl, refl), reply-back _ batch.zero _ (0x43 ∷ []) _ (record { later = omega arith; young = omega arith }) refl, inr (_, _, inl (refl, refl), reply-back _ batch.zero _ ack_start _ (record { later = omega arith; young = omega arith }) refl, inr (_, _, inl (refl, refl), reply-back _ batch.one _ ack_start _ (record { later = omega arith; young = omega arith }) refl, inr (_, _, inl (refl, refl), reply-back _ eot _ ack _ (record { later = omega arith; young = omega arith }) refl, inr (_, _, inl (refl, refl), reply-back _ [] _ (0x15 ∷ []) _ (record { later = omega arith; young = omega arith }) refl, tt))))))

-- the data block is no EOT
no-eot : Brought → (batch : SmallBatch) → eot ≡ batch.one → ⊥
unfolding verdict_of
no-eot brought batch same = let is = rw (← same) at (brought data_block batch.one [] batch.one_is) in absurd (cc)

pub returns-clause-timed : goal.returns-clause-timed
returns-clause-timed c batch = record { speaks = speaks batch; answers = answers batch; there = there batch c.a_delivery_brings_its_frame.ensures.brought; back = back batch }

pub returns-clause-clears : goal.returns-clause-clears
returns-clause-clears c batch =
    inl (inl (λ same. inl (omega arith), inr (refl, inl (inr (inl (omega arith)), inl (λ same. absurd (no-eot c.a_delivery_brings_its_frame.ensures.brought batch same), inl (λ same. absurd (cc), tt))))))

pub returns-clause-says : goal.returns-clause-says
returns-clause-says c batch = refl

pub returns-clause-answers : goal.returns-clause-answers
returns-clause-answers c batch = refl

pub returns-clause-reports : goal.returns-clause-reports
returns-clause-reports c = refl

pub returns-clause-none : goal.returns-clause-none
returns-clause-none c batch = refl
