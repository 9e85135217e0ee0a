use Rattle.std.proofs.Common.{◌≡◌, ◌≢◌, ℕ, List, [], ◌∷◌, inl, inr, refl, sym, arith}
use Rattle.ym_frame.specs.Control.{reply_bytes}
use Rattle.ym_frame.specs.declared.control.Reply.{Reply}
use Rattle.ym_frame.specs.declared.control.Reply.TheVariants.{Ack, AckStart, Cancel, Nak, Start}
use Rattle.ym_frame.specs.declared.frame.Item.{Item}
use Rattle.ym_core.specs.Scan.{controls_in}
use Rattle.ym_core.specs.declared.delivery.Heard.TheVariants as heard
use Rattle.ym_line.specs.declared.delivery.Delivery.TheVariants.{Whole}
use Rattle.ym_pair.specs.Logs.{Answered}
use Rattle.ym_pair.specs.Pairing.{up_to_start}
use Rattle.ym_pair.specs.PairingExamples.{Blocks, Framed}
use Rattle.ym_delay.specs.Cleared.{AnswersAlike, LetsClear, SaysAgain}
use Rattle.ym_delay.specs.TimedExamples.{ack, ack_start, clear_last, clear_line, clear_receiver, clear_sender, replied, said}
use Rattle.ym_delay.specs.TimedLine.{AnsweredAt, AnswersInTime, BringsBack, BringsThere, HandsBack, HandsThere, IsFresh, IsTimed, SpeaksInTime, answers_of, spoken, written}
use Rattle.ym_delay.proofs.Ahead.{Brought, frame-heard, some-bytes}
use Rattle.ym_delay.proofs.laws.a_cleared_session_pairs_up.Goals as goal

brings : Brought → (one : Framed) (at from by then : ℕ) (reply : Reply) → IsFresh clear_line at by → BringsThere clear_line (record { bytes = one.bytes; at = at }) (replied from by (heard.Item one.item) then reply)
brings brought one at from by then reply fresh = record { some = some-bytes brought one; fresh = fresh; delivery = Whole; arrives = frame-heard brought one }

reply-back : (one : AnsweredAt) (wrote : List ℕ) (at : ℕ) (came : List ℕ) (by : ℕ) → IsFresh clear_line one.at by → up_to_start (controls_in came) ≡ controls_in (reply_bytes one.answered.wrote) →
    BringsBack clear_line one (said wrote at came by)
reply-back one wrote at came by fresh same = record { fresh = fresh; delivery = Whole; arrives = record { shows = tt; short = tt; heard_is = same } }

module _ (blocks : Blocks) where
  speaks : SpeaksInTime clear_line 0 (clear_sender blocks) (clear_last blocks)
  speaks = (omega arith, omega arith, omega arith, (omega arith, omega arith, omega arith, (omega arith, omega arith, omega arith, (omega arith, omega arith, omega arith, (omega arith, omega arith, omega arith, omega arith)))))

  answers : AnswersInTime clear_line 0 (clear_receiver blocks)
  answers = (omega arith, omega arith, omega arith, omega arith, (omega arith, omega arith, omega arith, omega arith, (omega arith, omega arith, omega arith, omega arith, (omega arith, omega arith, omega arith, omega arith, (omega arith, omega arith, omega arith, omega arith, (omega arith, omega arith, omega arith, omega arith, (omega arith, omega arith, omega arith, omega arith, tt)))))))

  there : Brought → HandsThere clear_line (written (clear_sender blocks) (clear_last blocks)) (clear_receiver blocks)
  there brought = inl (record { nothing = refl; waited = omega arith }, inl (record { nothing = refl; waited = omega arith }, inr (_, _, inr (inl (refl, refl)), brings brought blocks.zero _ _ _ _ AckStart (record { later = omega arith; young = omega arith }), inr (_, _, inl (refl, refl), brings brought blocks.zero _ _ _ _ AckStart (record { later = omega arith; young = omega arith }), inl (record { nothing = refl; waited = omega arith }, inr (_, _, inl (refl, refl), brings brought blocks.one _ _ _ _ Ack (record { later = omega arith; young = omega arith }), inr (_, _, inl (refl, refl), brings brought blocks.one _ _ _ _ Ack (record { later = omega arith; young = omega arith }), tt)))))))

  back : HandsBack clear_line (clear_receiver blocks) (clear_sender blocks)
  back = inr (_, _, inl (refl, refl), reply-back _ [] _ (0x43 ∷ []) _ (record { later = omega arith; young = omega arith }) refl, inr (_, _, inl (refl, refl), reply-back _ blocks.zero.bytes _ (0x43 ∷ []) _ (record { later = omega arith; young = omega arith }) refl, inr (_, _, inl (refl, refl), reply-back _ blocks.zero.bytes _ ack_start _ (record { later = omega arith; young = omega arith }) refl, inr (_, _, inr (inl (refl, refl)), reply-back _ blocks.one.bytes _ (0x15 ∷ []) _ (record { later = omega arith; young = omega arith }) refl, inr (_, _, inl (refl, refl), reply-back _ blocks.one.bytes _ ack _ (record { later = omega arith; young = omega arith }) refl, tt)))))

  timed : Brought → IsTimed clear_line 0 0 (clear_sender blocks) (clear_last blocks) (clear_receiver blocks)
  timed brought = record { speaks = speaks; answers = answers; there = there brought; back = back }

  clears : LetsClear clear_line (clear_sender blocks) (clear_receiver blocks)
  clears = inl (inl (λ same. inl (omega arith), inr (refl, inl (inr (inl (omega arith)), inr (refl, tt)))))

  again : SaysAgain (spoken (clear_sender blocks)) blocks.two.bytes
  again = (inr (inr refl), (inl refl, (inr (inl tt), (inl refl, inr (inl tt)))))

same-item : (a b : Item) → heard.Item a ≡ heard.Item b → a ≡ b
same-item a b same = cc

not-bad : (a : Item) → heard.Item a ≡ heard.Bad → ⊥
not-bad a bad = cc

-- what it says is not CAN CAN
never-off : (says : Reply) (rest : List Answered) → (says ≡ Cancel → ⊥) → says ≡ Cancel → rest ≡ []
never-off says rest none off = absurd (none off)

alike : (blocks : Blocks) → blocks.zero.item ≢ blocks.one.item → AnswersAlike (answers_of (clear_receiver blocks))
alike blocks differ =
    let other : heard.Item blocks.one.item ≡ heard.Item blocks.zero.item → ⊥ = λ same. differ (same-item blocks.zero.item blocks.one.item (sym same)) in (
      λ ack. absurd ack,
      λ off. never-off Start _ (λ same. cc) off,
      (
        λ ack. absurd ack,
        λ off. never-off Start _ (λ same. cc) off,
        (
          λ ack. (
            not-bad blocks.zero.item,
            (
              λ bad. absurd (not-bad blocks.zero.item bad),
              λ same. (refl, (λ bad. (λ worse. absurd (not-bad blocks.one.item worse), λ same. absurd (other same)), λ same. absurd (not-bad blocks.zero.item (sym same)))),
            ),
          ),
          λ off. never-off AckStart _ (λ same. cc) off,
          (
            λ ack. (not-bad blocks.zero.item, (λ bad. (λ worse. absurd (not-bad blocks.one.item worse), λ same. absurd (other same)), λ same. absurd (not-bad blocks.zero.item (sym same)))),
            λ off. never-off AckStart _ (λ same. cc) off,
            (
              λ ack. absurd ack,
              λ off. never-off Nak _ (λ same. cc) off,
              (
                λ ack. (not-bad blocks.one.item, (λ bad. absurd (not-bad blocks.one.item bad), λ same. (refl, tt))),
                λ off. never-off Ack _ (λ same. cc) off,
                (λ ack. (not-bad blocks.one.item, tt), λ off. never-off Ack _ (λ same. cc) off, tt),
              ),
            ),
          ),
        ),
      ),
    )

pub returns-clause-timed : goal.returns-clause-timed
returns-clause-timed c blocks = timed blocks c.a_delivery_brings_its_frame.ensures.brought

pub returns-clause-clears : goal.returns-clause-clears
returns-clause-clears c blocks = clears blocks

pub returns-clause-pairs : goal.returns-clause-pairs
returns-clause-pairs c blocks differ =
    c.cleared_deliveries_pair_up.ensures clear_line 0 0 (clear_sender blocks) (clear_last blocks) (clear_receiver blocks) (timed blocks c.a_delivery_brings_its_frame.ensures.brought) (again blocks) (alike blocks differ) (clears blocks)
