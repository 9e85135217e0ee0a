use Rattle.std.proofs.Common.{◌≡◌, ◌+◌, ◌<◌, ◌≤◌, ℕ, List, [], ◌∷◌, inl, inr, refl, arith}
unfoldable use Rattle.ym_frame.specs.Frame.{verdict_of}
use Rattle.ym_frame.specs.Control.{reply_bytes}
use Rattle.ym_frame.specs.declared.control.Reply.{Reply}
use Rattle.ym_frame.specs.declared.control.Reply.TheVariants.{AckStart}
use Rattle.ym_core.specs.Scan.{controls_in}
use Rattle.ym_core.specs.declared.delivery.Heard.TheVariants as heard
use Rattle.ym_line.specs.declared.delivery.Delivery.TheVariants.{Whole}
use Rattle.ym_pair.specs.Pairing.{up_to_start}
use Rattle.ym_pair.specs.PairingExamples.{Blocks, Framed}
use Rattle.ym_delay.specs.TimedExamples.{ahead_last, ahead_receiver, ahead_sender, line_of, replied, said}
use Rattle.ym_delay.specs.TimedLine.{AnsweredAt, AnswersInTime, BringsBack, BringsThere, HandsBack, HandsThere, IsFresh, HearsEachTime, SpeaksInTime, answers_of, written}
use Rattle.ym_delay.proofs.Ahead.{Brought, frame-heard, is-answered, never, some-bytes}
use Rattle.ym_delay.proofs.laws.deliveries_beyond_do_not_pair_up.Goals as goal

module _ (oldest : ℕ) (blocks : Blocks) (slow : 1450 ≤ oldest) where
  speaks : SpeaksInTime (line_of oldest) 0 (ahead_sender blocks) (ahead_last blocks)
  speaks = (omega arith, omega arith, omega arith, (omega arith, omega arith, omega arith, (omega arith, omega arith, omega arith, (omega arith, omega arith, omega arith, omega arith))))

  answers : AnswersInTime (line_of oldest) 0 (ahead_receiver blocks)
  answers = (
    omega arith,
    omega arith,
    omega arith,
    omega arith,
    (
      omega arith,
      omega arith,
      omega arith,
      omega arith,
      (omega arith, omega arith, omega arith, omega arith, (omega arith, omega arith, omega arith, omega arith, tt)),
    ),
  )

  fresh : (at by : ℕ) → at < by → by ≤ at + 1450 → IsFresh (line_of oldest) at by
  fresh at by later young = record { later = later; young = omega (arith, young, slow) }

  -- a frame is heard as its item
  brings : Brought → (one : Framed) → (one.bytes ≡ [] → ⊥) → (at from by then : ℕ) (reply : Reply) → IsFresh (line_of oldest) at by →
      BringsThere (line_of oldest) (record { bytes = one.bytes; at = at }) (replied from by (heard.Item one.item) then reply)
  brings brought one some at from by then reply fresh =
      record { some = some; fresh = fresh; delivery = Whole; arrives = frame-heard brought one }

  reply-back : (one : AnsweredAt) (wrote : List ℕ) (at : ℕ) (came : List ℕ) (by : ℕ) → IsFresh (line_of oldest) one.at by → up_to_start (controls_in came) ≡ controls_in (reply_bytes one.answered.wrote) →
      BringsBack (line_of oldest) one (said wrote at came by)
  reply-back one wrote at came by fresh same = record { fresh = fresh; delivery = Whole; arrives = record { shows = tt; short = tt; heard_is = same } }

  back : HandsBack (line_of oldest) (ahead_receiver blocks) (ahead_sender blocks)
  back =
      inr (
        _,
        _,
        inl (refl, refl),
        reply-back _ [] 0 (0x43 ∷ []) 4450 (fresh 3000 4450 (omega arith) (omega arith)) refl,
        inr (
          _,
          _,
          inl (refl, refl),
          reply-back _ blocks.zero.bytes 4550 (0x43 ∷ []) 7440 (fresh 6000 7440 (omega arith) (omega arith)) refl,
          inr (
            _,
            _,
            inl (refl, refl),
            reply-back _ blocks.zero.bytes 7440 (6 ∷ 0x43 ∷ []) 7450 (fresh 6000 7450 (omega arith) (omega arith)) refl,
            inr (_, _, inl (refl, refl), reply-back _ blocks.one.bytes 7500 (6 ∷ 0x43 ∷ []) 9000 (fresh 8000 9000 (omega arith) (omega arith)) refl, tt),
          ),
        ),
      )

  there : Brought → HandsThere (line_of oldest) (written (ahead_sender blocks) (ahead_last blocks)) (ahead_receiver blocks)
  there brought =
      let zero = brings brought blocks.zero (some-bytes brought blocks.zero) in
      inl (
        record { nothing = refl; waited = omega arith },
        inl (
          record { nothing = refl; waited = omega arith },
          inr (
            _,
            _,
            inr (inl (refl, refl)),
            zero 4550 6000 6000 6000 AckStart (fresh 4550 6000 (omega arith) (omega arith)),
            inr (_, _, inl (refl, refl), zero 7440 6000 8000 8000 AckStart (fresh 7440 8000 (omega arith) (omega arith)), tt),
          ),
        ),
      )

  came-some : {A : Type 0} {byte : ℕ} {more : List ℕ} → byte ∷ more ≡ [] → A
  came-some none = absurd (cc)

  hears : HearsEachTime (ahead_sender blocks)
  hears = (came-some, (came-some, (came-some, (came-some, tt))))

pub returns-clause-timed : goal.returns-clause-timed
returns-clause-timed c oldest blocks slow = (
  refl,
  record {
    speaks = speaks oldest blocks slow;
    answers = answers oldest blocks slow;
    there = there oldest blocks slow c.a_delivery_brings_its_frame.ensures.brought;
    back = back oldest blocks slow;
  },
  hears oldest blocks slow,
)

pub returns-clause-apart : goal.returns-clause-apart
returns-clause-apart c blocks rounds differ pairs =
    let laws = c.a_delivery_brings_its_frame.ensures in
    never laws.brought laws.heard c.what_came_back_is_of_the_reply.ensures.damaged blocks.one blocks.zero differ AckStart AckStart
    (is-answered (said blocks.one.bytes 7500 (6 ∷ 0x43 ∷ []) 9000).spoke blocks.two.bytes rounds (record { wrote = []; came = 0x43 ∷ [] } ∷ record { wrote = blocks.zero.bytes; came = 0x43 ∷ [] } ∷ record { wrote = blocks.zero.bytes; came = 6 ∷ 0x43 ∷ [] } ∷ []) (answers_of (ahead_receiver blocks)) pairs)
