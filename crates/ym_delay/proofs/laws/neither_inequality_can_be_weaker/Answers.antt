use Rattle.std.proofs.Common.{◌≡◌, ◌+◌, ◌<◌, ◌≤◌, ℕ, List, [], ◌∷◌, inl, inr, refl, arith}
use Rattle.ym_frame.specs.Control.{reply_bytes}
use Rattle.ym_frame.specs.declared.control.Reply.{Reply}
use Rattle.ym_frame.specs.declared.control.Reply.TheVariants.{AckStart}
use Rattle.ym_core.specs.Scan.{controls_in}
use Rattle.ym_core.specs.declared.delivery.Heard.TheVariants as heard
use Rattle.ym_line.specs.declared.delivery.Delivery.TheVariants.{Whole}
use Rattle.ym_pair.specs.Pairing.{up_to_start}
use Rattle.ym_pair.specs.PairingExamples.{Blocks, Framed}
use Rattle.ym_delay.specs.Beyond.{asked_last, asked_receiver, asked_sender, given_up, waited_last, waited_receiver, waited_sender}
use Rattle.ym_delay.specs.TimedExamples.{replied, said}
use Rattle.ym_delay.specs.TimedLine.{AllApart, AnsweredAt, AnswersInTime, BringsBack, BringsThere, HandsBack, HandsThere, IsFresh, NoneMeet, ReceiverInVain, SpeaksInTime, Times, answers_of, written}
use Rattle.ym_delay.proofs.Ahead.{Brought, frame-heard, is-answered, never, never-once, some-bytes}
use Rattle.ym_delay.proofs.laws.neither_inequality_can_be_weaker.Goals as goal

-- ---- What comes whole

brings : Brought → (times : Times) (one : Framed) (at from by then : ℕ) (reply : Reply) → IsFresh times at by → BringsThere times (record { bytes = one.bytes; at = at }) (replied from by (heard.Item one.item) then reply)
brings brought times one at from by then reply fresh = record { some = some-bytes brought one; fresh = fresh; delivery = Whole; arrives = frame-heard brought one }

reply-back : (times : Times) (one : AnsweredAt) (wrote : List ℕ) (at : ℕ) (came : List ℕ) (by : ℕ) → IsFresh times one.at by → up_to_start (controls_in came) ≡ controls_in (reply_bytes one.answered.wrote) →
    BringsBack times one (said wrote at came by)
reply-back times one wrote at came by fresh same = record { fresh = fresh; delivery = Whole; arrives = record { shows = tt; short = tt; heard_is = same } }

came-some : {A : Type 0} {byte : ℕ} {more : List ℕ} → byte ∷ more ≡ [] → A
came-some none = absurd (cc)

-- ---- A receiver that asks again just as block 0 comes

module _ (times : Times) (blocks : Blocks) (some : 2 ≤ times.oldest) (wide : 2 ≤ times.receiver_waits) (slow : times.receiver_waits ≤ times.oldest + times.sender_acts + times.oldest) where
  asked-speaks : SpeaksInTime times 0 (asked_sender times blocks) (asked_last times blocks)
  asked-speaks = (
    omega arith,
    omega arith,
    omega (arith, wide),
    (
      omega arith,
      omega arith,
      omega (arith, wide),
      (omega arith, omega arith, omega arith, (omega arith, omega arith, omega arith, omega arith)),
    ),
  )

  asked-answers : AnswersInTime times 0 (asked_receiver times blocks)
  asked-answers = (
    omega arith,
    omega arith,
    omega arith,
    omega arith,
    (
      omega arith,
      omega arith,
      omega arith,
      omega arith,
      (omega arith, omega arith, omega arith, omega arith, (omega arith, omega arith, omega arith, omega arith, tt)),
    ),
  )

  asked-there : Brought → HandsThere times (written (asked_sender times blocks) (asked_last times blocks)) (asked_receiver times blocks)
  asked-there brought =
      inl (
        record { nothing = refl; waited = omega arith },
        inl (
          record { nothing = refl; waited = omega arith },
          inr (
            _,
            _,
            inr (inl (refl, refl)),
            brings brought times blocks.zero _ _ _ _ AckStart (record { later = omega (arith, wide, some); young = omega (arith, wide, some, slow) }),
            inr (_, _, inl (refl, refl), brings brought times blocks.zero _ _ _ _ AckStart (record { later = omega arith; young = omega (arith, some) }), tt),
          ),
        ),
      )

  asked-back : HandsBack times (asked_receiver times blocks) (asked_sender times blocks)
  asked-back =
      inr (
        _,
        _,
        inl (refl, refl),
        reply-back times _ [] _ (0x43 ∷ []) _ (record { later = omega (arith, wide, some); young = omega arith }) refl,
        inr (
          _,
          _,
          inl (refl, refl),
          reply-back times _ blocks.zero.bytes _ (0x43 ∷ []) _ (record { later = omega arith; young = omega (arith, some) }) refl,
          inr (
            _,
            _,
            inl (refl, refl),
            reply-back times _ blocks.zero.bytes _ (6 ∷ 0x43 ∷ []) _ (record { later = omega arith; young = omega (arith, some) }) refl,
            inr (_, _, inl (refl, refl), reply-back times _ blocks.one.bytes _ (6 ∷ 0x43 ∷ []) _ (record { later = omega arith; young = omega (arith, some) }) refl, tt),
          ),
        ),
      )

  asked-none : NoneMeet times (asked_sender times blocks) (asked_receiver times blocks)
  asked-none = (λ vain. came-some vain.nothing, (λ vain. came-some vain.nothing, (λ vain. came-some vain.nothing, tt)))

pub returns-clause-receiver : goal.returns-clause-receiver
returns-clause-receiver c times blocks differ some wide slow =
    let laws = c.a_delivery_brings_its_frame.ensures in record {
      start = 0;
      begun = 0;
      spoke = asked_sender times blocks;
      last = asked_last times blocks;
      answered = asked_receiver times blocks;
      begins = refl;
      timed = record {
        speaks = asked-speaks times blocks some wide slow;
        answers = asked-answers times blocks some wide slow;
        there = asked-there times blocks some wide slow laws.brought;
        back = asked-back times blocks some wide slow;
      };
      none_meet = asked-none times blocks some wide slow;
      apart = λ rounds pairs. never laws.brought laws.heard c.what_came_back_is_of_the_reply.ensures.damaged blocks.one blocks.zero differ AckStart AckStart
          (is-answered (said blocks.one.bytes 0 (6 ∷ 0x43 ∷ []) 0).spoke blocks.two.bytes rounds
          (record { wrote = []; came = 0x43 ∷ [] } ∷ record { wrote = blocks.zero.bytes; came = 0x43 ∷ [] } ∷ record { wrote = blocks.zero.bytes; came = 6 ∷ 0x43 ∷ [] } ∷ []) (answers_of (asked_receiver times blocks)) pairs);
    }

-- ---- A sender that gives up its wait just before the reply comes

module _ (times : Times) (blocks : Blocks) (some : 2 ≤ times.oldest) (wide : times.oldest ≤ times.sender_waits) (slow : times.sender_waits < times.oldest + times.receiver_acts + times.oldest) where
  waited-speaks : SpeaksInTime times 0 (waited_sender times blocks) (waited_last times blocks)
  waited-speaks = (
    omega arith,
    omega arith,
    omega arith,
    (
      omega arith,
      omega arith,
      omega (arith, some, wide),
      (omega arith, omega arith, omega arith, (omega arith, omega arith, omega arith, omega arith)),
    ),
  )

  waited-answers : AnswersInTime times 0 (waited_receiver times blocks)
  waited-answers = (
    omega arith,
    omega arith,
    omega arith,
    omega arith,
    (omega arith, omega arith, omega arith, omega arith, (omega arith, omega (arith, some, wide), omega arith, omega arith, tt)),
  )

  waited-there : Brought → HandsThere times (written (waited_sender times blocks) (waited_last times blocks)) (waited_receiver times blocks)
  waited-there brought =
      inl (
        record { nothing = refl; waited = omega arith },
        inr (
          _,
          _,
          inr (inl (refl, refl)),
          brings brought times blocks.zero _ _ _ _ AckStart (record { later = omega (arith, wide, some); young = omega arith }),
          inr (_, _, inl (refl, refl), brings brought times blocks.zero _ _ _ _ AckStart (record { later = omega arith; young = omega (arith, some) }), tt),
        ),
      )

  waited-back : HandsBack times (waited_receiver times blocks) (waited_sender times blocks)
  waited-back =
      inr (
        _,
        _,
        inl (refl, refl),
        reply-back times _ [] _ (0x43 ∷ []) _ (record { later = omega arith; young = omega (arith, some) }) refl,
        inl (
          record { nothing = refl; waited = omega arith },
          inr (
            _,
            _,
            inl (refl, refl),
            reply-back times _ blocks.zero.bytes _ (6 ∷ 0x43 ∷ []) _ (record { later = omega (arith, some, wide); young = omega (arith, some, wide, slow) }) refl,
            inr (_, _, inl (refl, refl), reply-back times _ blocks.one.bytes _ (6 ∷ 0x43 ∷ []) _ (record { later = omega arith; young = omega (arith, some) }) refl, tt),
          ),
        ),
      )

  never-vain : (from by then : ℕ) (reply : Reply) (A : Type 0) → ReceiverInVain times (replied from by (heard.Item blocks.zero.item) then reply) → A
  never-vain from by then reply A vain = let none = vain.nothing in absurd (cc)

  waited-apart : AllApart times (given_up times) (waited_receiver times blocks)
  waited-apart = (λ vain. inl (omega (arith, wide)), (λ vain. never-vain _ _ _ _ _ vain, (λ vain. never-vain _ _ _ _ _ vain, tt)))

  waited-none : NoneMeet times (waited_sender times blocks) (waited_receiver times blocks)
  waited-none = (λ vain. came-some vain.nothing, (λ vain. inr waited-apart, (λ vain. came-some vain.nothing, tt)))

pub returns-clause-sender : goal.returns-clause-sender
returns-clause-sender c times blocks differ some wide slow =
    let laws = c.a_delivery_brings_its_frame.ensures in record {
      start = 0;
      begun = 0;
      spoke = waited_sender times blocks;
      last = waited_last times blocks;
      answered = waited_receiver times blocks;
      begins = refl;
      timed = record {
        speaks = waited-speaks times blocks some wide slow;
        answers = waited-answers times blocks some wide slow;
        there = waited-there times blocks some wide slow laws.brought;
        back = waited-back times blocks some wide slow;
      };
      none_meet = waited-none times blocks some wide slow;
      apart = λ rounds pairs. never-once laws.brought laws.heard c.what_came_back_is_of_the_reply.ensures.damaged blocks.one blocks.zero differ AckStart AckStart
          (is-answered (said blocks.one.bytes 0 (6 ∷ 0x43 ∷ []) 0).spoke blocks.two.bytes rounds
          (record { wrote = []; came = 0x43 ∷ [] } ∷ record { wrote = blocks.zero.bytes; came = [] } ∷ record { wrote = blocks.zero.bytes; came = 6 ∷ 0x43 ∷ [] } ∷ []) (answers_of (waited_receiver times blocks)) pairs);
    }
