-- The same, step by step: what a sender does that reads a reply, and one that reads none.
use Rattle.std.proofs.Common.{◌≡◌, ◌+◌, ◌≤◌, ◌⊎◌, ◌∙◌, inl, inr, ℕ, zero, suc, List, [], ◌∷◌, ◌++◌, length, refl, sym, subst, arith}
use Rattle.ym_core.specs.declared.delivery.Heard.TheVariants.{Bad}
use Rattle.ym_line.specs.declared.delivery.Delivery.{Delivery}
use Rattle.ym_line.specs.declared.delivery.Delivery.TheVariants.{Lost}
use Rattle.ym_line.specs.declared.delivery.Round.{Round}
use Rattle.ym_pair.specs.Pairing.{ArrivesThere, ReceiverAlone}
use Rattle.ym_delay.specs.Cleared.{AcksAgain, ClearsFrom, Drops, HandsLeft, ReadsAck, ReadsCan, SaysAgain, first_of, led_by, others_of}
use Rattle.ym_delay.specs.TimedLine.{AnsweredAt, BringsBack, BringsThere, SpeaksInTime, SpokeAt, Takes, Times, WroteAt, answers_of, spoken, written}
use Rattle.ym_delay.proofs.Acks.{reads-ack, reads-can}
use Rattle.ym_delay.proofs.Ahead.{Begins, Within}
use Rattle.ym_delay.proofs.Cleared.{Copies, Deaf, There, both, either-taken, gives-up, heard-is, lost, none-of-nothing, taken-copy, there-later, vain}
use Rattle.ym_delay.proofs.ClearedGoes.{AllSolved, Goes, IsPast, Most, Settled, Solved, Stand, StartsBy, following, led-most, most-left, most-taken, next-goes, none-left, solved-here}
use Rattle.ym_delay.proofs.ClearedCopies.{CountedOn, all-vain, counts, none-dropped, to-the-last}
use Rattle.ym_delay.proofs.Timed.{Pairs, answer-behind, bad-lost, sender-alone, write-since}

-- ---- What the sender writes next, and why

abbrev pub NextIs : SpokeAt → List SpokeAt → WroteAt → Type 0
NextIs s spoke last = (following spoke last ≡ s.spoke.wrote) ⊎ (ReadsAck s.spoke.came ⊎ ((s.spoke.wrote ≡ []) ⊎ ((spoke ≡ []) × ((s.spoke.came ≡ []) ⊎ ReadsCan s.spoke.came))))

next-is : (s : SpokeAt) (spoke : List SpokeAt) (last : WroteAt) → SaysAgain (spoken (s ∷ spoke)) last.bytes → NextIs s spoke last
next-is s [] last (inl same) = inl same
next-is s [] last (inr (inl ack)) = inr (inl ack)
next-is s [] last (inr (inr (inl none))) = inr (inr (inl none))
next-is s [] last (inr (inr (inr ends))) = inr (inr (inr (refl, ends)))
next-is s (next ∷ spoke) last (inl same, later) = inl same
next-is s (next ∷ spoke) last (inr (inl ack), later) = inr (inl ack)
next-is s (next ∷ spoke) last (inr (inr none), later) = inr (inr (inl none))

-- behind copies
clear-is : (times : Times) (led k : ℕ) (drops : List ℕ) (s : SpokeAt) (spoke : List SpokeAt) (last : WroteAt) → ClearsFrom times led (suc k) drops (s ∷ spoke) →
    (following spoke last ≡ s.spoke.wrote) ⊎ ((s.spoke.wrote ≡ []) ⊎ (StartsBy (s.at + times.oldest + times.receiver_acts + times.oldest) spoke ⊎ CountedOn (suc k) (first_of drops) s spoke))
clear-is times led k drops s [] last clears = inr (inr (inl tt))
clear-is times led k drops s (next ∷ spoke) last (inl alone) = inr alone.0
clear-is times led k drops s (next ∷ spoke) last (inr copy) = inl copy.0

-- ---- A step

module _ (times : Times) (begins : Begins) (within : Within) (a : AnsweredAt) (more : List AnsweredAt) (solved : AllSolved times more) where
  module _ (extra : ℕ) (drops : List ℕ) (led : ℕ) (s : SpokeAt) (spoke : List SpokeAt) (last : WroteAt) (since from : ℕ) (copies : List WroteAt) (st : Stand times extra drops led since from s spoke last copies (a ∷ more)) (onward : Goes times spoke last (a ∷ more)) where
    abbrev Here : Type 0
    Here = Pairs (s ∷ spoke) last (a ∷ more)

    -- what the sender is left with, behind what it dropped
    abbrev Left : List AnsweredAt → Type 0
    Left behind = (left : List AnsweredAt) × Drops spoke (first_of drops) behind left × HandsLeft times (others_of drops) left spoke

    ends : s.at ≤ s.by
    ends = let reads = st.speaks.2 in omega (arith, reads)

    -- what it writes next it writes later
    starts-on : (spoke : List SpokeAt) → SpeaksInTime times s.by spoke last → StartsBy s.at spoke
    starts-on [] speaks = tt
    starts-on (next ∷ spoke) speaks = let first = speaks.0 in omega (arith, ends, first)

    over : (spoke ≡ []) × (s.spoke.came ≡ []) → Here
    over is =
        subst (λ l. Pairs (s ∷ l) last (a ∷ more)) (sym is.0)
        (gives-up times s.at s last copies (a ∷ more) is.1 st.are (subst (λ l. There times s.at (copies ++ written l last) (a ∷ more)) is.0 st.there))

    -- ---- It read nothing

    waits : s.spoke.came ≡ [] → (rest : List WroteAt) → Copies s.spoke.wrote s.at rest → There times s.at (rest ++ written spoke last) (a ∷ more) → Most times (suc extra) s.at rest → HandsLeft times (others_of drops) (a ∷ more) spoke → (rest ≡ []) ⊎ (following spoke last ≡ s.spoke.wrote) → Here
    waits none rest are there few back moves =
        vain s spoke last a more none
        (next-goes times extra drops led s last s.at from rest (a ∷ more) ends st.answers (subst (λ l. led_by l s.by led ≤ from + times.oldest) (sym none) st.led_is) are st.alike spoke st.speaks.3 (starts-on spoke st.speaks.3) there back st.again st.clears moves
        (λ first soon. absurd (soon.some none)) few onward)

    reads-none : s.spoke.came ≡ [] → HandsLeft times (others_of drops) (a ∷ more) spoke → NextIs s spoke last → Here
    reads-none none back (inl same) = waits none copies st.are st.there st.few back (inr same)
    reads-none none back (inr (inl ack)) = absurd (subst ReadsAck none ack)
    reads-none none back (inr (inr (inl silent))) = waits none [] tt (none-of-nothing times s.at s.spoke.wrote s.at copies (written spoke last) (a ∷ more) silent st.are st.there) tt back (inl refl)
    reads-none none back (inr (inr (inr (is, inl still)))) = over (is, still)
    reads-none none back (inr (inr (inr (is, inr can)))) = absurd (subst ReadsCan none can)

    -- ---- It read a later reply

    -- this reply is a later one
    led-later : led ≤ a.at + times.oldest
    led-later = let before = st.led_is in let x = st.answers.0 in let y = st.answers.1 in let z = st.answers.2 in omega (arith, before, x, y, z)

    goes-alone : (there : Delivery) → ArrivesThere there s.spoke.wrote a.answered.heard → (rest : List WroteAt) → Copies s.spoke.wrote s.at rest → There times s.at (rest ++ written spoke last) more → Most times (suc extra) s.at rest →
        HandsLeft times drops more (s ∷ spoke) → Here
    goes-alone there arrives rest are hands few back =
        lost s spoke last a more there arrives (solved-here times more solved (s ∷ spoke) last extra drops led since a.at rest (record {
          speaks = st.speaks;
          answers = st.answers.4;
          are = are;
          led_is = led-later;
          there = hands;
          back = back;
          again = st.again;
          clears = st.clears;
          few = few;
          alike = st.alike.2;
        }))

    reads-later : (one : AnsweredAt) (behind : List AnsweredAt) → Takes more one behind → BringsBack times one s → Left behind → There times s.at (copies ++ written spoke last) (a ∷ more) → Here
    reads-later one behind takes brings back (inl (deaf, there)) = goes-alone Lost (bad-lost s.spoke.wrote a.answered.heard deaf.0) copies st.are there st.few (inr (one, behind, takes, brings, back.0, back.1, back.2))
    reads-later one behind takes brings back (inr (frame, others, taken, hears, there)) =
        elim (either-taken copies (written spoke last) frame others taken) [
          | inl found ↦
              let copy = taken-copy s.spoke.wrote s.at copies frame found.0 st.are found.1 in
              goes-alone hears.delivery (subst (λ l. ArrivesThere hears.delivery l a.answered.heard) copy.0.0 hears.arrives) found.0 copy.1 (subst (λ l. There times s.at l more) found.2 there)
              (most-left times (suc extra) s.at copies frame found.0 found.1 st.few) (inr (one, behind, takes, brings, back.0, back.1, back.2))
          | inr other ↦
              let x = write-since times s.by spoke last frame others st.speaks.3 other in let y = hears.fresh.later in
              let z = answer-behind times from a more one behind st.answers (inr takes) in let w = brings.fresh.later in
              absurd (omega (arith, x, y, z, w))
        ]

    -- ---- It read this one

    module _ (brings : BringsBack times a s) (dropped : Left more) where
      back : HandsLeft times (others_of drops) more spoke
      back = none-dropped times (others_of drops) (first_of drops) spoke more dropped.0 dropped.1 dropped.2

      goes-on : (there : Delivery) → ArrivesThere there s.spoke.wrote a.answered.heard → (now : ℕ) → StartsBy now spoke → (rest : List WroteAt) → Copies s.spoke.wrote s.at rest → There times now (rest ++ written spoke last) more → (rest ≡ []) ⊎ (following spoke last ≡ s.spoke.wrote) →
          Settled times led extra s rest → Most times (suc extra) s.at rest → Here
      goes-on there arrives now starts rest are hands moves settled few =
          both s spoke last a more there brings.delivery arrives brings.arrives
          (next-goes times extra drops led s last now a.at rest more ends st.answers.4 (led-most s.spoke.came s.by led (a.at + times.oldest) led-later brings.fresh.young) are st.alike.2 spoke st.speaks.3 starts hands back st.again st.clears moves settled few (solved-here times more solved spoke last))

      -- it was cancelled, and the receiver says nothing more
      called-off : (there : Delivery) → ArrivesThere there s.spoke.wrote a.answered.heard → spoke ≡ [] → ReadsCan s.spoke.came → Here
      called-off there arrives none can =
          let last_one : answers_of more ≡ [] = st.alike.1 (reads-can within brings.delivery a.answered.wrote s.spoke.came brings.arrives can) in
          subst (λ l. Pairs (s ∷ l) last (a ∷ more)) (sym none) (both s [] last a more there brings.delivery arrives brings.arrives (subst (λ l. (rounds : List Round) × ReceiverAlone last.bytes l rounds) (sym last_one) ([], tt)))

      -- no ask that is soon comes behind a wait in vain
      never-soon : Deaf times s.at a → (rest : List WroteAt) → Settled times led extra s rest
      never-soon (bad, inl waited) rest first soon =
          let long = soon.soon in let before = st.led_is in let x = st.answers.0 in let z = st.answers.2 in let w = brings.fresh.later in
          absurd (omega (arith, waited, long, before, x, z, w))
      never-soon (bad, inr old) rest first soon = let young = brings.fresh.young in let reads = st.speaks.2 in absurd (omega (arith, old, young, reads))

      -- behind a wait in vain
      answers-none : Deaf times s.at a → There times s.at (copies ++ written spoke last) more → NextIs s spoke last → Here
      answers-none deaf there (inl same) = goes-on Lost (bad-lost s.spoke.wrote a.answered.heard deaf.0) s.at (starts-on spoke st.speaks.3) copies st.are there (inr same) (never-soon deaf copies) st.few
      answers-none deaf there (inr (inl ack)) = absurd ((st.alike.0 (reads-ack within brings.delivery a.answered.wrote s.spoke.came brings.arrives ack)).0 deaf.0)
      answers-none deaf there (inr (inr (inl silent))) =
          goes-on Lost (bad-lost s.spoke.wrote a.answered.heard deaf.0) s.at (starts-on spoke st.speaks.3) [] tt (none-of-nothing times s.at s.spoke.wrote s.at copies (written spoke last) more silent st.are there) (inl refl) (never-soon deaf []) tt
      answers-none deaf there (inr (inr (inr (is, inl still)))) = over (is, still)
      answers-none deaf there (inr (inr (inr (is, inr can)))) = called-off Lost (bad-lost s.spoke.wrote a.answered.heard deaf.0) is can

      -- behind a copy of the frame
      module _ (frame : WroteAt) (rest : List WroteAt) (taken : Takes copies frame rest) (hears : BringsThere times frame a) (same : frame.bytes ≡ s.spoke.wrote) (are : Copies s.spoke.wrote s.at rest) (there : There times s.at (rest ++ written spoke last) more) where
        arrives : ArrivesThere hears.delivery s.spoke.wrote a.answered.heard
        arrives = subst (λ l. ArrivesThere hears.delivery l a.answered.heard) same hears.arrives

        leads-late : (a.answered.heard ≡ Bad → ⊥) × AcksAgain a.answered (answers_of more) → StartsBy (s.at + times.oldest + times.receiver_acts + times.oldest) spoke → Here
        leads-late acks starts =
            elim (to-the-last times begins extra drops s spoke last a brings.delivery st.speaks.3 ends brings.arrives (heard-is begins hears.delivery s.spoke.wrote a.answered.heard arrives acks.0) st.again led st.clears starts more [] a.at rest
            (led-most s.spoke.came s.by led (a.at + times.oldest) led-later brings.fresh.young) solved (there-later times s.at (s.at + times.oldest + times.receiver_acts + times.oldest) (rest ++ written spoke last) more (omega arith) there) are
            st.answers.4 tt back acks.1 st.alike.2) [
              | inl left ↦ goes-on hears.delivery arrives (s.at + times.oldest + times.receiver_acts + times.oldest) starts [] tt left (inl refl) (λ first soon. refl) tt
              | inr pairs ↦ lost s spoke last a more hears.delivery arrives pairs
            ]

        -- it is no copy that was over when the last was written
        not-past : IsPast times frame.at s.at → ⊥
        not-past past =
            let heard = hears.fresh.young in let acts = st.answers.3 in let young = brings.fresh.young in let reads = st.speaks.2 in
            absurd (omega (arith, past, heard, acts, young, reads))

        -- with one write alone under way this was that
        settled : Settled times led extra s rest
        settled first soon = none-left rest (most-taken times 0 s.at copies frame rest (subst (λ b. Most times (suc b) s.at copies) first st.few) taken not-past)

        goes-copy : (rest ≡ []) ⊎ (following spoke last ≡ s.spoke.wrote) → Here
        goes-copy moves = goes-on hears.delivery arrives s.at (starts-on spoke st.speaks.3) rest are there moves settled (most-left times (suc extra) s.at copies frame rest taken st.few)

        leads-counted : (a.answered.heard ≡ Bad → ⊥) × AcksAgain a.answered (answers_of more) → (k : ℕ) → length rest ≤ suc k → CountedOn (suc k) (first_of drops) s spoke → Here
        leads-counted acks k few counted =
            lost s spoke last a more hears.delivery arrives
            (counts times begins extra drops s spoke last a brings.delivery st.speaks.3 ends brings.arrives (heard-is begins hears.delivery s.spoke.wrote a.answered.heard arrives acks.0) st.again led st.clears k (first_of drops) counted more dropped.0 a.at rest few
            (led-most s.spoke.came s.by led (a.at + times.oldest) led-later brings.fresh.young) solved there are st.answers.4 dropped.1 dropped.2 acks.1 st.alike.2)

        leads-by : (b : ℕ) → Most times (suc b) s.at copies → ClearsFrom times led b drops (s ∷ spoke) → (a.answered.heard ≡ Bad → ⊥) × AcksAgain a.answered (answers_of more) → Here
        leads-by zero few clears acks = goes-copy (inl (none-left rest (most-taken times 0 s.at copies frame rest few taken not-past)))
        leads-by (suc k) few clears acks =
            elim (clear-is times led k drops s spoke last clears) [
              | inl again ↦ goes-copy (inr again)
              | inr late ↦
                  elim late [
                    | inl silent ↦ absurd (hears.some (same ∙ silent))
                    | inr clear ↦
                        elim clear [ inl starts ↦ leads-late acks starts | inr counted ↦ leads-counted acks k (most-taken times (suc k) s.at copies frame rest few taken not-past) counted ]
                  ]
            ]

        answers-copy : NextIs s spoke last → Here
        answers-copy (inl again) = goes-copy (inr again)
        answers-copy (inr (inl ack)) = leads-by extra st.few st.clears (st.alike.0 (reads-ack within brings.delivery a.answered.wrote s.spoke.came brings.arrives ack))
        answers-copy (inr (inr (inl silent))) = absurd (hears.some (same ∙ silent))
        answers-copy (inr (inr (inr (is, inl still)))) = over (is, still)
        answers-copy (inr (inr (inr (is, inr can)))) = called-off hears.delivery arrives is can

      reads-this : There times s.at (copies ++ written spoke last) (a ∷ more) → Here
      reads-this (inl (deaf, there)) = answers-none deaf there (next-is s spoke last st.again)
      reads-this (inr (frame, others, taken, hears, there)) =
          elim (either-taken copies (written spoke last) frame others taken) [
            | inl found ↦
                let copy = taken-copy s.spoke.wrote s.at copies frame found.0 st.are found.1 in
                answers-copy frame found.0 found.1 hears copy.0.0 copy.1 (subst (λ l. There times s.at l more) found.2 there) (next-is s spoke last st.again)
            | inr other ↦
                let x = write-since times s.by spoke last frame others st.speaks.3 other in let y = hears.fresh.later in
                let z = st.answers.2 in let w = brings.fresh.later in
                absurd (omega (arith, x, y, z, w))
          ]

    step : HandsLeft times drops (a ∷ more) (s ∷ spoke) → Here
    step (inl (in_vain, later)) = reads-none in_vain.nothing later (next-is s spoke last st.again)
    step (inr (one, behind, inl is, brings, left, dropped, later)) = reads-this (subst (λ x. BringsBack times x s) is.0 brings) (subst Left is.1 (left, dropped, later)) st.there
    step (inr (one, behind, inr takes, brings, left, dropped, later)) = reads-later one behind takes brings (left, dropped, later) st.there

  pub solves : Solved times (a ∷ more)
  solves [] last = tt
  solves (s ∷ spoke) last = λ extra drops led since from copies st. step extra drops led s spoke last since from copies st (solves spoke last) st.back

alone-goes : (times : Times) → Solved times []
alone-goes times [] last = tt
alone-goes times (s ∷ spoke) last = λ extra drops led since from copies st. sender-alone times (s ∷ spoke) (all-vain times drops (s ∷ spoke) st.back)

pub solve : (times : Times) → Begins → Within → (answered : List AnsweredAt) → AllSolved times answered
solve times begins within [] = alone-goes times
solve times begins within (a ∷ more) = (solves times begins within a more (solve times begins within more), solve times begins within more)
