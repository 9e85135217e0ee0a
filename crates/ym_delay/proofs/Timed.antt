-- On a line with time in it deliveries pair up, round for round.
use Rattle.std.proofs.Common.{◌≡◌, ◌+◌, ◌<◌, ◌≤◌, ◌⊎◌, inl, inr, ℕ, List, [], ◌∷◌, refl, sym, ap, subst, arith}
unfoldable use Rattle.ym_frame.specs.Frame.{verdict_of}
use Rattle.ym_core.specs.Scan.{controls_in}
use Rattle.ym_core.specs.declared.delivery.Heard.{Heard}
use Rattle.ym_core.specs.declared.delivery.Heard.TheVariants.{Bad}
use Rattle.ym_line.specs.declared.delivery.Delivery.{Delivery}
use Rattle.ym_line.specs.declared.delivery.Delivery.TheVariants.{Lost}
use Rattle.ym_line.specs.declared.delivery.Round.{Round}
use Rattle.ym_pair.specs.Pairing.{ArrivesThere, ArrivesBack, PairUp, ReceiverAlone, SenderAlone, up_to_start}
use Rattle.ym_delay.specs.TimedLine.{SpokeAt, AnsweredAt, WroteAt, wrote, written, Times, IsPrompt, SpeaksInTime, AnswersInTime, Takes, BringsThere, ReceiverInVain, HandsThere, BringsBack, SenderInVain, HandsBack, AllApart, NoneMeet, spoken, answers_of}
use Rattle.ym_delay.proofs.HandedOn.{Unread, IsRead, lost-first, unread-first, first-read}

-- ---- Moments

-- what is taken was written since
pub write-since : (times : Times) (since : ℕ) (spoke : List SpokeAt) (last one : WroteAt) (behind : List WroteAt) → SpeaksInTime times since spoke last → Takes (written spoke last) one behind → since ≤ one.at
write-since times since [] last one behind speaks (inl same) = subst (λ (x : WroteAt). since ≤ x.at) (sym same.0) speaks
write-since times since [] last one behind speaks (inr takes) = absurd takes
write-since times since (s ∷ spoke) last one behind speaks (inl same) = subst (λ (x : WroteAt). since ≤ x.at) (sym same.0) speaks.0
write-since times since (s ∷ spoke) last one behind speaks (inr takes) =
    let first = speaks.0 in let reads = speaks.2 in let others = write-since times s.by spoke last one behind speaks.3 takes in omega (arith, first, reads, others)

answer-since : (times : Times) (since : ℕ) (answered : List AnsweredAt) (one : AnsweredAt) (behind : List AnsweredAt) → AnswersInTime times since answered → Takes answered one behind → since ≤ one.at
answer-since times since [] one behind answers takes = absurd takes
answer-since times since (a ∷ answered) one behind answers (inl same) =
    subst (λ (x : AnsweredAt). since ≤ x.at) (sym same.0) (let x = answers.0 in let y = answers.1 in let z = answers.2 in omega (arith, x, y, z))
answer-since times since (a ∷ answered) one behind answers (inr takes) =
    let x = answers.0 in let y = answers.1 in let z = answers.2 in let others = answer-since times a.at answered one behind answers.4 takes in omega (arith, x, y, z, others)

-- what is taken was written behind the first read
pub answer-behind : (times : Times) (since : ℕ) (a : AnsweredAt) (answered : List AnsweredAt) (one : AnsweredAt) (behind : List AnsweredAt) → AnswersInTime times since (a ∷ answered) →
    Takes (a ∷ answered) one behind → a.by ≤ one.at
answer-behind times since a answered one behind answers (inl same) = subst (λ (x : AnsweredAt). a.by ≤ x.at) (sym same.0) answers.2
answer-behind times since a answered one behind answers (inr takes) = let x = answers.2 in let others = answer-since times a.at answered one behind answers.4 takes in omega (arith, x, others)

-- a reply that is too old then is not read
pub unread-reply : (times : Times) (a : AnsweredAt) (since : ℕ) (spoke : List SpokeAt) (last : WroteAt) → a.at + times.oldest ≤ since → SpeaksInTime times since spoke last → Unread (BringsBack times) a spoke
unread-reply times a since [] last old speaks = tt
unread-reply times a since (s ∷ spoke) last old speaks =
    let first = speaks.0 in let reads = speaks.2 in (
      λ brings. let young = brings.fresh.young in absurd (omega (arith, old, first, reads, young)),
      unread-reply times a s.by spoke last (omega (arith, old, first, reads)) speaks.3,
    )

-- nor is a frame
unread-frame : (times : Times) (one : WroteAt) (since : ℕ) (answered : List AnsweredAt) → one.at + times.oldest < since → AnswersInTime times since answered → Unread (BringsThere times) one answered
unread-frame times one since [] old answers = tt
unread-frame times one since (a ∷ answered) old answers =
    let x = answers.0 in let y = answers.1 in let z = answers.2 in (
      λ brings. let young = brings.fresh.young in absurd (omega (arith, old, x, y, young)),
      unread-frame times one a.at answered (omega (arith, old, x, y, z)) answers.4,
    )

-- nothing is not read
unread-nothing : (times : Times) (one : WroteAt) (answered : List AnsweredAt) → one.bytes ≡ [] → Unread (BringsThere times) one answered
unread-nothing times one [] none = tt
unread-nothing times one (a ∷ answered) none = (λ brings. brings.some none, unread-nothing times one answered none)

-- a frame that is read was written not long before
read-soon : (times : Times) (one : WroteAt) (since : ℕ) (answered : List AnsweredAt) → AnswersInTime times since answered → IsRead (BringsThere times) one answered → since ≤ one.at + times.oldest
read-soon times one since [] answers read = absurd read
read-soon times one since (a ∷ answered) answers (inl brings) = let x = answers.0 in let y = answers.1 in let young = brings.fresh.young in omega (arith, x, y, young)
read-soon times one since (a ∷ answered) answers (inr later) =
    let x = answers.0 in let y = answers.1 in let z = answers.2 in let others = read-soon times one a.at answered answers.4 later in omega (arith, x, y, z, others)

-- ---- One end alone

pub bad-lost : (bytes : List ℕ) (h : Heard) → h ≡ Bad → ArrivesThere Lost bytes h
unfolding verdict_of
bad-lost bytes h bad = record { bytes = tt; shows = tt; short = tt; heard_is = bad }

abbrev pub lost_round : Round
lost_round = record { there = Lost; back = Lost }

receiver-alone : (times : Times) (last : WroteAt) (answered : List AnsweredAt) → HandsThere times (last ∷ []) answered → (rounds : List Round) × ReceiverAlone last.bytes (answers_of answered) rounds
receiver-alone times last [] hands = ([], tt)
receiver-alone times last (a ∷ answered) (inl (vain, later)) =
    let rest = receiver-alone times last answered later in
    (lost_round ∷ rest.0, (bad-lost last.bytes a.answered.heard vain.nothing, refl, rest.1))
receiver-alone times last (a ∷ answered) (inr (one, behind, inl (same, none), brings, later)) =
    let rest = receiver-alone times last answered (lost-first (BringsThere times) (ReceiverInVain times) last [] answered (subst (λ writes. HandsThere times writes answered) none later)) in (
      record { there = brings.delivery; back = Lost } ∷ rest.0,
      (subst (λ (x : WroteAt). ArrivesThere brings.delivery x.bytes a.answered.heard) same brings.arrives, refl, rest.1),
    )
receiver-alone times last (a ∷ answered) (inr (one, behind, inr takes, brings, later)) = absurd takes

pub sender-alone : (times : Times) (spoke : List SpokeAt) → HandsBack times [] spoke → (rounds : List Round) × SenderAlone (spoken spoke) rounds
sender-alone times [] hands = ([], tt)
sender-alone times (s ∷ spoke) (inl (vain, later)) =
    let rest = sender-alone times spoke later in
    (lost_round ∷ rest.0, (refl, record { shows = tt; short = tt; heard_is = ap (λ came. up_to_start (controls_in came)) vain.nothing }, rest.1))
sender-alone times (s ∷ spoke) (inr (one, behind, takes, brings, later)) = absurd takes

-- ---- Both

-- why the sender wrote what it wrote last: it had nothing to say, or had heard a reply, or no ask meets it
abbrev pub Why : Times → ℕ → List SpokeAt → List AnsweredAt → Type 0
Why times from [] answered = Unit {0}
Why times from (s ∷ spoke) answered = (s.spoke.wrote ≡ []) ⊎ ((s.at ≤ from + times.oldest + times.sender_acts) ⊎ AllApart times s.at answered)

-- the sender goes on since a moment, and the receiver from another
pub record Stands (times : Times) (since from : ℕ) (spoke : List SpokeAt) (last : WroteAt) (answered : List AnsweredAt) : Type 0 where
  pub speaks : SpeaksInTime times since spoke last
  pub answers : AnswersInTime times from answered
  pub there : HandsThere times (written spoke last) answered
  pub back : HandsBack times answered spoke
  pub none_meet : NoneMeet times spoke answered
  pub why : Why times from spoke answered

abbrev pub Pairs : List SpokeAt → WroteAt → List AnsweredAt → Type 0
Pairs spoke last answered = (rounds : List Round) × PairUp (spoken spoke) last.bytes (answers_of answered) rounds

none-meet-later : (times : Times) (s : SpokeAt) (spoke : List SpokeAt) (answered : List AnsweredAt) → NoneMeet times (s ∷ spoke) answered → NoneMeet times spoke answered
none-meet-later times s [] answered none = tt
none-meet-later times s (next ∷ spoke) answered none = none.1

none-meet-fewer : (times : Times) (spoke : List SpokeAt) (a : AnsweredAt) (answered : List AnsweredAt) → NoneMeet times spoke (a ∷ answered) → NoneMeet times spoke answered
none-meet-fewer times [] a answered none = tt
none-meet-fewer times (s ∷ []) a answered none = tt
none-meet-fewer times (s ∷ next ∷ spoke) a answered none = (λ vain. elim (none.0 vain) [ inl silent ↦ inl silent | inr apart ↦ inr apart.1 ], none-meet-fewer times (next ∷ spoke) a answered none.1)

module _ (times : Times) (prompt : IsPrompt times) (a : AnsweredAt) (more : List AnsweredAt)
    (fewer : (since from : ℕ) (spoke : List SpokeAt) (last : WroteAt) → Stands times since from spoke last more → Pairs spoke last more) where
  module _ (s : SpokeAt) (spoke : List SpokeAt) (last : WroteAt) (since from : ℕ) (st : Stands times since from (s ∷ spoke) last (a ∷ more))
      (onward : (since from : ℕ) → Stands times since from spoke last (a ∷ more) → Pairs spoke last (a ∷ more)) where
    -- both go on, where the sender has read the reply
    why-answered : (spoke : List SpokeAt) → SpeaksInTime times s.by spoke last → s.by ≤ a.at + times.oldest → Why times a.at spoke more
    why-answered [] speaks young = tt
    why-answered (next ∷ spoke) speaks young = inr (inl (let soon = speaks.1 in omega (arith, soon, young)))

    both-go : s.by ≤ a.at + times.oldest → HandsThere times (written spoke last) more → HandsBack times more spoke → Stands times s.by a.at spoke last more
    both-go young there back = record {
      speaks = st.speaks.3;
      answers = st.answers.4;
      there = there;
      back = back;
      none_meet = none-meet-fewer times spoke a more (none-meet-later times s spoke (a ∷ more) st.none_meet);
      why = why-answered spoke st.speaks.3 young;
    }

    -- the receiver goes on alone
    why-still : Why times from (s ∷ spoke) (a ∷ more) → Why times a.at (s ∷ spoke) more
    why-still (inl none) = inl none
    why-still (inr (inl soon)) = inr (inl (let x = st.answers.0 in let y = st.answers.1 in let z = st.answers.2 in omega (arith, soon, x, y, z)))
    why-still (inr (inr apart)) = inr (inr apart.1)

    receiver-goes : HandsThere times (written (s ∷ spoke) last) more → HandsBack times more (s ∷ spoke) → Stands times since a.at (s ∷ spoke) last more
    receiver-goes there back = record {
      speaks = st.speaks;
      answers = st.answers.4;
      there = there;
      back = back;
      none_meet = none-meet-fewer times (s ∷ spoke) a more st.none_meet;
      why = why-still st.why;
    }

    -- the sender goes on alone, whose wait was in vain
    why-vain : (spoke : List SpokeAt) → SenderInVain times s → NoneMeet times (s ∷ spoke) (a ∷ more) → Why times from spoke (a ∷ more)
    why-vain [] vain none = tt
    why-vain (next ∷ spoke) vain none = elim (none.0 vain) [ inl silent ↦ inl silent | inr apart ↦ inr (inr apart) ]

    sender-goes : SenderInVain times s → HandsThere times (written spoke last) (a ∷ more) → HandsBack times (a ∷ more) spoke → Stands times s.by from spoke last (a ∷ more)
    sender-goes vain there back = record {
      speaks = st.speaks.3;
      answers = st.answers;
      there = there;
      back = back;
      none_meet = none-meet-later times s spoke (a ∷ more) st.none_meet;
      why = why-vain spoke vain st.none_meet;
    }

    -- ---- Rounds

    abbrev Here : Type 0
    Here = Pairs (s ∷ spoke) last (a ∷ more)

    both-round : (there back : Delivery) → ArrivesThere there s.spoke.wrote a.answered.heard → ArrivesBack back a.answered.wrote s.spoke.came → Pairs spoke last more → Here
    both-round there back arrives_there arrives_back later = (record { there = there; back = back } ∷ later.0, inl (arrives_there, inl (arrives_back, later.1)))

    lost-reply : (there : Delivery) → ArrivesThere there s.spoke.wrote a.answered.heard → Pairs (s ∷ spoke) last more → Here
    lost-reply there arrives_there later = (record { there = there; back = Lost } ∷ later.0, inl (arrives_there, inr (refl, later.1)))

    vain-round : SenderInVain times s → Pairs spoke last (a ∷ more) → Here
    vain-round vain later = (lost_round ∷ later.0, inr (record { there = refl; back = refl; nothing = ap controls_in vain.nothing }, later.1))

    -- ---- What became of the frame, and of the reply

    bad : ReceiverInVain times a → ArrivesThere Lost s.spoke.wrote a.answered.heard
    bad vain = bad-lost s.spoke.wrote a.answered.heard vain.nothing

    -- the frame of this sender is not read any more, where its reply to nothing was
    frame-unread : ReceiverInVain times a → BringsBack times a s → Why times from (s ∷ spoke) (a ∷ more) → Unread (BringsThere times) (wrote s) more
    frame-unread vain brings (inl none) = unread-nothing times (wrote s) more none
    frame-unread vain brings (inr (inl soon)) =
        let x = st.answers.0 in let y = st.answers.2 in let waited = vain.waited in let limit = prompt.receiver in
        unread-frame times (wrote s) a.at more (omega (arith, soon, x, y, waited, limit)) st.answers.4
    frame-unread vain brings (inr (inr apart)) =
        let young = brings.fresh.young in let reads = st.speaks.2 in
        elim (apart.0 vain) [
          | inl before ↦ absurd (omega (arith, before, young, reads))
          | inr behind ↦ unread-frame times (wrote s) a.at more behind st.answers.4
        ]

    meet : HandsThere times (written (s ∷ spoke) last) (a ∷ more) → HandsBack times (a ∷ more) (s ∷ spoke) → Here
    -- the receiver heard nothing
    meet (inl (vain_there, there)) (inl (vain_back, back)) =
        elim (first-read (BringsThere times) (ReceiverInVain times) (wrote s) (written spoke last) more there) [
          | inl left ↦ vain-round vain_back (onward s.by from (sender-goes vain_back (inl (vain_there, left)) back))
          | inr read ↦
              let soon = read-soon times (wrote s) a.at more st.answers.4 read in let waited = vain_back.waited in let limit = prompt.sender in
              let unread = unread-reply times a s.by spoke last (omega (arith, soon, waited, limit)) st.speaks.3 in
              lost-reply Lost (bad vain_there) (fewer since a.at (s ∷ spoke) last (receiver-goes there (inl (vain_back, unread-first (BringsBack times) (SenderInVain times) a more spoke unread back))))
        ]
    meet (inl (vain_there, there)) (inr (one, behind, inl (same, rest), brings, back)) =
        let read : BringsBack times a s = subst (λ x. BringsBack times x s) same brings in
        both-round Lost read.delivery (bad vain_there) read.arrives
        (fewer s.by a.at spoke last (both-go read.fresh.young (unread-first (BringsThere times) (ReceiverInVain times) (wrote s) (written spoke last) more (frame-unread vain_there read st.why) there)
        (subst (λ l. HandsBack times l spoke) rest back)))
    meet (inl (vain_there, there)) (inr (one, behind, inr takes, brings, back)) =
        lost-reply Lost (bad vain_there) (fewer since a.at (s ∷ spoke) last (receiver-goes there (inr (one, behind, takes, brings, back))))
    -- it heard the frame
    meet (inr (frame, others, inl (is, left), hears, there)) (inl (vain_back, back)) =
        let heard : BringsThere times (wrote s) a = subst (λ x. BringsThere times x a) is hears in
        let young = heard.fresh.young in let acts = st.answers.3 in let waited = vain_back.waited in let limit = prompt.sender in
        let unread = unread-reply times a s.by spoke last (omega (arith, young, acts, waited, limit)) st.speaks.3 in
        lost-reply heard.delivery heard.arrives (fewer since a.at (s ∷ spoke) last
        (receiver-goes (lost-first (BringsThere times) (ReceiverInVain times) (wrote s) (written spoke last) more (subst (λ l. HandsThere times l more) left there))
        (inl (vain_back, unread-first (BringsBack times) (SenderInVain times) a more spoke unread back))))
    meet (inr (frame, others, inl (is, left), hears, there)) (inr (one, behind, inl (same, rest), brings, back)) =
        let heard : BringsThere times (wrote s) a = subst (λ x. BringsThere times x a) is hears in
        let read : BringsBack times a s = subst (λ x. BringsBack times x s) same brings in
        both-round heard.delivery read.delivery heard.arrives read.arrives
        (fewer s.by a.at spoke last (both-go read.fresh.young (subst (λ l. HandsThere times l more) left there) (subst (λ l. HandsBack times l spoke) rest back)))
    meet (inr (frame, others, inl (is, left), hears, there)) (inr (one, behind, inr takes, brings, back)) =
        let heard : BringsThere times (wrote s) a = subst (λ x. BringsThere times x a) is hears in
        lost-reply heard.delivery heard.arrives (fewer since a.at (s ∷ spoke) last
        (receiver-goes (lost-first (BringsThere times) (ReceiverInVain times) (wrote s) (written spoke last) more (subst (λ l. HandsThere times l more) left there)) (inr (one, behind, takes, brings, back))))
    -- it heard what was written later
    meet (inr (frame, others, inr later, hears, there)) (inl (vain_back, back)) =
        vain-round vain_back (onward s.by from (sender-goes vain_back (inr (frame, others, later, hears, there)) back))
    meet (inr (frame, others, inr later, hears, there)) (inr (one, behind, takes, brings, back)) =
        let x = write-since times s.by spoke last frame others st.speaks.3 later in let y = hears.fresh.later in
        let z = answer-behind times from a more one behind st.answers takes in let w = brings.fresh.later in
        absurd (omega (arith, x, y, z, w))

  step : (spoke : List SpokeAt) (last : WroteAt) (since from : ℕ) → Stands times since from spoke last (a ∷ more) → Pairs spoke last (a ∷ more)
  step [] last since from st = receiver-alone times last (a ∷ more) st.there
  step (s ∷ spoke) last since from st = meet s spoke last since from st (λ since from st. step spoke last since from st) st.there st.back

pub pairs : (times : Times) → IsPrompt times → (answered : List AnsweredAt) (since from : ℕ) (spoke : List SpokeAt) (last : WroteAt) → Stands times since from spoke last answered → Pairs spoke last answered
pairs times prompt [] since from [] last st = ([], tt)
pairs times prompt [] since from (s ∷ spoke) last st = sender-alone times (s ∷ spoke) st.back
pairs times prompt (a ∷ more) since from spoke last st = step times prompt a more (λ since from spoke last st. pairs times prompt more since from spoke last st) spoke last since from st
