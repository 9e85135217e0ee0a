-- On a line that is too slow, an answer comes to the sender that belongs to nothing it wrote last.
use Rattle.std.proofs.Common.{◌≡◌, ◌≢◌, ◌⊎◌, ◌∙◌, inl, inr, ℕ, true, List, [], ◌∷◌, ◌++◌, append-nil, sym, subst}
unfoldable use Rattle.ym_frame.specs.Frame.{verdict_of}
use Rattle.ym_frame.specs.Control.{IsSubsequence, controls, reply_bytes}
use Rattle.ym_frame.specs.Frame.{BeginsWith, IsBytes, IsFrame}
use Rattle.ym_frame.specs.declared.control.Control.{Control}
use Rattle.ym_frame.specs.declared.control.Reply.{Reply}
use Rattle.ym_frame.specs.declared.control.Reply.TheVariants.{Start, Silence}
use Rattle.ym_frame.specs.declared.frame.Item.{Item}
use Rattle.ym_core.specs.Hearing.{heard_of}
use Rattle.ym_core.specs.Scan.{controls_in}
use Rattle.ym_core.specs.declared.delivery.Heard.TheVariants as heard
use Rattle.ym_machine.specs.Steps.{is_within, controls as reply_controls}
use Rattle.ym_line.specs.declared.delivery.Delivery.{Delivery}
use Rattle.ym_line.specs.declared.delivery.Delivery.TheVariants.{Whole, Lost, Damaged}
use Rattle.ym_line.specs.declared.delivery.Round.{Round}
use Rattle.ym_pair.specs.Logs.{Spoke, Answered}
use Rattle.ym_pair.specs.Pairing.{ArrivesBack, ArrivesThere, PairUp, SenderAlone}
use Rattle.ym_pair.specs.PairingExamples.{Framed}

-- ---- What comes to a sender last is the answer to what it wrote then

-- of one reply, or of none
abbrev pub IsAnswered : Spoke → List Answered → Type 0
IsAnswered s [] = (back : Delivery) × ArrivesBack back Silence s.came
IsAnswered s (a ∷ answered) =
    ((there : Delivery) × (back : Delivery) × ArrivesThere there s.wrote a.heard × ArrivesBack back a.wrote s.came) ⊎ (IsAnswered s answered ⊎ (controls_in s.came ≡ []))

alone : (s : Spoke) (prefix : List Spoke) (rounds : List Round) → SenderAlone (prefix ++ s ∷ []) rounds → IsAnswered s []
alone s [] [] pairs = absurd pairs
alone s [] (round ∷ rounds) pairs = (round.back, pairs.1)
alone s (first ∷ prefix) [] pairs = absurd pairs
alone s (first ∷ prefix) (round ∷ rounds) pairs = alone s prefix rounds pairs.2

-- what is so of fewer replies is so of more
more-answered : (s : Spoke) (a : Answered) (answered : List Answered) → IsAnswered s answered → IsAnswered s (a ∷ answered)
more-answered s a answered is = inr (inl is)

pub is-answered : (s : Spoke) (last : List ℕ) (rounds : List Round) (prefix : List Spoke) (answered : List Answered) → PairUp (prefix ++ s ∷ []) last answered rounds → IsAnswered s answered
is-answered s last rounds [] [] pairs = alone s [] rounds pairs
is-answered s last rounds (first ∷ prefix) [] pairs = alone s (first ∷ prefix) rounds pairs
is-answered s last [] [] (a ∷ answered) pairs = absurd pairs
is-answered s last [] (first ∷ prefix) (a ∷ answered) pairs = absurd pairs
is-answered s last (round ∷ rounds) [] (a ∷ answered) (inl (there, inl (back, later))) = inl (round.there, round.back, there, back)
is-answered s last (round ∷ rounds) [] (a ∷ answered) (inl (there, inr (lost, later))) = more-answered s a answered (is-answered s last rounds [] answered later)
is-answered s last (round ∷ rounds) [] (a ∷ answered) (inr (vain, later)) = inr (inr vain.nothing)
is-answered s last (round ∷ rounds) (first ∷ prefix) (a ∷ answered) (inl (there, inl (back, later))) = more-answered s a answered (is-answered s last rounds prefix answered later)
is-answered s last (round ∷ rounds) (first ∷ prefix) (a ∷ answered) (inl (there, inr (lost, later))) = more-answered s a answered (is-answered s last rounds (first ∷ prefix) answered later)
is-answered s last (round ∷ rounds) (first ∷ prefix) (a ∷ answered) (inr (vain, later)) = is-answered s last rounds prefix (a ∷ answered) later

-- ---- A block is no other one, and a C is no ACK

-- a frame is heard as its item, and is never empty
abbrev pub Brought : Type 0
Brought = (item : Item) (frame more : List ℕ) → IsFrame item frame → heard_of (frame ++ more) ≡ heard.Item item

abbrev pub Begins : Type 0
Begins = (delivery : List ℕ) (item : Item) → IsBytes delivery → heard_of delivery ≡ heard.Item item → (n : ℕ) × BeginsWith delivery item n

abbrev pub Within : Type 0
Within = (reply : Reply) (bytes : List ℕ) → IsSubsequence (controls bytes) (reply_bytes reply) → is_within (controls_in bytes) (reply_controls reply) ≡ true

pub frame-heard : Brought → (one : Framed) → ArrivesThere Whole one.bytes (heard.Item one.item)
frame-heard brought one = record { bytes = tt; shows = tt; short = tt; heard_is = sym (rw (append-nil one.bytes) at (brought one.item one.bytes [] one.is)) }

pub some-bytes : Brought → (one : Framed) → one.bytes ≡ [] → ⊥
unfolding verdict_of
some-bytes brought one none = let is = brought one.item one.bytes [] one.is in let bad : heard_of ([] ++ []) ≡ heard.Item one.item = rw none at is in cc

same-item : (a b : Item) → heard.Item a ≡ heard.Item b → a ≡ b
same-item a b same = cc

pub no-other : Brought → Begins → (one other : Framed) (delivery : Delivery) → other.item ≢ one.item → ArrivesThere delivery one.bytes (heard.Item other.item) → ⊥
unfolding verdict_of
no-other brought begins one other Whole differ there =
    differ (same-item other.item one.item (there.heard_is ∙ rw (append-nil one.bytes) at (brought one.item one.bytes [] one.is)))
no-other brought begins one other Lost differ there = let bad = there.heard_is in cc
no-other brought begins one other (Damaged bytes) differ there =
    let begun = begins bytes other.item there.bytes (sym there.heard_is) in there.shows (other.item, begun.0, begun.1)

-- ACK C is none of what comes of C, or of nothing
abbrev pub ack_start : List ℕ
ack_start = 0x06 ∷ 0x43 ∷ []

no-ack-of-start : Within → (delivery : Delivery) → ArrivesBack delivery Start ack_start → ⊥
no-ack-of-start within Whole back = let is = back.heard_is in cc
no-ack-of-start within Lost back = let is = back.heard_is in cc
no-ack-of-start within (Damaged bytes) back =
    let is = within Start bytes back.shows in let same = back.heard_is in
    let none = subst (λ (x : List Control). is_within x (reply_controls Start) ≡ true) (sym same) is in cc

no-ack-of-silence : Within → (delivery : Delivery) → ArrivesBack delivery Silence ack_start → ⊥
no-ack-of-silence within Whole back = let is = back.heard_is in cc
no-ack-of-silence within Lost back = let is = back.heard_is in cc
no-ack-of-silence within (Damaged bytes) back =
    let is = within Silence bytes back.shows in let same = back.heard_is in
    let none = subst (λ (x : List Control). is_within x (reply_controls Silence) ≡ true) (sym same) is in cc

some-came : controls_in ack_start ≡ [] → ⊥
some-came none = cc

-- ---- Four replies, of which two are C and two belong to another block

module _ (brought : Brought) (begins : Begins) (within : Within) (one other : Framed) (differ : other.item ≢ one.item) where
  abbrev here : Spoke
  here = record { wrote = one.bytes; came = ack_start }

  abbrev asked : Answered
  asked = record { heard = heard.Bad; wrote = Start }

  abbrev of_other : Reply → Answered
  of_other reply = record { heard = heard.Item other.item; wrote = reply }

  none-at-all : IsAnswered here [] → ⊥
  none-at-all is = no-ack-of-silence within is.0 is.1

  not-asked : (answered : List Answered) → (IsAnswered here answered → ⊥) → IsAnswered here (asked ∷ answered) → ⊥
  not-asked answered not (inl (there, back, arrives, comes)) = no-ack-of-start within back comes
  not-asked answered not (inr (inl is)) = not is
  not-asked answered not (inr (inr none)) = some-came none

  not-other : (reply : Reply) (answered : List Answered) → (IsAnswered here answered → ⊥) → IsAnswered here (of_other reply ∷ answered) → ⊥
  not-other reply answered not (inl (there, back, arrives, comes)) = no-other brought begins one other there differ arrives
  not-other reply answered not (inr (inl is)) = not is
  not-other reply answered not (inr (inr none)) = some-came none

  -- C was asked for once, or twice
  pub never-once : (x y : Reply) → IsAnswered here (asked ∷ of_other x ∷ of_other y ∷ []) → ⊥
  never-once x y is =
      let third = not-other y [] none-at-all in
      let second = not-other x (of_other y ∷ []) third in
      not-asked (of_other x ∷ of_other y ∷ []) second is

  pub never : (x y : Reply) → IsAnswered here (asked ∷ asked ∷ of_other x ∷ of_other y ∷ []) → ⊥
  never x y is =
      let fourth = not-other y [] none-at-all in
      let third = not-other x (of_other y ∷ []) fourth in
      let second = not-asked (of_other x ∷ of_other y ∷ []) third in
      not-asked (asked ∷ of_other x ∷ of_other y ∷ []) second is
