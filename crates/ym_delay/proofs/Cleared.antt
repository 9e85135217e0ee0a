-- Where a sender lets the line clear, deliveries pair up whatever the waits are: copies of a frame may be heard as one another.
use Rattle.std.proofs.Common.{◌≡◌, ◌+◌, ◌≤◌, ◌⊎◌, ◌∙◌, inl, inr, ℕ, List, [], ◌∷◌, ◌++◌, refl, sym, ap, subst, arith}
unfoldable use Rattle.ym_frame.specs.Frame.{verdict_of}
use Rattle.ym_core.specs.Hearing.{heard_of}
use Rattle.ym_core.specs.Scan.{controls_in}
use Rattle.ym_core.specs.declared.delivery.Heard.{Heard}
use Rattle.ym_core.specs.declared.delivery.Heard.TheVariants.{Bad, Item}
use Rattle.ym_line.specs.declared.delivery.Delivery.{Delivery}
use Rattle.ym_line.specs.declared.delivery.Delivery.TheVariants.{Whole, Lost, Damaged}
use Rattle.ym_line.specs.declared.delivery.Round.{Round}
use Rattle.ym_pair.specs.Logs.{Answered, Spoke}
use Rattle.ym_pair.specs.Pairing.{ArrivesThere, ArrivesBack, PairUp, ReceiverAlone, up_to_start}
use Rattle.ym_delay.specs.TimedLine.{AnsweredAt, BringsThere, HandsOn, HandsThere, SpokeAt, Takes, Times, WroteAt, answers_of}
use Rattle.ym_delay.proofs.Ahead.{Begins}
use Rattle.ym_delay.proofs.Timed.{Pairs, bad-lost, lost_round}

-- ---- A receiver hears what was written, or nothing

-- it waited in vain, or its reply is too old for what is written from this moment on
abbrev pub Deaf : Times → ℕ → AnsweredAt → Type 0
Deaf times now a = (a.answered.heard ≡ Bad) × ((a.from + times.receiver_waits ≤ a.by) ⊎ (a.at + times.oldest ≤ now))

abbrev pub There : Times → ℕ → List WroteAt → List AnsweredAt → Type 0
There times now writes answered = HandsOn (BringsThere times) (Deaf times now) writes answered

pub is-bad : (h : Heard) → (h ≡ Bad) ⊎ (h ≡ Bad → ⊥)
is-bad (Item item) = inr (λ bad. cc)
is-bad Bad = inl refl

pub there-at : (times : Times) (now : ℕ) (writes : List WroteAt) (answered : List AnsweredAt) → HandsThere times writes answered → There times now writes answered
there-at times now writes [] hands = tt
there-at times now writes (a ∷ answered) (inl (vain, later)) = inl ((vain.nothing, inl vain.waited), there-at times now writes answered later)
there-at times now writes (a ∷ answered) (inr (one, behind, takes, brings, later)) = inr (one, behind, takes, brings, there-at times now behind answered later)

pub there-later : (times : Times) (now then : ℕ) (writes : List WroteAt) (answered : List AnsweredAt) → now ≤ then → There times now writes answered → There times then writes answered
there-later times now then writes [] before hands = tt
there-later times now then writes (a ∷ answered) before (inl ((bad, inl waited), later)) = inl ((bad, inl waited), there-later times now then writes answered before later)
there-later times now then writes (a ∷ answered) before (inl ((bad, inr old), later)) = inl ((bad, inr (omega (arith, before, old))), there-later times now then writes answered before later)
there-later times now then writes (a ∷ answered) before (inr (one, behind, takes, brings, later)) = inr (one, behind, takes, brings, there-later times now then behind answered before later)

-- ---- Copies of a frame

abbrev pub Copies : List ℕ → ℕ → List WroteAt → Type 0
Copies bytes by [] = Unit {0}
Copies bytes by (w ∷ writes) = ((w.bytes ≡ bytes) × (w.at ≤ by)) × Copies bytes by writes

-- all that was taken is a copy
pub taken-copy : (bytes : List ℕ) (by : ℕ) (writes : List WroteAt) (one : WroteAt) (behind : List WroteAt) → Copies bytes by writes → Takes writes one behind →
    ((one.bytes ≡ bytes) × (one.at ≤ by)) × Copies bytes by behind
taken-copy bytes by [] one behind copies takes = absurd takes
taken-copy bytes by (w ∷ writes) one behind copies (inl same) =
    (subst (λ (x : WroteAt). (x.bytes ≡ bytes) × (x.at ≤ by)) (sym same.0) copies.0, subst (Copies bytes by) (sym same.1) copies.1)
taken-copy bytes by (w ∷ writes) one behind copies (inr takes) = taken-copy bytes by writes one behind copies.1 takes

pub later-copies : (bytes : List ℕ) (by then : ℕ) (writes : List WroteAt) → by ≤ then → Copies bytes by writes → Copies bytes then writes
later-copies bytes by then [] before copies = tt
later-copies bytes by then (w ∷ writes) before copies = ((copies.0.0, let first = copies.0.1 in omega (arith, before, first)), later-copies bytes by then writes before copies.1)

pub more-copies : (bytes : List ℕ) (by : ℕ) (writes : List WroteAt) (w : WroteAt) → Copies bytes by writes → w.bytes ≡ bytes → w.at ≤ by → Copies bytes by (writes ++ w ∷ [])
more-copies bytes by [] w copies same before = ((same, before), tt)
more-copies bytes by (first ∷ writes) w copies same before = (copies.0, more-copies bytes by writes w copies.1 same before)

-- one of the copies, or what was written behind them
pub either-taken : (copies others : List WroteAt) (one : WroteAt) (behind : List WroteAt) → Takes (copies ++ others) one behind →
    ((rest : List WroteAt) × Takes copies one rest × (behind ≡ rest ++ others)) ⊎ Takes others one behind
either-taken [] others one behind takes = inr takes
either-taken (w ∷ copies) others one behind (inl same) = inl (copies, inl (same.0, refl), same.1)
either-taken (w ∷ copies) others one behind (inr takes) = elim (either-taken copies others one behind takes) [ inl found ↦ inl (found.0, inr found.1, found.2) | inr other ↦ inr other ]

-- of nothing no copy is heard
pub none-of-nothing : (times : Times) (now : ℕ) (bytes : List ℕ) (by : ℕ) (copies others : List WroteAt) (answered : List AnsweredAt) → bytes ≡ [] → Copies bytes by copies → There times now (copies ++ others) answered →
    There times now others answered
none-of-nothing times now bytes by copies others [] none are hands = tt
none-of-nothing times now bytes by copies others (a ∷ answered) none are (inl (deaf, later)) = inl (deaf, none-of-nothing times now bytes by copies others answered none are later)
none-of-nothing times now bytes by copies others (a ∷ answered) none are (inr (one, behind, takes, hears, later)) =
    elim (either-taken copies others one behind takes) [
      | inl found ↦ absurd (hears.some ((taken-copy bytes by copies one found.0 are found.1).0.0 ∙ none))
      | inr other ↦ inr (one, behind, other, hears, later)
    ]

-- a receiver that is alone hears copies of the last words
pub alone : (times : Times) (now : ℕ) (bytes : List ℕ) (by : ℕ) (writes : List WroteAt) (answered : List AnsweredAt) → Copies bytes by writes → There times now writes answered →
    (rounds : List Round) × ReceiverAlone bytes (answers_of answered) rounds
alone times now bytes by writes [] copies hands = ([], tt)
alone times now bytes by writes (a ∷ answered) copies (inl (deaf, later)) =
    let rest = alone times now bytes by writes answered copies later in (lost_round ∷ rest.0, (bad-lost bytes a.answered.heard deaf.0, refl, rest.1))
alone times now bytes by writes (a ∷ answered) copies (inr (one, behind, takes, hears, later)) =
    let found = taken-copy bytes by writes one behind copies takes in let rest = alone times now bytes by behind answered found.1 later in (
      record { there = hears.delivery; back = Lost } ∷ rest.0,
      (subst (λ l. ArrivesThere hears.delivery l a.answered.heard) found.0.0 hears.arrives, refl, rest.1),
    )

-- what is heard of a frame is that frame
pub heard-is : Begins → (delivery : Delivery) (bytes : List ℕ) (h : Heard) → ArrivesThere delivery bytes h → (h ≡ Bad → ⊥) → h ≡ heard_of bytes
unfolding verdict_of
heard-is begins Whole bytes h there some = there.heard_is
heard-is begins Lost bytes h there some = absurd (some there.heard_is)
heard-is begins (Damaged came) bytes Bad there some = absurd (some refl)
heard-is begins (Damaged came) bytes (Item item) there some =
    let begun = begins came item there.bytes (sym there.heard_is) in absurd (there.shows (item, begun.0, begun.1))

-- ---- Rounds

pub both : (s : SpokeAt) (spoke : List SpokeAt) (last : WroteAt) (a : AnsweredAt) (more : List AnsweredAt) (there back : Delivery) → ArrivesThere there s.spoke.wrote a.answered.heard →
    ArrivesBack back a.answered.wrote s.spoke.came → Pairs spoke last more → Pairs (s ∷ spoke) last (a ∷ more)
both s spoke last a more there back arrives_there arrives_back later = (record { there = there; back = back } ∷ later.0, inl (arrives_there, inl (arrives_back, later.1)))

pub lost : (s : SpokeAt) (spoke : List SpokeAt) (last : WroteAt) (a : AnsweredAt) (more : List AnsweredAt) (there : Delivery) → ArrivesThere there s.spoke.wrote a.answered.heard →
    Pairs (s ∷ spoke) last more → Pairs (s ∷ spoke) last (a ∷ more)
lost s spoke last a more there arrives_there later = (record { there = there; back = Lost } ∷ later.0, inl (arrives_there, inr (refl, later.1)))

pub vain : (s : SpokeAt) (spoke : List SpokeAt) (last : WroteAt) (a : AnsweredAt) (more : List AnsweredAt) → s.spoke.came ≡ [] → Pairs spoke last (a ∷ more) → Pairs (s ∷ spoke) last (a ∷ more)
vain s spoke last a more none later = (lost_round ∷ later.0, inr (record { there = refl; back = refl; nothing = ap controls_in none }, later.1))

-- ---- A sender that gives up its last wait

pub gives-up : (times : Times) (now : ℕ) (s : SpokeAt) (last : WroteAt) (copies : List WroteAt) (answered : List AnsweredAt) → s.spoke.came ≡ [] → Copies s.spoke.wrote s.at copies →
    There times now (copies ++ last ∷ []) answered → Pairs (s ∷ []) last answered
gives-up times now s last copies [] none are hands = (lost_round ∷ [], (refl, record { shows = tt; short = tt; heard_is = ap (λ came. up_to_start (controls_in came)) none }, tt))
gives-up times now s last copies (a ∷ more) none are (inl (deaf, later)) = lost s [] last a more Lost (bad-lost s.spoke.wrote a.answered.heard deaf.0) (gives-up times now s last copies more none are later)
gives-up times now s last copies (a ∷ more) none are (inr (one, behind, takes, hears, later)) =
    elim (either-taken copies (last ∷ []) one behind takes) [
      | inl found ↦
          let copy = taken-copy s.spoke.wrote s.at copies one found.0 are found.1 in
          lost s [] last a more hears.delivery (subst (λ l. ArrivesThere hears.delivery l a.answered.heard) copy.0.0 hears.arrives)
          (gives-up times now s last found.0 more none copy.1 (subst (λ l. There times now l more) found.2 later))
      | inr other ↦ vain s [] last a more none (alone times now last.bytes last.at (last ∷ []) (a ∷ more) ((refl, omega arith), tt) (inr (one, behind, other, hears, later)))
    ]

-- of the same deliveries
pub moved : (a b : List Spoke) (x y : List ℕ) (c d : List Answered) (rounds : List Round) → a ≡ b → x ≡ y → c ≡ d → PairUp a x c rounds → PairUp b y d rounds
moved a b x y c d rounds e f g pairs = subst (λ l. PairUp l y d rounds) e (subst (λ l. PairUp a l d rounds) f (subst (λ l. PairUp a x l rounds) g pairs))
