-- Where copies are under way: a sender that lets the line clear goes on behind the last of them.
use Rattle.std.proofs.Common.{◌≡◌, ◌+◌, ◌<◌, ◌≤◌, ◌⊎◌, ◌∙◌, inl, inr, ℕ, zero, suc, List, [], ◌∷◌, ◌++◌, append_assoc, length, refl, sym, subst, arith}
use Rattle.ym_core.specs.Hearing.{heard_of}
use Rattle.ym_line.specs.declared.delivery.Delivery.{Delivery}
use Rattle.ym_line.specs.declared.delivery.Delivery.TheVariants.{Lost}
use Rattle.ym_pair.specs.Pairing.{ArrivesThere, ArrivesBack}
use Rattle.ym_delay.specs.Cleared.{AcksAgain, AnswersAlike, ClearsFrom, Drops, HandsLeft, IsAck, IsCounted, SaysAgain, led_by, others_of}
use Rattle.ym_delay.specs.TimedLine.{AnsweredAt, AnswersInTime, BringsBack, BringsThere, HandsBack, SpeaksInTime, SpokeAt, Takes, Times, WroteAt, answers_of, spoken, written}
use Rattle.ym_delay.proofs.Ahead.{Begins}
use Rattle.ym_delay.proofs.Cleared.{Copies, Deaf, There, both, either-taken, heard-is, is-bad, lost, taken-copy}
use Rattle.ym_delay.proofs.ClearedGoes.{AllSolved, StartsBy, next-goes, none-left, shorter, solved-here}
use Rattle.ym_delay.proofs.HandedOn.{Unread}
use Rattle.ym_delay.proofs.Timed.{Pairs, answer-behind, bad-lost, unread-reply, write-since}

-- ---- Replies that are too old

abbrev pub AllBy : ℕ → List AnsweredAt → Type 0
AllBy by [] = Unit {0}
AllBy by (a ∷ answered) = (a.at ≤ by) × AllBy by answered

all-later : (by then : ℕ) (answered : List AnsweredAt) → by ≤ then → AllBy by answered → AllBy then answered
all-later by then [] before all = tt
all-later by then (a ∷ answered) before all = (let first = all.0 in omega (arith, before, first), all-later by then answered before all.1)

all-more : (by : ℕ) (answered : List AnsweredAt) (a : AnsweredAt) → AllBy by answered → a.at ≤ by → AllBy by (answered ++ a ∷ [])
all-more by [] a all one = (one, tt)
all-more by (first ∷ answered) a all one = (all.0, all-more by answered a all.1 one)

-- reads none of them
none-read : (times : Times) (a : AnsweredAt) (by since : ℕ) (spoke : List SpokeAt) (last : WroteAt) → SpeaksInTime times since spoke last → StartsBy by spoke → a.at + times.oldest ≤ by → Unread (BringsBack times) a spoke
none-read times a by since [] last speaks starts old = tt
none-read times a by since (next ∷ spoke) last speaks starts old =
    unread-reply times a next.at (next ∷ spoke) last (omega (arith, starts, old)) (omega arith, omega arith, speaks.2, speaks.3)

-- a reply that none of them reads may be left out, whatever is dropped
left-out : (times : Times) (a : AnsweredAt) (answered : List AnsweredAt) (drops : List ℕ) (spoke : List SpokeAt) → Unread (BringsBack times) a spoke → HandsLeft times drops (a ∷ answered) spoke → HandsLeft times drops answered spoke
left-out times a answered drops [] none hands = tt
left-out times a answered drops (s ∷ spoke) none (inl (in_vain, later)) = inl (in_vain, left-out times a answered (others_of drops) spoke none.1 later)
left-out times a answered drops (s ∷ spoke) none (inr (one, behind, inl same, brings, left, dropped, later)) = absurd (none.0 (subst (λ x. BringsBack times x s) same.0 brings))
left-out times a answered drops (s ∷ spoke) none (inr (one, behind, inr takes, brings, left, dropped, later)) = inr (one, behind, takes, brings, left, dropped, later)

pub all-unread : (times : Times) (at by since : ℕ) (olds answered : List AnsweredAt) (drops : List ℕ) (spoke : List SpokeAt) (last : WroteAt) → SpeaksInTime times since spoke last → StartsBy by spoke → at + times.oldest ≤ by → AllBy at olds →
    HandsLeft times drops (olds ++ answered) spoke → HandsLeft times drops answered spoke
all-unread times at by since [] answered drops spoke last speaks starts old all back = back
all-unread times at by since (a ∷ olds) answered drops spoke last speaks starts old all back =
    all-unread times at by since olds answered drops spoke last speaks starts old all.1
    (left-out times a (olds ++ answered) drops spoke (none-read times a by since spoke last speaks starts (let first = all.0 in omega (arith, first, old))) back)

-- what was dropped is lost
lost-reply : (times : Times) (a : AnsweredAt) (answered : List AnsweredAt) (drops : List ℕ) (spoke : List SpokeAt) → HandsLeft times drops answered spoke → HandsLeft times drops (a ∷ answered) spoke
lost-reply times a answered drops [] hands = tt
lost-reply times a answered drops (s ∷ spoke) (inl (in_vain, later)) = inl (in_vain, lost-reply times a answered (others_of drops) spoke later)
lost-reply times a answered drops (s ∷ spoke) (inr (one, behind, takes, brings, left, dropped, later)) = inr (one, behind, inr takes, brings, left, dropped, later)

behind-lost : (times : Times) (drops : List ℕ) (spoke : List SpokeAt) (answered : List AnsweredAt) (one : AnsweredAt) (behind : List AnsweredAt) → Takes answered one behind → HandsLeft times drops behind spoke → HandsLeft times drops answered spoke
behind-lost times drops spoke [] one behind takes hands = absurd takes
behind-lost times drops spoke (a ∷ answered) one behind (inl same) hands = lost-reply times a answered drops spoke (subst (λ l. HandsLeft times drops l spoke) same.1 hands)
behind-lost times drops spoke (a ∷ answered) one behind (inr takes) hands = lost-reply times a answered drops spoke (behind-lost times drops spoke answered one behind takes hands)

pub none-dropped : (times : Times) (drops : List ℕ) (n : ℕ) (spoke : List SpokeAt) (answered left : List AnsweredAt) → Drops spoke n answered left → HandsLeft times drops left spoke → HandsLeft times drops answered spoke
none-dropped times drops zero spoke answered left same hands = subst (λ l. HandsLeft times drops l spoke) same hands
none-dropped times drops (suc n) spoke answered left (one, behind, takes, ack, before, others) hands = behind-lost times drops spoke answered one behind takes (none-dropped times drops n spoke behind left others hands)

pub in-order : (times : Times) (answered : List AnsweredAt) (spoke : List SpokeAt) → HandsBack times answered spoke → HandsLeft times [] answered spoke
in-order times answered [] hands = tt
in-order times answered (s ∷ spoke) (inl (in_vain, later)) = inl (in_vain, in-order times answered spoke later)
in-order times answered (s ∷ spoke) (inr (one, behind, takes, brings, later)) = inr (one, behind, takes, brings, behind, refl, in-order times behind spoke later)

pub all-vain : (times : Times) (drops : List ℕ) (spoke : List SpokeAt) → HandsLeft times drops [] spoke → HandsBack times [] spoke
all-vain times drops [] hands = tt
all-vain times drops (s ∷ spoke) (inl (in_vain, later)) = inl (in_vain, all-vain times (others_of drops) spoke later)
all-vain times drops (s ∷ spoke) (inr (one, behind, takes, brings, left, dropped, later)) = absurd takes

-- ---- A sender that has read the ACK of a frame of which copies are under way: it goes on with that to the last of them

module _ (times : Times) (begins : Begins) (extra : ℕ) (drops : List ℕ) (s : SpokeAt) (spoke : List SpokeAt) (last : WroteAt) (a : AnsweredAt) (back : Delivery)
    (speaks : SpeaksInTime times s.by spoke last) (ends : s.at ≤ s.by) (reads : ArrivesBack back a.answered.wrote s.spoke.came) (hears : a.answered.heard ≡ heard_of s.spoke.wrote)
    (again : SaysAgain (spoken (s ∷ spoke)) last.bytes) (led : ℕ) (clears : ClearsFrom times led extra drops (s ∷ spoke)) (starts : StartsBy (s.at + times.oldest + times.receiver_acts + times.oldest) spoke) where
  -- when all copies are over
  abbrev Then : ℕ
  Then = s.at + times.oldest + times.receiver_acts + times.oldest

  abbrev Led : ℕ → Type 0
  Led from = led_by s.spoke.came s.by led ≤ from + times.oldest

  -- a copy that is heard then: if it is the last, it is the one whose ACK was read
  after-copy : (one : WroteAt) (b : AnsweredAt) (more earlier : List AnsweredAt) (from : ℕ) → Led from → AllSolved times more → BringsThere times one b → one.bytes ≡ s.spoke.wrote → one.at ≤ s.at →
      AnswersInTime times from (b ∷ more) → AllBy b.at (earlier ++ b ∷ []) → HandsLeft times (others_of drops) ((earlier ++ b ∷ []) ++ more) spoke → b.answered.wrote ≡ a.answered.wrote → AnswersAlike (answers_of more) →
      There times Then (written spoke last) more ⊎ Pairs (s ∷ spoke) last more → Pairs (s ∷ spoke) last (b ∷ more)
  after-copy one b more earlier from led_is solved heard same before answers all hands alike also (inl left) =
      let young = heard.fresh.young in let x = answers.0 in let y = answers.1 in let z = answers.2 in let acts = answers.3 in
      both s spoke last b more heard.delivery back (subst (λ l. ArrivesThere heard.delivery l b.answered.heard) same heard.arrives) (subst (λ r. ArrivesBack back r s.spoke.came) (sym alike) reads)
      (next-goes times extra drops led s last Then b.at [] more ends answers.4 (omega (arith, led_is, x, y, z)) tt also spoke speaks starts left
      (all-unread times b.at Then s.by (earlier ++ b ∷ []) more (others_of drops) spoke last speaks starts (omega (arith, young, acts, before)) all hands)
      again clears (inl refl) (λ first soon. refl) tt (solved-here times more solved spoke last))
  after-copy one b more earlier from led_is solved heard same before answers all hands alike also (inr pairs) =
      lost s spoke last b more heard.delivery (subst (λ l. ArrivesThere heard.delivery l b.answered.heard) same heard.arrives) pairs

  -- one that hears nothing of the frame
  deaf-copy : (b : AnsweredAt) (more : List AnsweredAt) → Deaf times Then b → There times Then (written spoke last) more ⊎ Pairs (s ∷ spoke) last more → There times Then (written spoke last) (b ∷ more) ⊎ Pairs (s ∷ spoke) last (b ∷ more)
  deaf-copy b more deaf (inl left) = inl (inl (deaf, left))
  deaf-copy b more deaf (inr pairs) = inr (lost s spoke last b more Lost (bad-lost s.spoke.wrote b.answered.heard deaf.0) pairs)

  pub to-the-last : (answered earlier : List AnsweredAt) (from : ℕ) (copies : List WroteAt) → Led from → AllSolved times answered → There times Then (copies ++ written spoke last) answered → Copies s.spoke.wrote s.at copies →
      AnswersInTime times from answered → AllBy from earlier → HandsLeft times (others_of drops) (earlier ++ answered) spoke → AcksAgain a.answered (answers_of answered) → AnswersAlike (answers_of answered) →
      There times Then (written spoke last) answered ⊎ Pairs (s ∷ spoke) last answered
  to-the-last [] earlier from copies led_is solved there are answers all hands acks alike = inl tt
  to-the-last (b ∷ more) earlier from copies led_is solved (inl (deaf, there)) are answers all hands acks alike =
      let x = answers.0 in let y = answers.1 in let z = answers.2 in
      let all_b = all-more b.at earlier b (all-later from b.at earlier (omega (arith, x, y, z)) all) (omega arith) in
      let hands_b = subst (λ l. HandsLeft times (others_of drops) l spoke) (sym (append_assoc earlier (b ∷ []) more)) hands in
      deaf-copy b more deaf (to-the-last more (earlier ++ b ∷ []) b.at copies (omega (arith, led_is, x, y, z)) solved.1 there are answers.4 all_b hands_b (acks.0 deaf.0) alike.2)
  to-the-last (b ∷ more) earlier from copies led_is solved (inr (one, behind, takes, heard, there)) are answers all hands acks alike =
      let x = answers.0 in let y = answers.1 in let z = answers.2 in
      let all_b = all-more b.at earlier b (all-later from b.at earlier (omega (arith, x, y, z)) all) (omega arith) in
      let hands_b = subst (λ l. HandsLeft times (others_of drops) l spoke) (sym (append_assoc earlier (b ∷ []) more)) hands in
      let led_b : Led b.at = omega (arith, led_is, x, y, z) in
      elim (either-taken copies (written spoke last) one behind takes) [
        | inl found ↦
            let copy = taken-copy s.spoke.wrote s.at copies one found.0 are found.1 in
            let there_b = subst (λ l. There times Then l more) found.2 there in
            elim (is-bad b.answered.heard) [
              | inl bad ↦
                  let young = heard.fresh.young in let acts = answers.3 in let before = copy.0.1 in
                  deaf-copy b more (bad, inr (omega (arith, young, acts, before))) (to-the-last more (earlier ++ b ∷ []) b.at found.0 led_b solved.1 there_b copy.1 answers.4 all_b hands_b (acks.0 bad) alike.2)
              | inr some ↦
                  let same_heard = heard-is begins heard.delivery s.spoke.wrote b.answered.heard (subst (λ l. ArrivesThere heard.delivery l b.answered.heard) copy.0.0 heard.arrives) some in
                  let says = acks.1 (same_heard ∙ sym hears) in
                  inr (after-copy one b more earlier from led_is solved.1 heard copy.0.0 copy.0.1 answers all_b hands_b says.0 alike.2
                  (to-the-last more (earlier ++ b ∷ []) b.at found.0 led_b solved.1 there_b copy.1 answers.4 all_b hands_b says.1 alike.2))
            ]
        | inr other ↦ inl (inr (one, behind, other, heard, there))
      ]

-- ---- A sender that counts the ACKs that it drops: behind as many as there were copies none is under way

module _ (times : Times) (begins : Begins) (extra : ℕ) (drops : List ℕ) (s next : SpokeAt) (spoke : List SpokeAt) (last : WroteAt) (a : AnsweredAt) (back : Delivery)
    (speaks : SpeaksInTime times s.by (next ∷ spoke) last) (ends : s.at ≤ s.by) (reads : ArrivesBack back a.answered.wrote s.spoke.came) (hears : a.answered.heard ≡ heard_of s.spoke.wrote)
    (again : SaysAgain (spoken (s ∷ next ∷ spoke)) last.bytes) (led : ℕ) (clears : ClearsFrom times led extra drops (s ∷ next ∷ spoke)) where
  abbrev Here : List AnsweredAt → Type 0
  Here answered = Pairs (s ∷ next ∷ spoke) last answered

  abbrev LedBy : ℕ → Type 0
  LedBy from = led_by s.spoke.came s.by led ≤ from + times.oldest

  abbrev Behind : List WroteAt → List AnsweredAt → Type 0
  Behind copies answered = There times s.at (copies ++ written (next ∷ spoke) last) answered

  -- what is heard before it writes next is a copy
  is-copy : (copies : List WroteAt) (one : WroteAt) (rest : List WroteAt) (b : AnsweredAt) → Takes (copies ++ written (next ∷ spoke) last) one rest → BringsThere times one b → b.by < next.at → (left : List WroteAt) × Takes copies one left × (rest ≡ left ++ written (next ∷ spoke) last)
  is-copy copies one rest b takes heard before =
      elim (either-taken copies (written (next ∷ spoke) last) one rest takes) [
        | inl found ↦ found
        | inr other ↦
            let x = write-since times next.at (next ∷ spoke) last one rest (omega arith, omega arith, speaks.2, speaks.3) other in let y = heard.fresh.later in absurd (omega (arith, x, y, before))
      ]

  -- one that is not the last
  counts-on : (b : AnsweredAt) (more : List AnsweredAt) (there : Delivery) → ArrivesThere there s.spoke.wrote b.answered.heard → Here more → Here (b ∷ more)
  counts-on b more there arrives pairs = lost s (next ∷ spoke) last b more there arrives pairs

  -- the last
  counts-last : (b : AnsweredAt) (more : List AnsweredAt) (from : ℕ) (copies : List WroteAt) (there : Delivery) → ArrivesThere there s.spoke.wrote b.answered.heard → b.answered.wrote ≡ a.answered.wrote → copies ≡ [] → Behind copies more → LedBy b.at → AllSolved times more →
      AnswersInTime times b.at more → AnswersAlike (answers_of more) → HandsLeft times (others_of drops) more (next ∷ spoke) → Here (b ∷ more)
  counts-last b more from copies there arrives says none hands led_is solved answers alike left =
      let first = speaks.0 in
      both s (next ∷ spoke) last b more there back arrives (subst (λ r. ArrivesBack back r s.spoke.came) (sym says) reads)
      (next-goes times extra drops led s last s.at b.at [] more ends answers led_is tt alike (next ∷ spoke) speaks (omega (arith, ends, first)) (subst (λ l. Behind l more) none hands) left again clears (inl refl) (λ first soon. refl) tt (solved-here times more solved (next ∷ spoke) last))

  pub count-down : (answered left : List AnsweredAt) (n from : ℕ) (copies : List WroteAt) → length copies ≤ suc n → LedBy from → AllSolved times answered → Behind copies answered → Copies s.spoke.wrote s.at copies → AnswersInTime times from answered →
      Drops (next ∷ spoke) (suc n) answered left → HandsLeft times (others_of drops) left (next ∷ spoke) → AcksAgain a.answered (answers_of answered) → AnswersAlike (answers_of answered) → Here answered
  count-down [] left n from copies short led_is solved there are answers (one, behind, takes, ack, before, others) hands acks alike = absurd takes
  -- its reply is none of those that were dropped
  count-down (b ∷ more) left n from copies short led_is solved (inl (deaf, there)) are answers (one, behind, inr takes, ack, before, others) hands acks alike =
      let x = answers.0 in let y = answers.1 in let z = answers.2 in
      counts-on b more Lost (bad-lost s.spoke.wrote b.answered.heard deaf.0)
      (count-down more left n b.at copies short (omega (arith, led_is, x, y, z)) solved.1 there are answers.4 (one, behind, takes, ack, before, others) hands (acks.0 deaf.0) alike.2)
  count-down (b ∷ more) left n from copies short led_is solved (inr (frame, rest, taken, heard, there)) are answers (one, behind, inr takes, ack, before, others) hands acks alike =
      let x = answers.0 in let y = answers.1 in let z = answers.2 in
      let w = answer-behind times from b more one behind answers (inr takes) in
      let found = is-copy copies frame rest b taken heard (omega (arith, w, before)) in
      let copy = taken-copy s.spoke.wrote s.at copies frame found.0 are found.1 in
      let arrives = subst (λ l. ArrivesThere heard.delivery l b.answered.heard) copy.0.0 heard.arrives in
      counts-on b more heard.delivery arrives
      (count-down more left n b.at found.0 (let less = shorter (suc n) copies frame found.0 found.1 (omega (arith, short)) in less) (omega (arith, led_is, x, y, z)) solved.1 (subst (λ l. There times s.at l more) found.2 there) copy.1 answers.4
      (one, behind, takes, ack, before, others) hands (elim (is-bad b.answered.heard) [ inl bad ↦ acks.0 bad | inr some ↦ (acks.1 (heard-is begins heard.delivery s.spoke.wrote b.answered.heard arrives some ∙ sym hears)).1 ]) alike.2)
  -- it is
  count-down (b ∷ more) left n from copies short led_is solved (inl (deaf, there)) are answers (one, behind, inl same, ack, before, others) hands acks alike =
      absurd ((alike.0 (subst (λ (y : AnsweredAt). IsAck y.answered.wrote) same.0 ack)).0 deaf.0)
  count-down (b ∷ more) left zero from copies short led_is solved (inr (frame, rest, taken, heard, there)) are answers (one, behind, inl same, ack, before, others) hands acks alike =
      let x = answers.0 in let y = answers.1 in let z = answers.2 in
      let some = (alike.0 (subst (λ (y : AnsweredAt). IsAck y.answered.wrote) same.0 ack)).0 in
      let soon = subst (λ (y : AnsweredAt). y.at < next.at) same.0 before in
      let found = is-copy copies frame rest b taken heard (omega (arith, z, soon)) in
      let copy = taken-copy s.spoke.wrote s.at copies frame found.0 are found.1 in
      let arrives = subst (λ l. ArrivesThere heard.delivery l b.answered.heard) copy.0.0 heard.arrives in
      let says = acks.1 (heard-is begins heard.delivery s.spoke.wrote b.answered.heard arrives some ∙ sym hears) in
      let there_b = subst (λ l. There times s.at l more) found.2 there in
      let led_b : LedBy b.at = omega (arith, led_is, x, y, z) in
      let left_b = subst (λ l. HandsLeft times (others_of drops) l (next ∷ spoke)) (others ∙ same.1) hands in
      counts-last b more from found.0 heard.delivery arrives says.0 (none-left found.0 (shorter 0 copies frame found.0 found.1 short)) there_b led_b solved.1 answers.4 alike.2 left_b
  count-down (b ∷ more) left (suc m) from copies short led_is solved (inr (frame, rest, taken, heard, there)) are answers (one, behind, inl same, ack, before, others) hands acks alike =
      let x = answers.0 in let y = answers.1 in let z = answers.2 in
      let some = (alike.0 (subst (λ (y : AnsweredAt). IsAck y.answered.wrote) same.0 ack)).0 in
      let soon = subst (λ (y : AnsweredAt). y.at < next.at) same.0 before in
      let found = is-copy copies frame rest b taken heard (omega (arith, z, soon)) in
      let copy = taken-copy s.spoke.wrote s.at copies frame found.0 are found.1 in
      let arrives = subst (λ l. ArrivesThere heard.delivery l b.answered.heard) copy.0.0 heard.arrives in
      let says = acks.1 (heard-is begins heard.delivery s.spoke.wrote b.answered.heard arrives some ∙ sym hears) in
      let there_b = subst (λ l. There times s.at l more) found.2 there in
      let led_b : LedBy b.at = omega (arith, led_is, x, y, z) in
      counts-on b more heard.delivery arrives
      (count-down more left m b.at found.0 (shorter (suc m) copies frame found.0 found.1 short) led_b solved.1 there_b copy.1 answers.4 (subst (λ l. Drops (next ∷ spoke) (suc m) l left) same.1 others) hands says.1 alike.2)

abbrev pub CountedOn : ℕ → ℕ → SpokeAt → List SpokeAt → Type 0
CountedOn more dropped s [] = ⊥
CountedOn more dropped s (next ∷ spoke) = IsCounted more dropped s next

pub counts : (times : Times) (begins : Begins) (extra : ℕ) (drops : List ℕ) (s : SpokeAt) (spoke : List SpokeAt) (last : WroteAt) (a : AnsweredAt) (back : Delivery) → SpeaksInTime times s.by spoke last → s.at ≤ s.by → ArrivesBack back a.answered.wrote s.spoke.came →
    a.answered.heard ≡ heard_of s.spoke.wrote → SaysAgain (spoken (s ∷ spoke)) last.bytes → (led : ℕ) → ClearsFrom times led extra drops (s ∷ spoke) → (k n : ℕ) → CountedOn (suc k) n s spoke → (answered left : List AnsweredAt) (from : ℕ) (copies : List WroteAt) →
    length copies ≤ suc k → led_by s.spoke.came s.by led ≤ from + times.oldest → AllSolved times answered → There times s.at (copies ++ written spoke last) answered → Copies s.spoke.wrote s.at copies → AnswersInTime times from answered → Drops spoke n answered left →
    HandsLeft times (others_of drops) left spoke → AcksAgain a.answered (answers_of answered) → AnswersAlike (answers_of answered) → Pairs (s ∷ spoke) last answered
counts times begins extra drops s [] last a back speaks ends reads hears again led clears k n counted answered left from copies short led_is solved there are in_time dropped hands acks alike = absurd counted
counts times begins extra drops s (next ∷ spoke) last a back speaks ends reads hears again led clears k zero counted answered left from copies short led_is solved there are in_time dropped hands acks alike =
    let each = counted.each in absurd (omega (arith, each))
counts times begins extra drops s (next ∷ spoke) last a back speaks ends reads hears again led clears k (suc n) counted answered left from copies short led_is solved there are in_time dropped hands acks alike =
    let each = counted.each in
    count-down times begins extra drops s next spoke last a back speaks ends reads hears again led clears answered left n from copies (omega (arith, each, short)) led_is solved there are in_time dropped hands acks alike
