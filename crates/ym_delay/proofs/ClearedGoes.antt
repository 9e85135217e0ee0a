-- A sender that has written its frame, and lets the line clear: it goes on, and may write a copy of it.
use Rattle.std.proofs.Common.{◌≡◌, ◌+◌, ◌≤◌, ◌⊎◌, inl, inr, ℕ, zero, suc, List, [], ◌∷◌, ◌++◌, append_assoc, length, refl, sym, subst, arith}
use Rattle.ym_delay.specs.Cleared.{AnswersAlike, ClearsFrom, HandsLeft, IsAlone, IsSoon, SaysAgain, first_of, led_by, others_of}
use Rattle.ym_delay.specs.TimedLine.{AnsweredAt, AnswersInTime, SpeaksInTime, SpokeAt, Takes, Times, WroteAt, answers_of, spoken, wrote, written}
use Rattle.ym_delay.proofs.Cleared.{Copies, There, alone, later-copies, more-copies, none-of-nothing, there-later}
use Rattle.ym_delay.proofs.Timed.{Pairs}

-- ---- A sender that has written its frame

-- what was written then is over at this moment
abbrev pub IsPast : Times → ℕ → ℕ → Type 0
IsPast times at now = at + times.oldest + times.receiver_acts + times.oldest ≤ now

-- all copies are over but the last ones, so many
abbrev pub Most : Times → ℕ → ℕ → List WroteAt → Type 0
Most times n now [] = Unit {0}
Most times n now (w ∷ copies) = (IsPast times w.at now × Most times n now copies) ⊎ (length (w ∷ copies) ≤ n)

short-most : (times : Times) (n now : ℕ) (copies : List WroteAt) → length copies ≤ n → Most times n now copies
short-most times n now [] short = tt
short-most times n now (w ∷ copies) short = inr short

one-longer : (copies : List WroteAt) (w : WroteAt) (n : ℕ) → length copies ≤ n → length (copies ++ w ∷ []) ≤ suc n
one-longer [] w n short = omega arith
one-longer (x ∷ copies) w zero short = absurd (omega (arith, short))
one-longer (x ∷ copies) w (suc n) short = let rest = one-longer copies w n (omega (arith, short)) in omega (arith, rest)

-- one more behind those that are over
pub one-more : (times : Times) (bytes : List ℕ) (by now : ℕ) (copies : List WroteAt) (w : WroteAt) → Copies bytes by copies → IsPast times by now → Most times 1 now (copies ++ w ∷ [])
one-more times bytes by now [] w are past = inr (omega arith)
one-more times bytes by now (x ∷ copies) w are past = (let first = are.0.1 in inl (omega (arith, first, past), one-more times bytes by now copies w are.1 past))

-- one more copy
most-more : (times : Times) (n now then : ℕ) (copies : List WroteAt) (w : WroteAt) → now ≤ then → Most times n now copies → Most times (suc n) then (copies ++ w ∷ [])
most-more times n now then [] w before most = inr (omega arith)
most-more times n now then (x ∷ copies) w before (inl (past, most)) = inl (omega (arith, past, before), most-more times n now then copies w before most)
most-more times n now then (x ∷ copies) w before (inr short) = inr (one-longer (x ∷ copies) w n short)

-- one of them is taken
pub shorter : (n : ℕ) (copies : List WroteAt) (one : WroteAt) (rest : List WroteAt) → Takes copies one rest → length copies ≤ suc n → length rest ≤ n
shorter n [] one rest takes short = absurd takes
shorter n (w ∷ copies) one rest (inl same) short = subst (λ l. length l ≤ n) (sym same.1) (omega (arith, short))
shorter n (w ∷ copies) one rest (inr takes) short = shorter n copies one rest takes (omega (arith, short))

pub most-left : (times : Times) (n now : ℕ) (copies : List WroteAt) (one : WroteAt) (rest : List WroteAt) → Takes copies one rest → Most times n now copies → Most times n now rest
most-left times n now [] one rest takes most = absurd takes
most-left times n now (w ∷ copies) one rest (inl same) (inl (past, most)) = subst (Most times n now) (sym same.1) most
most-left times n now (w ∷ copies) one rest (inr takes) (inl (past, most)) = most-left times n now copies one rest takes most
most-left times n now (w ∷ copies) one rest takes (inr short) = short-most times n now rest (shorter n (w ∷ copies) one rest takes (omega (arith, short)))

-- one that is not over: fewer are behind it
pub most-taken : (times : Times) (n now : ℕ) (copies : List WroteAt) (one : WroteAt) (rest : List WroteAt) → Most times (suc n) now copies → Takes copies one rest → (IsPast times one.at now → ⊥) → length rest ≤ n
most-taken times n now [] one rest most takes late = absurd takes
most-taken times n now (w ∷ copies) one rest (inl (past, most)) (inl same) late = absurd (late (subst (λ (y : WroteAt). IsPast times y.at now) (sym same.0) past))
most-taken times n now (w ∷ copies) one rest (inl (past, most)) (inr takes) late = most-taken times n now copies one rest most takes late
most-taken times n now (w ∷ copies) one rest (inr short) takes late = shorter n (w ∷ copies) one rest takes short

pub none-left : (copies : List WroteAt) → length copies ≤ 0 → copies ≡ []
none-left [] short = refl
none-left (w ∷ copies) short = absurd (omega (arith, short))

pub record Stand (times : Times) (extra : ℕ) (drops : List ℕ) (led since from : ℕ) (s : SpokeAt) (spoke : List SpokeAt) (last : WroteAt) (copies : List WroteAt) (answered : List AnsweredAt) : Type 0 where
  pub speaks : SpeaksInTime times since (s ∷ spoke) last
  pub answers : AnswersInTime times from answered
  pub are : Copies s.spoke.wrote s.at copies
  pub led_is : led ≤ from + times.oldest  -- what came last was written by then
  pub there : There times s.at (copies ++ written spoke last) answered
  pub back : HandsLeft times drops answered (s ∷ spoke)
  pub again : SaysAgain (spoken (s ∷ spoke)) last.bytes
  pub clears : ClearsFrom times led extra drops (s ∷ spoke)
  pub few : Most times (suc extra) s.at copies
  pub alike : AnswersAlike (answers_of answered)

-- it goes on with these
abbrev pub Goes : Times → List SpokeAt → WroteAt → List AnsweredAt → Type 0
Goes times [] last answered = Unit {0}
Goes times (s ∷ spoke) last answered = (extra : ℕ) (drops : List ℕ) (led since from : ℕ) (copies : List WroteAt) → Stand times extra drops led since from s spoke last copies answered → Pairs (s ∷ spoke) last answered

abbrev pub Solved : Times → List AnsweredAt → Type 0
Solved times answered = (spoke : List SpokeAt) (last : WroteAt) → Goes times spoke last answered

-- with fewer replies too
abbrev pub AllSolved : Times → List AnsweredAt → Type 0
AllSolved times [] = Solved times []
AllSolved times (a ∷ answered) = Solved times (a ∷ answered) × AllSolved times answered

pub solved-here : (times : Times) (answered : List AnsweredAt) → AllSolved times answered → Solved times answered
solved-here times [] solved = solved
solved-here times (a ∷ answered) solved = solved.0

-- what is written next
abbrev pub following : List SpokeAt → WroteAt → List ℕ
following [] last = last.bytes
following (s ∷ spoke) last = s.spoke.wrote

-- a sender that goes on from this moment at the earliest
abbrev pub StartsBy : ℕ → List SpokeAt → Type 0
StartsBy by [] = Unit {0}
StartsBy by (next ∷ spoke) = by ≤ next.at

-- what came last
pub led-most : (came : List ℕ) (by led most : ℕ) → led ≤ most → by ≤ most → led_by came by led ≤ most
led-most [] by led most before reads = before
led-most (byte ∷ came) by led most before reads = reads

-- it goes on to what it writes next, of which these are copies, or there is none
module _ (times : Times) (s : SpokeAt) (led : ℕ) (drops : List ℕ) where
  -- it writes other bytes, or nothing that it wrote before is under way
  next-alone : (next : SpokeAt) (spoke : List SpokeAt) (last : WroteAt) (from : ℕ) (answered : List AnsweredAt) → SpeaksInTime times s.by (next ∷ spoke) last → AnswersInTime times from answered → led ≤ from + times.oldest →
      There times next.at (written (next ∷ spoke) last) answered → HandsLeft times drops answered (next ∷ spoke) → SaysAgain (spoken (next ∷ spoke)) last.bytes → (more : ℕ) → ClearsFrom times led more drops (next ∷ spoke) → AnswersAlike (answers_of answered) →
      Goes times (next ∷ spoke) last answered → Pairs (next ∷ spoke) last answered
  next-alone next spoke last from answered speaks answers led_is there back again more clears alike goes = goes more drops led s.by from (wrote next ∷ []) (record {
    speaks = speaks;
    answers = answers;
    are = ((refl, omega arith), tt);
    led_is = led_is;
    there = there;
    back = back;
    again = again;
    clears = clears;
    few = inr (omega arith);
    alike = alike;
  })

  -- it writes the same once more
  next-copy : (next : SpokeAt) (spoke : List SpokeAt) (last : WroteAt) (from : ℕ) (copies : List WroteAt) (answered : List AnsweredAt) → s.at ≤ s.by → SpeaksInTime times s.by (next ∷ spoke) last →
      AnswersInTime times from answered → led ≤ from + times.oldest → Copies s.spoke.wrote s.at copies → There times next.at (copies ++ written (next ∷ spoke) last) answered → HandsLeft times drops answered (next ∷ spoke) →
      SaysAgain (spoken (next ∷ spoke)) last.bytes → (more : ℕ) → ClearsFrom times led more drops (next ∷ spoke) → AnswersAlike (answers_of answered) → next.spoke.wrote ≡ s.spoke.wrote → Most times (suc more) next.at (copies ++ wrote next ∷ []) →
      Goes times (next ∷ spoke) last answered → Pairs (next ∷ spoke) last answered
  next-copy next spoke last from copies answered ends speaks answers led_is are there back again more clears alike same few goes =
      let first = speaks.0 in
      let earlier = later-copies s.spoke.wrote s.at next.at copies (omega (arith, ends, first)) are in
      goes more drops led s.by from (copies ++ wrote next ∷ []) (record {
        speaks = speaks;
        answers = answers;
        are = more-copies next.spoke.wrote next.at copies (wrote next) (subst (λ l. Copies l next.at copies) (sym same) earlier) refl (omega arith);
        led_is = led_is;
        there = subst (λ l. There times next.at l answered) (sym (append_assoc copies (wrote next ∷ []) (written spoke last))) there;
        back = back;
        again = again;
        clears = clears;
        few = few;
        alike = alike;
      })

-- where what came was soon, no copy is left
abbrev pub Settled : Times → ℕ → ℕ → SpokeAt → List WroteAt → Type 0
Settled times led extra s copies = extra ≡ 0 → IsSoon times led s → copies ≡ []

one-alone : (times : Times) (now : ℕ) (w : WroteAt) (copies : List WroteAt) → copies ≡ [] → Most times 1 now (copies ++ w ∷ [])
one-alone times now w copies none = subst (λ l. Most times 1 now (l ++ w ∷ [])) (sym none) (inr (omega arith))

module _ (times : Times) (extra : ℕ) (drops : List ℕ) (led : ℕ) (s : SpokeAt) (last : WroteAt) (now from : ℕ) (copies : List WroteAt) (answered : List AnsweredAt) (ends : s.at ≤ s.by) (answers : AnswersInTime times from answered)
    (led_is : led_by s.spoke.came s.by led ≤ from + times.oldest) (are : Copies s.spoke.wrote s.at copies) (alike : AnswersAlike (answers_of answered)) where
  abbrev Led : ℕ
  Led = led_by s.spoke.came s.by led

  abbrev Others : List ℕ
  Others = others_of drops

  module _ (next : SpokeAt) (spoke : List SpokeAt) (speaks : SpeaksInTime times s.by (next ∷ spoke) last) (there : There times next.at (copies ++ written (next ∷ spoke) last) answered) (back : HandsLeft times Others answered (next ∷ spoke))
      (again : SaysAgain (spoken (next ∷ spoke)) last.bytes) (goes : Goes times (next ∷ spoke) last answered) where
    abbrev Onward : Type 0
    Onward = Pairs (next ∷ spoke) last answered

    afresh : copies ≡ [] → (more : ℕ) → ClearsFrom times Led more Others (next ∷ spoke) → Onward
    afresh none more clears = next-alone times s Led Others next spoke last from answered speaks answers led_is (subst (λ l. There times next.at (l ++ written (next ∷ spoke) last) answered) none there) back again more clears alike goes

    once-more : next.spoke.wrote ≡ s.spoke.wrote → (more : ℕ) → ClearsFrom times Led more Others (next ∷ spoke) → Most times (suc more) next.at (copies ++ wrote next ∷ []) → Onward
    once-more same more clears few = next-copy times s Led Others next spoke last from copies answered ends speaks answers led_is are there back again more clears alike same few goes

    one-alike : next.spoke.wrote ≡ s.spoke.wrote → (b : ℕ) → IsAlone times led b (first_of drops) s next → (b ≡ 0 → IsSoon times led s → copies ≡ []) → ClearsFrom times Led 0 Others (next ∷ spoke) → Onward
    one-alike same zero alone settled clears =
        elim (alone same) [
          | inl over ↦ once-more same 0 clears (one-more times s.spoke.wrote s.at next.at copies (wrote next) are over)
          | inr soon ↦ once-more same 0 clears (one-alone times next.at (wrote next) copies (settled refl soon))
        ]
    one-alike same (suc b) (inl silent) settled clears =
        next-alone times s Led Others next spoke last from answered speaks answers led_is (none-of-nothing times next.at s.spoke.wrote s.at copies (written (next ∷ spoke) last) answered silent are there) back again 0 clears alike goes
    one-alike same (suc b) (inr (inl past)) settled clears = once-more same 0 clears (one-more times s.spoke.wrote s.at next.at copies (wrote next) are past)
    one-alike same (suc b) (inr (inr counted)) settled clears = absurd (counted.other same)

    onward-by : ClearsFrom times led extra drops (s ∷ next ∷ spoke) → (copies ≡ []) ⊎ (next.spoke.wrote ≡ s.spoke.wrote) → Settled times led extra s copies → Most times (suc extra) s.at copies → Onward
    onward-by (inl clears) (inl none) settled most = afresh none 0 clears.1
    onward-by (inr clears) (inl none) settled most = afresh none (suc extra) clears.1
    onward-by (inl clears) (inr same) settled most = one-alike same extra clears.0 settled clears.1
    onward-by (inr clears) (inr same) settled most = let first = speaks.0 in once-more same (suc extra) clears.1 (most-more times (suc extra) s.at next.at copies (wrote next) (omega (arith, ends, first)) most)

  pub next-goes : (spoke : List SpokeAt) → SpeaksInTime times s.by spoke last → StartsBy now spoke → There times now (copies ++ written spoke last) answered → HandsLeft times Others answered spoke → SaysAgain (spoken (s ∷ spoke)) last.bytes →
      ClearsFrom times led extra drops (s ∷ spoke) → (copies ≡ []) ⊎ (following spoke last ≡ s.spoke.wrote) → Settled times led extra s copies → Most times (suc extra) s.at copies → Goes times spoke last answered → Pairs spoke last answered
  next-goes [] speaks starts there back again clears (inl none) settled most goes = alone times now last.bytes last.at (last ∷ []) answered ((refl, omega arith), tt) (subst (λ l. There times now (l ++ last ∷ []) answered) none there)
  next-goes [] speaks starts there back again clears (inr same) settled most goes =
      let earlier = later-copies s.spoke.wrote s.at last.at copies (omega (arith, ends, speaks)) are in
      alone times now last.bytes last.at (copies ++ last ∷ []) answered (more-copies last.bytes last.at copies last (subst (λ l. Copies l last.at copies) (sym same) earlier) refl (omega arith)) there
  next-goes (next ∷ spoke) speaks starts there back again clears moves settled most goes =
      onward-by next spoke speaks (there-later times now next.at (copies ++ written (next ∷ spoke) last) answered starts there) back again.1 goes clears moves settled most
