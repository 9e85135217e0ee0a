use Rattle.std.proofs.Common.{◌≡◌, ◌⊎◌, ◌+◌, ◌-◌, ◌*◌, ◌^◌, ◌<◌, ◌≤◌, ◌&&◌, inl, inr, ℕ, zero, suc, min, max, nat_eq, nat_lt, nat_le, not, Bool, true, false, List, [], ◌∷◌, refl, sym, subst, arith}
use Rattle.ym_timing.specs.Clears.{answers_until, apart_until, is_whole, overdue_at, quiet_of, several_until}
use Rattle.ym_timing.specs.Pace.{bound}
use Rattle.ym_heard.specs.Times.{later}
use Rattle.ym_timing.specs.Writing.{asked_within, is_overdue, is_soon, is_unproven, late_by, likely_by, prompted_by, soon, soon_by}
use Rattle.ym_timing.specs.declared.out.Owed.{Owed}
use Rattle.ym_timing.specs.declared.out.Owed.TheVariants as owed
use Rattle.ym_timing.specs.declared.pace.Trust.{Trust}
use Rattle.ym_timing.specs.declared.pace.Trust.TheVariants.{Unknown, Doubtful, Sure}
use Rattle.ym_timing.specs.declared.role.Role.{Role}
use Rattle.ym_timing.specs.declared.role.Role.TheVariants.{Sender}
use Rattle.ym_timing.specs.declared.timing.Timing.{Timing}
use Rattle.ym_delay.specs.Cleared.{ClearsFrom, IsAlone, IsCounted, IsSoon, first_of, led_by, others_of}
use Rattle.ym_delay.specs.Rule.{CopiesLate, CopiesLikely, CopiesSoon, CountsByRule, GoesOn, HasSeenTheWay, IsSeen, Reaches, RuledFrom, WaitsByRule, span_of}
use Rattle.ym_delay.specs.TimedLine.{SpokeAt, Times}
use Rattle.ym_delay.proofs.Quiet.{at-most}
use Rattle.ym_delay.proofs.laws.rule.the_rule_lets_a_line_clear.Goals as goal

-- ---- Behind several writes

-- so much later is not too soon
later-enough : (goal from wait : ℕ) → goal ≤ from + wait → goal < 2 ^ 64 → goal ≤ later from wait
later-enough goal from wait long within = omega (arith, long, within)

apart-enough : (goal from gap wait : ℕ) → goal ≤ from + gap + wait → goal < 2 ^ 64 → goal ≤ later (later from (min (gap * 1) (2 ^ 64 - 1))) wait
apart-enough goal from gap wait long within = omega (arith, long, within)

first-enough : (goal a b c : ℕ) → goal ≤ a → goal ≤ max a (min b c)
first-enough goal a b c enough = omega (arith, enough)

both-enough : (goal a b c : ℕ) → goal ≤ b → goal ≤ c → goal ≤ max a (min b c)
both-enough goal a b c one other = omega (arith, one, other)

ends-enough : (goal a b next : ℕ) → goal ≤ a → goal ≤ b → min a b ≤ next → goal ≤ next
ends-enough goal a b next one other ends = omega (arith, one, other, ends)

module _ (span at next : ℕ) (rule : WaitsByRule span at next) where
  stored : span ≤ bound rule.timing.pace → at + span ≤ answers_until rule.timing
  stored seen = let last = rule.last in let within = rule.within in omega (arith, last, seen, within)

  overdue : (trust : Trust) → IsSeen trust span rule.timing → at + span ≤ apart_until 1 rule.timing.heard.answered_at rule.timing → at + span ≤ overdue_at trust rule.timing.heard.answered_at rule.timing
  overdue Unknown seen apart = apart
  overdue Doubtful seen apart = stored seen
  overdue Sure seen apart = stored seen

  quiet : at + span ≤ rule.timing.heard.answered_at + 1250 → at + span ≤ later rule.timing.heard.answered_at (quiet_of rule.timing.role)
  quiet short = subst (λ r. at + span ≤ later rule.timing.heard.answered_at (quiet_of r)) (sym rule.role) (later-enough (at + span) rule.timing.heard.answered_at 1250 short rule.within)

  clears : Reaches span at rule.timing → at + span ≤ several_until 1 rule.timing.heard.answered_at rule.timing
  clears (inl short) = first-enough (at + span) _ _ _ (quiet short)
  clears (inr (long, within, seen)) =
      let apart = apart-enough (at + span) rule.timing.heard.answered_at rule.timing.out.gap 2000 long rule.within in
      both-enough (at + span) _ _ _ apart (overdue rule.timing.pace.trust seen apart)

  -- no longer than a minute
  short-of : Reaches span at rule.timing → at + span ≤ rule.began + 60000
  short-of (inl short) = let before = rule.before in omega (arith, short, before)
  short-of (inr (long, within, seen)) = let acked = rule.acked in let before = rule.before in omega (arith, within, acked, before)

  several : at + span ≤ next
  several = ends-enough (at + span) _ _ next (clears rule.reaches) (later-enough (at + span) rule.began 60000 (short-of rule.reaches) rule.within) rule.clear

pub returns-clause-several : goal.returns-clause-several
returns-clause-several c span at next rule = several span at next rule

pub returns-clause-quiet : goal.returns-clause-quiet
returns-clause-quiet c span at t acked short = inl (omega (arith, acked, short))

pub returns-clause-twice : goal.returns-clause-twice
returns-clause-twice c soonest span at t sooner two short within seen = inr (omega (arith, sooner, two, short), within, seen)

-- ---- Behind an answer that was overdue

late-is : (r : Role) (o : Owed) (trust : Trust) (t : Timing) → late_by r o trust t ≡ true → is_overdue t ≡ true
late-is Sender owed.One Sure t late = late
late-is Sender owed.Late Sure t late = late
late-is _ _ _ t late = absurd (cc)

second-is : (a b : Bool) → (a && b) ≡ true → b ≡ true
second-is true b both = both
second-is false b both = absurd (cc)

late-enough : (span at next : ℕ) → CopiesLate span at next → at + span ≤ next
late-enough span at next copies =
    let t = copies.timing in
    let due : later t.out.last_at (bound t.pace) ≤ t.heard.since = at-most (later t.out.last_at (bound t.pace)) t.heard.since (second-is (nat_lt 0 t.heard.count) (nat_le (later t.out.last_at (bound t.pace)) t.heard.since) (late-is t.role t.out.owed t.pace.trust t copies.late)) in
    let last = copies.last in
    let seen = copies.seen in
    let long = later-enough (at + span) t.out.last_at (bound t.pace) (omega (arith, last, seen)) copies.within in
    let since = copies.since in
    omega (arith, due, long, since)

pub returns-clause-late : goal.returns-clause-late
returns-clause-late c span at next copies = late-enough span at next copies

-- ---- Behind an ask that came soon

soon-enough : (trust : Trust) (oldest : ℕ) (t : Timing) → 1750 + oldest ≤ 3000 → HasSeenTheWay trust oldest t → soon_by trust t.pace.slowest + oldest ≤ 3000
soon-enough Unknown oldest t near seen = near
soon-enough Doubtful oldest t near seen = omega (arith, near, seen)
soon-enough Sure oldest t near seen = omega (arith, near, seen)

pub returns-clause-soon : goal.returns-clause-soon
returns-clause-soon c oldest t near seen = soon-enough t.pace.trust oldest t near seen

soon-is : (r : Role) (o : Owed) (t : Timing) → r ≡ Sender → prompted_by r o t ≡ true → is_soon t ≡ true
soon-is Sender owed.One t role prompted = second-is (not (is_unproven t)) (is_soon t) prompted
soon-is Sender owed.Late t role prompted = second-is (not (is_unproven t)) (is_soon t) prompted
soon-is _ _ t role prompted = absurd (cc)

likely-is : (o : Owed) (trust : Trust) (t : Timing) → likely_by o trust t ≡ true → asked_within 2250 t ≡ true
likely-is owed.One Unknown t likely = second-is _ (asked_within 2250 t) likely
likely-is _ _ t likely = absurd (cc)

is-asked : (times : Times) (led : ℕ) (s : SpokeAt) (long : ℕ) (t : Timing) → asked_within long t ≡ true → (s.spoke.came ≡ [] → ⊥) → t.led_at ≤ led → s.by ≤ t.heard.since → long + times.oldest ≤ times.receiver_waits → IsSoon times led s
is-asked times led s long t asked some before by waits =
    let short = at-most _ _ (second-is (nat_eq t.heard.waits 0) (nat_le (t.heard.since - t.led_at) long) (second-is (nat_lt 0 t.heard.count) _ asked)) in
    record { some = some; soon = omega (arith, short, by, before, waits) }

is-soon : (times : Times) (led : ℕ) (s : SpokeAt) → CopiesSoon times led s ⊎ CopiesLikely times led s → IsSoon times led s
is-soon times led s (inl c) = is-asked times led s (soon c.timing) c.timing (soon-is c.timing.role c.timing.out.owed c.timing c.role c.prompted) c.some c.led_at c.since c.waits
is-soon times led s (inr c) = is-asked times led s 2250 c.timing (likely-is c.timing.out.owed c.timing.pace.trust c.timing c.likely) c.some c.led_at c.since c.waits

-- ---- Behind as many ACKs as there were copies

both-are : (a b : Bool) → (a && b) ≡ true → (a ≡ true) × (b ≡ true)
both-are true b both = (refl, both)
both-are false b both = absurd (cc)

none-owed : (owed : ℕ) → nat_eq owed 0 ≡ true → owed ≡ 0
none-owed owed is = grind (arith, is)

enough-dropped : (more copies owed dropped : ℕ) → owed ≡ 0 → more ≤ copies → copies ≤ owed + dropped → more ≤ dropped
enough-dropped more copies owed dropped none few counted = omega (arith, none, few, counted)

is-counted : (more dropped : ℕ) (s next : SpokeAt) → CountsByRule more dropped s next → IsCounted more dropped s next
is-counted more dropped s next counts =
    let c = counts.purge in
    let t = counts.timing in
    let is = both-are (is_whole c.heed t) (nat_eq c.owed 0) counts.answered in
    record { acked = counts.acked; other = counts.other; each = enough-dropped more (t.out.copies - 1) c.owed dropped (none-owed c.owed is.1) counts.copies counts.counted }

-- ---- A sender that goes by the rule

module _ (times : Times) where
  abbrev Span : ℕ
  Span = span_of times

  over : (at next : ℕ) → at + Span ≤ next → at + times.oldest + times.receiver_acts + times.oldest ≤ next
  over at next long = omega (arith, long)

  alone : (led more dropped : ℕ) (s next : SpokeAt) → GoesOn times led more dropped s next → IsAlone times led more dropped s next
  alone led zero dropped s next goes = λ same. elim (goes same) [ inl late ↦ inl (over s.at next.at (late-enough Span s.at next.at late)) | inr soon ↦ inr (is-soon times led s soon) ]
  alone led (suc more) dropped s next (inl silent) = inl silent
  alone led (suc more) dropped s next (inr (inl rule)) = inr (inl (over s.at next.at (several Span s.at next.at rule)))
  alone led (suc more) dropped s next (inr (inr counts)) = inr (inr (is-counted (suc more) dropped s next counts))

  lets : (led more : ℕ) (drops : List ℕ) (spoke : List SpokeAt) → RuledFrom times led more drops spoke → ClearsFrom times led more drops spoke
  lets led more drops [] rule = tt
  lets led more drops (s ∷ []) rule = tt
  lets led more drops (s ∷ next ∷ spoke) (inl (goes, rule)) = inl (alone led more (first_of drops) s next goes, lets (led_by s.spoke.came s.by led) 0 (others_of drops) (next ∷ spoke) rule)
  lets led more drops (s ∷ next ∷ spoke) (inr (same, rule)) = inr (same, lets (led_by s.spoke.came s.by led) (suc more) (others_of drops) (next ∷ spoke) rule)

pub returns-clause-lets : goal.returns-clause-lets
returns-clause-lets c times spoke answered rule = inr (record { drops = rule.drops; back = rule.back; clears = lets times 0 0 rule.drops spoke rule.ruled })
