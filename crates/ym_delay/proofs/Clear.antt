-- A sender's line that is let clear was quiet for a while, by the port's clock.
use Rattle.std.proofs.Common.{◌≡◌, ◌+◌, ◌-◌, ◌*◌, ◌^◌, ◌≤◌, ◌⊎◌, ◌&&◌, ◌||◌, inl, inr, ℕ, zero, suc, min, max, nat_le, nat_eq, Bool, true, false, List, [], ◌∷◌, length, Result, Ok, Err, refl, sym, subst, arith}
use Rattle.std.proofs.Math.Nat.{mul-le-mul_left}
use Rattle.ym_link.specs.Port.{Seen, Data, Silence, End, Failed, read_gives}
use Rattle.ym_link.specs.declared.port.PortFault.{PortFault}
use Rattle.ym_port.specs.TimedPort.{Cleared, Dropped, clear_on, clear_step, dropped, is_clear, looked, over}
unfoldable use Rattle.ym_port.specs.TimedPort.{cleared}
use Rattle.ym_port.specs.Wire.{Tape, after_moment, after_read, moment_of}
use Rattle.ym_port.specs.declared.deed.Deed.TheVariants.{Looked, Waited}
use Rattle.ym_port.specs.declared.line.Line.{Line}
use Rattle.ym_port.specs.declared.line.TheConstants.{CLEAR_PIECE}
use Rattle.ym_timing.specs.Clears as clears
use Rattle.ym_timing.specs.Pace.{bound}
use Rattle.ym_heard.specs.Times.{later, waited}
use Rattle.ym_timing.specs.declared.purge.Purge.{Purge}
use Rattle.ym_timing.specs.declared.purge.Need.TheVariants.{Several}
use Rattle.ym_timing.specs.declared.pace.Pace.{Pace}
use Rattle.ym_timing.specs.declared.pace.Trust.{Trust}
use Rattle.ym_timing.specs.declared.pace.Trust.TheVariants.{Unknown, Doubtful, Sure}
use Rattle.ym_timing.specs.declared.role.Role.{Role}
use Rattle.ym_timing.specs.declared.role.Role.TheVariants.{Sender, Receiver}
use Rattle.ym_timing.specs.declared.timing.Timing.{Timing}
use Rattle.ym_delay.specs.QuietReads.{IsOverAtOnce}
use Rattle.ym_delay.proofs.Quiet.{at-most, either, longest}

-- ---- How long it has to be quiet stays, or grows

-- what the rule goes by in a line that is let clear stays
pub record Same (first t : Timing) : Type 0 where
  pub role : t.role ≡ first.role
  pub pace : t.pace ≡ first.pace
  pub out : t.out ≡ first.out
  pub sent : t.sent ≡ first.sent
  pub refused : t.is_refused ≡ first.is_refused

ear-same : (r : Role) (byte : ℕ) (written : List ℕ) (now : ℕ) (first t : Timing) → Same first t → Same first (clears.with_ear r byte written now t)
ear-same Sender byte written now first t is = record { role = is.role; pace = is.pace; out = is.out; sent = is.sent; refused = is.refused }
ear-same Receiver byte written now first t is = is

dropped-same : (c : Purge) (byte : ℕ) (written : List ℕ) (now : ℕ) (first t : Timing) → Same first t → Same first (clears.after_dropped c byte written now t)
dropped-same c byte written now first t is =
    let ear = ear-same t.role byte written now first t is in either (λ (x : Timing). Same first x) (clears.is_heard byte written now t) _ _ (λ _. record { role = ear.role; pace = ear.pace; out = ear.out; sent = ear.sent; refused = ear.refused }) (λ _. ear)

-- ---- Several writes: since a later ACK it takes no less

both-more : (a b c x y z : ℕ) → a ≤ x → b ≤ y → c ≤ z → max a (min b c) ≤ max x (min y z)
both-more a b c x y z one two three = omega (arith, one, two, three)

later-more : (a b wait : ℕ) → a ≤ b → later a wait ≤ later b wait
later-more a b wait before = omega (arith, before)

module _ (first t : Timing) (is : Same first t) (since from : ℕ) (before : since ≤ from) where
  apart-more : (many : ℕ) → 1 ≤ many → clears.apart_until 1 since first ≤ clears.apart_until many from t
  apart-more many one = let more = mul-le-mul_left first.out.gap one in rw is.out (omega (arith, before, more))

  due-more : (trust : Trust) → clears.overdue_at trust since first ≤ clears.overdue_at trust from t
  due-more Unknown = apart-more 1 (omega arith)
  due-more Doubtful = rw (is.role, is.out, is.pace, is.sent, is.refused) (omega arith)
  due-more Sure = rw (is.role, is.out, is.pace, is.sent, is.refused) (omega arith)

  several-more : (many : ℕ) → 1 ≤ many → clears.several_until 1 since first ≤ clears.several_until many from t
  several-more many one =
      both-more _ _ _ _ _ _ (subst (λ r. later since (clears.quiet_of first.role) ≤ later from (clears.quiet_of r)) (sym is.role) (later-more since from (clears.quiet_of first.role) before)) (apart-more many one)
      (subst (λ (p : Pace). clears.overdue_at first.pace.trust since first ≤ clears.overdue_at p.trust from t) (sym is.pace) (due-more first.pace.trust))

module _ (since end : ℕ) (first : Timing) where
  -- a sender that clears behind several writes, since then at the earliest
  pub record Clears (c : Purge) (t : Timing) : Type 0 where
    pub same : Same first t
    pub need : c.need ≡ Several
    pub from : since ≤ c.from
    pub end_is : c.end_at ≡ end

  brings-clears : (counts answers : Bool) (now : ℕ) (c : Purge) (t : Timing) → since ≤ now → Clears c t → Clears (clears.brings counts answers now c) t
  brings-clears counts answers now c t before is =
      record { same = is.same; need = is.need; from = either (λ x. since ≤ x) counts now c.from (λ _. before) (λ _. is.from); end_is = is.end_is }

  brought-clears : (heard : Bool) (c : Purge) (byte now : ℕ) (t : Timing) → since ≤ now → Clears c t → Clears (clears.brought heard c byte now t) t
  brought-clears heard c byte now t before is = brings-clears (heard && nat_eq byte 0x06 || clears.counts_all t.role c.need) (heard && nat_eq byte 0x06) now c t before is

  byte-clears : (c : Purge) (byte : ℕ) (written : List ℕ) (now : ℕ) (t : Timing) → since ≤ now → Clears c t → Clears (clears.dropped c byte written now t) (clears.after_dropped c byte written now t)
  byte-clears c byte written now t before is =
      let kept = either (λ x. Clears x t) (clears.is_heard byte written now t) (clears.heeds_in t.role byte (clears.brought true c byte now t)) (clears.brought false c byte now t)
      (λ _. let one = brought-clears true c byte now t before is in record { same = one.same; need = one.need; from = one.from; end_is = one.end_is }) (λ _. brought-clears false c byte now t before is) in
      record { same = dropped-same c byte written now first t is.same; need = kept.need; from = kept.from; end_is = kept.end_is }

  bytes-clear : (bytes written : List ℕ) (now : ℕ) (d : Dropped) → since ≤ now → Clears d.purge d.timing → Clears (dropped bytes written now d).purge (dropped bytes written now d).timing
  bytes-clear [] written now d before is = is
  bytes-clear (b ∷ bytes) written now d before is =
      bytes-clear bytes written now (record { purge = clears.dropped d.purge b written now d.timing; timing = clears.after_dropped d.purge b written now d.timing }) before
      (byte-clears d.purge b written now d.timing before is)

  -- ---- When it is clear

  abbrev pub Quiet : Purge → Line → Type 0
  Quiet c l = IsOverAtOnce c l ⊎ (min (clears.several_until 1 since first) end ≤ l.clock.at)

  quiet-by : (whole until from now : ℕ) → whole ≡ min until end → from ≤ until → whole ≤ now → min from end ≤ now
  quiet-by whole until from now is long late = omega (arith, is, long, late)

  pub bounded : (c : Purge) (l : Line) → Clears c l.timing → clears.clear_at c l.timing ≤ l.clock.at → Quiet c l
  bounded c l is late = by l.timing.has_cancel refl (clears.is_answered c l.timing) refl
    where
      by : (cancel : Bool) → l.timing.has_cancel ≡ cancel → (answered : Bool) → clears.is_answered c l.timing ≡ answered → Quiet c l
      by true cancels answered is_answered = inl (record { is = inr (inl cancels) })
      by false cancels true is_answered = inl (record { is = inr (inr is_answered) })
      by false cancels false is_answered =
          let whole : clears.clear_at c l.timing ≡ min (clears.several_until (max c.owed 1) c.from l.timing) end = rw (cancels, is.need, is_answered, is.end_is) refl in
          inr (quiet-by _ _ _ _ whole (several-more first l.timing is.same since c.from is.from (max c.owed 1) (omega arith)) late)

  -- ---- The whole of it

  pub record Ends (count : ℕ) (found : Purge) (e : Cleared) : Type 0 where
    pub is : IsOverAtOnce found e.line ⊎ ((count ≤ length e.tape.done) ⊎ (min (clears.several_until 1 since first) end ≤ e.line.clock.at))

  abbrev Goes : ℕ → Purge → Cleared → Type 0
  Goes count found e = e.answer ≡ Ok found → Ends count found e

  or-is : (a b : Bool) → (a || b) ≡ true → (a ≡ true) ⊎ (b ≡ true)
  or-is true b is = inl refl
  or-is false b is = inr is

  same-found : (c found : Purge) → ◌≡◌ {A = Result Purge PortFault} (Ok c) (Ok found) → c ≡ found
  same-found c found is = cc

  never-failed : (e : PortFault) (found : Purge) → ◌≡◌ {A = Result Purge PortFault} (Err e) (Ok found) → ⊥
  never-failed e found is = cc

  is-over : (count : ℕ) (found c : Purge) (l : Line) (t : Tape) → Clears c l.timing → is_clear c l ≡ true → Goes count found (over c l t)
  is-over count found c l t is clear ok =
      subst (λ x. Ends count x (over c l t)) (same-found c found ok) (
      elim (or-is l.is_closed (nat_le (clears.clear_at c l.timing) l.clock.at) clear) [
        | inl closed ↦ record { is = inl (record { is = inl closed }) }
        | inr late ↦ elim (bounded c l is (at-most _ _ late)) [ inl now ↦ record { is = inl now } | inr quiet ↦ record { is = inr (inr quiet) } ]
      ]
      )

  more-ends : (count less : ℕ) (found : Purge) (e : Cleared) → count ≤ less → Ends less found e → Ends count found e
  more-ends count less found e fewer ends =
      elim ends.is [
        | inl now ↦ record { is = inl now }
        | inr rest ↦ elim rest [ inl spent ↦ record { is = inr (inl (omega (arith, fewer, spent))) } | inr quiet ↦ record { is = inr (inr quiet) } ]
      ]

  -- behind one read
  once : (less : ℕ) (found : Purge) (seen : Seen) (until count : ℕ) (c : Purge) (l : Line) (t : Tape) → since ≤ 2 ^ 64 - 1 → since ≤ l.clock.at → Clears c l.timing → count + 1 ≤ length t.done →
      ((c : Purge) (l : Line) (t : Tape) → since ≤ l.clock.at → Clears c l.timing → Goes (length t.done + less) found (cleared less c l t)) →
      Goes (count + suc less) found (clear_on (cleared less) (clear_step seen c until l t).answer (clear_step seen c until l t).line (clear_step seen c until l t).tape)
  once less found (Data bytes) until count c l t within before is more goes =
      let now : since ≤ (looked (moment_of t) l).clock.at = omega (arith, within, before) in
      let tape = longest Looked t.done in
      λ ok. more-ends _ _ found _ (omega (arith, more, tape))
      (goes _ _ (after_moment t) now (bytes-clear bytes l.written (looked (moment_of t) l).clock.at (record { purge = c; timing = l.timing }) now is) ok)
  once less found Silence until count c l t within before is more goes =
      let tape = longest Looked t.done in
      λ ok. more-ends _ _ found _ (omega (arith, more, tape)) (goes c (record l { clock = waited until (moment_of t) l.clock }) (after_moment t) (omega (arith, within, before)) is ok)
  once less found End until count c l t within before is more goes = λ ok. more-ends _ _ found _ (omega (arith, more)) (goes c (record l { is_closed = true }) t before is ok)
  once less found Failed until count c l t within before is more goes = λ ok. absurd (never-failed _ found ok)

  pub clears-on : (more : ℕ) (found c : Purge) (l : Line) (t : Tape) → since ≤ 2 ^ 64 - 1 → since ≤ l.clock.at → Clears c l.timing → Goes (length t.done + more) found (cleared more c l t)
  unfolding cleared
  clears-on zero found c l t within before is = λ ok. record { is = inr (inl (omega arith)) }
  clears-on (suc less) found c l t within before is =
      either (Goes (length t.done + suc less) found) (is_clear c l) _ _ (λ clear. is-over (length t.done + suc less) found c l t is clear)
      (λ _. once less found (read_gives CLEAR_PIECE t.coming) (clears.clear_at c l.timing) (length t.done) c l (after_read (clears.clear_at c l.timing - l.clock.at) CLEAR_PIECE t) within before is
      (longest (Waited (clears.clear_at c l.timing - l.clock.at)) t.done) (λ c l t before is. clears-on less found c l t within before is))
