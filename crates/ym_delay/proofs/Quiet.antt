-- A read for a reply that finds nothing ends no sooner than its wait is over.
use Rattle.std.proofs.Common.{◌≡◌, ◌+◌, ◌-◌, ◌≤◌, ◌⊎◌, ◌&&◌, inl, inr, ℕ, zero, suc, max, nat_lt, nat_le, Bool, true, false, if◌then◌else◌, List, [], ◌∷◌, ◌++◌, length, length-append, Option, Some, None, refl, subst, arith}
use Rattle.ym_link.specs.Port.{Seen, Data, Silence, End, Failed, read_gives}
use Rattle.ym_port.specs.TimedPort.{Step, Read, behind, brings_of, ends, ends_at, hears, heard_in, is_over, looked, passed, step, step_by, vain_answers}
unfoldable use Rattle.ym_port.specs.TimedPort.{reads}
use Rattle.ym_port.specs.Wire.{Tape, after_moment, after_read, moment_of}
use Rattle.ym_port.specs.declared.deed.Deed.{Deed}
use Rattle.ym_port.specs.declared.deed.Deed.TheVariants.{Looked, Waited}
use Rattle.ym_port.specs.declared.line.Line.{Line}
use Rattle.ym_timing.specs.ByteRows.{after_bytes}
use Rattle.ym_timing.specs.Pace as pace
use Rattle.ym_heard.specs.Times.{later}
use Rattle.ym_timing.specs.Timing.{after_by, after_byte, after_vain, controlled, is_early, holds_a_moment, is_acked, listened_to, part, takes, until}
use Rattle.ym_heard.specs.declared.limits.TheConstants.{WITHIN}
use Rattle.ym_heard.specs.declared.hold.Say.{Say}
use Rattle.ym_heard.specs.declared.hold.Say.TheVariants as say
use Rattle.ym_timing.specs.declared.pace.Pace.{Pace}
use Rattle.ym_timing.specs.declared.pace.Trust.{Trust}
use Rattle.ym_timing.specs.declared.pace.Trust.TheVariants.{Unknown, Doubtful, Sure}
use Rattle.ym_timing.specs.declared.role.Role.{Role}
use Rattle.ym_timing.specs.declared.role.Role.TheVariants.{Sender, Receiver}
use Rattle.ym_timing.specs.declared.timing.Timing.{Timing}
use Rattle.ym_timing.specs.declared.timing.Vain.TheVariants as vain
use Rattle.ym_timing.specs.declared.timing.Expected.TheVariants.{Reply}

pub either : {A : Type 0} (P : A → Type 0) (b : Bool) (x y : A) → (b ≡ true → P x) → (b ≡ false → P y) → P (if b then x else y)
either P true x y this that = this refl
either P false x y this that = that refl

-- ---- How long is waited stays while nothing is written

module _ (w : ℕ) where
  abbrev Waits : Timing → Type 0
  Waits t = pace.wait t.role t.pace ≡ w

  takes-waits : (s : Say) (byte now : ℕ) (t : Timing) → Waits t → Waits (takes s byte now t)
  takes-waits say.Nothing byte now t is = is
  takes-waits say.Byte byte now t is = is
  takes-waits say.AckAndByte byte now t is = is
  takes-waits say.Start byte now t is = is

  by-waits : (r : Role) (byte : ℕ) (written : List ℕ) (now : ℕ) (t : Timing) → Waits t → Waits (after_by r byte written now t)
  by-waits Sender byte written now t is =
      either Waits (listened_to byte written now t).is_heard _ _ (λ _. takes-waits (controlled byte now (record t { ear = (listened_to byte written now t).ear })).say byte now _ is) (λ _. is)
  by-waits Receiver byte written now t is = either Waits _ _ _ (λ _. is) (λ _. is)

  bytes-wait : (bytes written : List ℕ) (now : ℕ) (t : Timing) → Waits t → Waits (after_bytes bytes written now t)
  bytes-wait [] written now t is = is
  bytes-wait (byte ∷ bytes) written now t is = bytes-wait bytes written now (after_byte byte written now t) (by-waits t.role byte written now t is)

  vain-waits : (now : ℕ) (t : Timing) → Waits t → Waits (after_vain Reply now t)
  vain-waits now t is = either Waits (is_acked t) _ _ (λ _. is) (λ _. either Waits (is_early Reply t) _ _ (λ _. is) (λ _. is))

-- ---- When a wait is over

limit : (held last early : Bool) (moment patient whole other : ℕ) → (last && held) ≡ false → early ≡ false →
    whole ≤ (if held then (if last then moment else max (if early then patient else whole) other) else (if early then patient else whole))
limit true true early moment patient whole other none late = absurd (cc)
limit true false true moment patient whole other none late = absurd (cc)
limit true false false moment patient whole other none late = omega arith
limit false last true moment patient whole other none late = absurd (cc)
limit false last false moment patient whole other none late = omega arith

-- not an ACK that is held, and the last part of a wait
over-by : (start : ℕ) (t : Timing) → is_acked t ≡ false → is_early Reply t ≡ false → later start (pace.wait t.role t.pace) ≤ until Reply start t
over-by start t none late =
    limit t.hold.is_held (holds_a_moment t.sent.kind) (is_early Reply t) _ (later start (part t)) (later start (pace.wait t.role t.pace)) (later t.hold.at WITHIN) none late

pub at-most : (a b : ℕ) → nat_le a b ≡ true → a ≤ b
at-most a b is = grind (arith, is)

pub longest : (deed : Deed) (done : List Deed) → length done + 1 ≤ length (done ++ deed ∷ [])
longest deed done = let is = length-append done (deed ∷ []) in omega (arith, is)

pub longer : (deed : Deed) (count : ℕ) (done : List Deed) → count + 1 ≤ length done → count + 1 ≤ length (done ++ deed ∷ [])
longer deed count done more = let one = longest deed done in omega (arith, more, one)

-- ---- One read of the line

module _ (w start : ℕ) where
  -- it goes on, or it answers that the line is quiet no sooner than that
  abbrev After : ℕ → Option Seen → Line → Tape → Type 0
  After count None l t = Waits w l.timing × (count + 1 ≤ length t.done)
  After count (Some seen) l t = seen ≡ Silence → later start w ≤ l.clock.at

  abbrev Fine : ℕ → Step → Type 0
  Fine count s = After count s.answer s.line s.tape

  ends-by : (last early : Bool) (x y z : Timing) (count : ℕ) (l : Line) (t : Tape) → Waits w x → Waits w y → Waits w z → count + 1 ≤ length t.done →
      (last ≡ false → early ≡ false → later start w ≤ l.clock.at) →
      After count (vain_answers (if last then vain.Ack else (if early then vain.Again else vain.Quiet))) (record l { timing = if last then x else (if early then y else z) }) t
  ends-by true early x y z count l t is_x is_y is_z more bound = λ quiet. absurd (cc)
  ends-by false true x y z count l t is_x is_y is_z more bound = (is_y, more)
  ends-by false false x y z count l t is_x is_y is_z more bound = λ quiet. bound refl refl

  ends-fine : (count : ℕ) (l : Line) (t : Tape) → Waits w l.timing → until Reply start l.timing ≤ l.clock.at → count + 1 ≤ length t.done → Fine count (ends Reply l t)
  ends-fine count l t is over more =
      ends-by (is_acked l.timing) (is_early Reply l.timing) _ _ _ count l t is is is more
      (λ none late. let whole = over-by start l.timing none late in let long = subst (λ x. later start x ≤ until Reply start l.timing) is whole in omega (arith, long, over))

  brings-fine : (heard : List ℕ) (count : ℕ) (l : Line) (t : Tape) → Waits w l.timing → count + 1 ≤ length t.done → Fine count (brings_of heard Reply start l t)
  brings-fine [] count l t is more = either (Fine count) (is_over Reply start l) _ _ (λ over. ends-fine count l t is (at-most _ _ over) more) (λ _. (is, more))
  brings-fine (b ∷ heard) count l t is more = λ quiet. absurd (cc)

  closed-fine : (last : Bool) (bound : Type 0) → (if last then Data (0x06 ∷ []) else End) ≡ Silence → bound
  closed-fine true bound quiet = absurd (cc)
  closed-fine false bound quiet = absurd (cc)

  step-fine-by : (seen : Seen) (count : ℕ) (l : Line) (t : Tape) → Waits w l.timing → count + 1 ≤ length t.done → Fine count (step_by seen Reply start l t)
  step-fine-by (Data bytes) count l t is more =
      brings-fine (heard_in bytes (looked (moment_of t) l)) count (hears bytes (looked (moment_of t) l)) (after_moment t) (bytes-wait w bytes l.written _ l.timing is) (longer Looked count t.done more)
  step-fine-by Silence count l t is more =
      ends-fine count (passed (ends_at Reply start l) (moment_of t) l) (after_moment t) is (omega arith) (longer Looked count t.done more)
  step-fine-by End count l t is more = λ quiet. closed-fine (is_acked l.timing) _ quiet
  step-fine-by Failed count l t is more = λ quiet. absurd (cc)

  step-fine : (room : ℕ) (l : Line) (t : Tape) → Waits w l.timing → Fine (length t.done) (step Reply start room l t)
  step-fine room l t is =
      step-fine-by (read_gives room t.coming) (length t.done) l (after_read (ends_at Reply start l - l.clock.at) room t) is (longest (Waited (ends_at Reply start l - l.clock.at)) t.done)

  -- ---- The whole read

  abbrev Over : ℕ → Read → Type 0
  Over count r = r.seen ≡ Silence → (later start w ≤ r.line.clock.at) ⊎ (count ≤ length r.tape.done)

  behind-over : (on : Line → Tape → Read) (answer : Option Seen) (count less : ℕ) (l : Line) (t : Tape) → After count answer l t →
      ((l : Line) (t : Tape) → Waits w l.timing → Over (length t.done + less) (on l t)) → Over (count + suc less) (behind on answer l t)
  behind-over on (Some seen) count less l t fine goes = λ quiet. inl (fine quiet)
  behind-over on None count less l t fine goes =
      λ quiet. elim (goes l t fine.0 quiet) [ inl bound ↦ inl bound | inr out ↦ inr (let more = fine.1 in omega (arith, out, more)) ]

  pub reads-over : (more room : ℕ) (l : Line) (t : Tape) → Waits w l.timing → Over (length t.done + more) (reads more Reply start room l t)
  unfolding reads
  reads-over zero room l t is = λ quiet. inr (omega arith)
  reads-over (suc less) room l t is =
      behind-over (reads less Reply start room) (step Reply start room l t).answer (length t.done) less (step Reply start room l t).line (step Reply start room l t).tape (step-fine room l t is) (λ l t is. reads-over less room l t is)

-- ---- What is waited for at least

within-longest : (r : Role) → pace.first_wait r ≤ 60000
within-longest Sender = omega arith
within-longest Receiver = omega arith

by-trust : (r : Role) (trust : Trust) (slowest : ℕ) → pace.first_wait r ≤ pace.wait r (record { slowest = slowest; trust = trust })
by-trust r Unknown slowest = omega arith
by-trust r Doubtful slowest = let within = within-longest r in omega (arith, within)
by-trust r Sure slowest = let within = within-longest r in omega (arith, within)

pub first-at-least : (r : Role) (p : Pace) → pace.first_wait r ≤ pace.wait r p
first-at-least r p = by-trust r p.trust p.slowest

pub no-room : (room : ℕ) (b : Bool) → 2 ≤ room → (nat_lt room 2 && b) ≡ true → ⊥
no-room room b some none = grind (arith, some, none)
