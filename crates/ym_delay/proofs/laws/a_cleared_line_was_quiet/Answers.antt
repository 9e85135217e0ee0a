use Rattle.std.proofs.Common.{◌≡◌, ◌≤◌, ◌⊎◌, ◌∙◌, inl, inr, ℕ, min, max, List, Ok, refl, ap, subst, arith}
use Rattle.ym_port.specs.declared.line.TheConstants.{MOST_READS}
use Rattle.ym_port.specs.TimedPort.{Cleared, clears_for, looked}
use Rattle.ym_port.specs.Wire.{Tape, after_moment, moment_of}
use Rattle.ym_port.specs.declared.deed.Deed.TheVariants.{Looked}
use Rattle.ym_port.specs.declared.line.Line.{Line}
use Rattle.ym_timing.specs.Clears as clears
use Rattle.ym_heard.specs.Times.{later}
use Rattle.ym_timing.specs.declared.purge.Purge.{Purge}
use Rattle.ym_timing.specs.declared.role.Role.TheVariants.{Sender}
use Rattle.ym_delay.specs.QuietReads.{IsOverAtOnce, IsSeveral, IsSpent, began}
use Rattle.ym_delay.proofs.Clear.{Clears, clears-on}
use Rattle.ym_delay.proofs.Quiet.{either, longest}
use Rattle.ym_delay.proofs.laws.a_cleared_line_was_quiet.Goals as goal

module _ (bytes : List ℕ) (l : Line) (t : Tape) (sender : l.timing.role ≡ Sender) (several : IsSeveral bytes l t) (before : l.timing.heard.answered_at ≤ began l t) where
  counted : clears.counted_from (clears.purge bytes (began l t) l.timing).need l.timing ≡ l.timing.heard.answered_at
  counted = ap (λ r. clears.counted_by r (clears.purge bytes (began l t) l.timing).need l.timing) sender ∙ ap (λ n. clears.counted_by Sender n l.timing) several

  purge-is : Clears l.timing.heard.answered_at (later (began l t) 60000) l.timing (clears.purge bytes (began l t) l.timing) l.timing
  purge-is = record {
    same = record { role = refl; pace = refl; out = refl; sent = refl; refused = refl };
    need = several;
    from = either (λ x. l.timing.heard.answered_at ≤ x) (clears.was_held_up (began l t) l.timing) (began l t) _ (λ _. before) (λ _. omega (arith, counted));
    end_is = refl;
  }

  abbrev Clear : Cleared → Purge → Type 0
  Clear e found = IsOverAtOnce found e.line ⊎ (IsSpent t e.tape ⊎ (min (clears.several_until 1 l.timing.heard.answered_at l.timing) (later (began l t) 60000) ≤ e.line.clock.at))

  clear : (found : Purge) → (clears_for bytes l t).answer ≡ Ok found → Clear (clears_for bytes l t) found
  clear found ok =
      let ends = clears-on l.timing.heard.answered_at (later (began l t) 60000) l.timing MOST_READS found (clears.purge bytes (began l t) l.timing) (looked (moment_of t) l) (after_moment t) (omega (arith, before)) before
      purge-is ok in
      elim ends.is [ inl now ↦ inl now | inr rest ↦ elim rest [ inl spent ↦ inr (inl (let one = longest Looked t.done in omega (arith, spent, one))) | inr quiet ↦ inr (inr quiet) ] ]

  -- 1.25 seconds in any case
  at-least : later l.timing.heard.answered_at 1250 ≤ clears.several_until 1 l.timing.heard.answered_at l.timing
  at-least =
      let quiet : later l.timing.heard.answered_at (clears.quiet_of l.timing.role) ≡ later l.timing.heard.answered_at 1250 = ap (λ r. later l.timing.heard.answered_at (clears.quiet_of r)) sender in
      subst (λ n. n ≤ clears.several_until 1 l.timing.heard.answered_at l.timing) quiet (most _ _ _)
    where
      most : (a b c : ℕ) → a ≤ max a (min b c)
      most a b c = omega arith

least : (a b end now : ℕ) → a ≤ b → min b end ≤ now → min a end ≤ now
least a b end now fewer is = omega (arith, fewer, is)

pub returns-clause-by_rule : goal.returns-clause-by_rule
returns-clause-by_rule c bytes l t found sender several before ok = clear bytes l t sender several before found ok

pub returns-clause-quiet : goal.returns-clause-quiet
returns-clause-quiet c bytes l t found sender several before ok =
    elim (clear bytes l t sender several before found ok) [
      | inl now ↦ inl now
      | inr rest ↦ elim rest [ inl spent ↦ inr (inl spent) | inr is ↦ inr (inr (least _ _ (later (began l t) 60000) _ (at-least bytes l t sender several before) is)) ]
    ]
