use Rattle.std.proofs.Common.{◌≡◌, ◌≤◌, ◌⊎◌, inl, inr, ℕ, refl, arith}
use Rattle.ym_link.specs.Port.{Silence}
use Rattle.ym_link.specs.declared.port.Wait.TheVariants as asked
use Rattle.ym_port.specs.declared.line.TheConstants.{MOST_READS}
use Rattle.ym_port.specs.TimedPort.{Read, has_no_room, looked, room_for, waits}
use Rattle.ym_port.specs.Wire.{Tape, after_moment, moment_of}
use Rattle.ym_port.specs.declared.deed.Deed.TheVariants.{Looked}
use Rattle.ym_port.specs.declared.line.Line.{Line}
use Rattle.ym_timing.specs.Pace.{first_wait, wait}
use Rattle.ym_heard.specs.Times.{later}
use Rattle.ym_delay.specs.QuietReads.{IsSpent, began}
use Rattle.ym_delay.proofs.Quiet.{either, first-at-least, longest, no-room, reads-over}
use Rattle.ym_delay.proofs.laws.a_quiet_read_waited.Goals as goal

module _ (room : ℕ) (l : Line) (t : Tape) where
  abbrev Waited : Read → Type 0
  Waited r = r.seen ≡ Silence → (later (began l t) (first_wait l.timing.role) ≤ r.line.clock.at) ⊎ IsSpent t r.tape

  waited : (some : ℕ) → Waited (waits asked.Reply some l t)
  waited some = λ quiet.
      elim (reads-over (wait l.timing.role l.timing.pace) (began l t) MOST_READS some (looked (moment_of t) l) (after_moment t) refl quiet) [
        | inl bound ↦ inl (let least = first-at-least l.timing.role l.timing.pace in omega (arith, bound, least))
        | inr out ↦ inr (let one = longest Looked t.done in omega (arith, out, one))
      ]

pub returns-clause-waited : goal.returns-clause-waited
returns-clause-waited c room l t some =
    either (Waited room l t) (has_no_room room l) _ _ (λ none. absurd (no-room room _ some none))
    (λ _. either (Waited room l t) l.timing.has_cancel _ _ (λ _. (λ quiet. absurd (cc)))
    (λ _. either (Waited room l t) l.is_closed _ _ (λ _. (λ quiet. absurd (cc))) (λ _. waited room l t (room_for l.timing.role room))))
