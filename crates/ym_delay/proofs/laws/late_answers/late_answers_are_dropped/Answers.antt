use Rattle.std.proofs.Common.{◌≡◌, ◌<◌, ◌≤◌, ◌||◌, ℕ, zero, suc, max, nat_le, Bool, true, false, List, [], ◌∷◌, length, refl, arith}
use Rattle.std.proofs.lemmas.Bool.{le-leb, le-ltb}
use Rattle.ym_link.specs.Port.{Data, read_gives, read_leaves}
use Rattle.ym_link.specs.declared.event.Event.{Event}
use Rattle.ym_link.specs.declared.event.Event.TheVariants as event
use Rattle.ym_port.specs.TimedPort.{is_clear, over, passed}
unfoldable use Rattle.ym_port.specs.TimedPort.{cleared}
use Rattle.ym_port.specs.Wire.{Tape}
use Rattle.ym_port.specs.declared.deed.Deed.{Deed}
use Rattle.ym_port.specs.declared.line.Line.{Line}
use Rattle.ym_port.specs.declared.line.TheConstants.{CLEAR_PIECE}
use Rattle.ym_timing.specs.Clears.{clear_at}
use Rattle.ym_timing.specs.declared.purge.Purge.{Purge}
use Rattle.ym_delay.specs.LateAnswers.{AreLate, Late, LeavesOff, brings, purge_after, purge_behind, line_after, line_behind, pieces}
use Rattle.ym_delay.proofs.laws.late_answers.late_answers_are_dropped.Goals as goal

whole : (bytes : List ℕ) (rest : List Event) → 1 ≤ length bytes → length bytes ≤ CLEAR_PIECE → (read_gives CLEAR_PIECE (event.Piece bytes ∷ rest) ≡ Data bytes) × (read_leaves CLEAR_PIECE (event.Piece bytes ∷ rest) ≡ rest)
whole [] rest some fits = absurd (omega (arith, some))
whole (b ∷ bytes) rest some fits = rw (le-ltb CLEAR_PIECE (length (b ∷ bytes)) fits) (refl, refl)

waited-long : (closed : Bool) (now end : ℕ) → (closed || nat_le end (max now end)) ≡ true
waited-long true now end = refl
waited-long false now end = le-leb end (max now end) (omega arith)

stays : (less : ℕ) (c : Purge) (l : Line) (t : Tape) → is_clear c l ≡ true → cleared less c l t ≡ over c l t
unfolding cleared
stays zero c l t clear = refl
stays (suc less) c l t clear = rw clear refl

module _ (at : ℕ) (rest : Tape) where
  drops : (late : List Late) (reads : ℕ) (c : Purge) (l : Line) (done : List Deed) → AreLate c l late → length late < reads → is_clear (purge_behind c l late) (line_behind c l late) ≡ false → LeavesOff (purge_behind c l late) (line_behind c l late) at rest (cleared reads c l (brings late at (record rest { done = done })))
  unfolding cleared
  drops late zero c l done are few unclear = absurd (omega (arith, few))
  drops [] (suc less) c l done are few unclear =
      let clear : is_clear c (passed (clear_at c l.timing) at l) ≡ true = waited-long l.is_closed _ (clear_at c l.timing) in
      rw (unclear, stays less c (passed (clear_at c l.timing) at l) _ clear) (record { answer = refl; line = refl; clear = clear; coming = refl; moments = refl })
  drops (one ∷ others) (suc less) c l done are few unclear =
      let is = whole one.bytes (pieces others (event.Quiet ∷ rest.coming)) are.0.some are.0.fits in
      rw (are.0.early, is.0, is.1) (drops others less (purge_after one c l) (line_after one c l) _ are.1 (omega (arith, few)) unclear)

pub returns : goal.returns
returns c reads start l late at rest are few unclear = drops at rest late reads start l rest.done are few unclear
