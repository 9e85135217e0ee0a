-- A line that is let clear, read by read.
use Rattle.std.proofs.Common.{◌≡◌, ◌<◌, ◌≤◌, ◌-◌, ◌+◌, ℕ, zero, suc, List, length, get_or, drop, true, false, Result, Ok, Err, refl, sym, ◌∙◌, ap, arith, add-one}
use Rattle.std.proofs.Math.Seq.{drop-cons}
use Rattle.ym_link.specs.declared.port.PortFault.{PortFault}
use Rattle.ym_port.specs.declared.line.TheConstants.{MOST_READS}
use Rattle.ym_port.specs.TimedPort.{Cleared, Dropped, clears_for, looked, clear_on, clear_once, dropped, dropped_of, drops_byte, is_clear, over}
unfoldable use Rattle.ym_port.specs.TimedPort.{cleared}
use Rattle.ym_port.specs.Wire.{Tape, moment_of, after_moment}
use Rattle.ym_port.specs.declared.line.Line.{Line}
use Rattle.ym_timing.specs.Clears as clears
use Rattle.ym_timing.specs.declared.purge.Purge.{Purge}
use Rattle.ym_timing.specs.declared.timing.Timing.{Timing}

-- one byte more
pub dropped-step : (bytes : List ℕ) (i now : ℕ) (written : List ℕ) (d : Dropped) → i < length bytes
    → dropped (drop i bytes) written now d
    ≡ dropped (drop (i + 1) bytes) written now (record {
      purge = clears.dropped d.purge (get_or bytes i 0) written now d.timing;
      timing = clears.after_dropped d.purge (get_or bytes i 0) written now d.timing;
    })
dropped-step bytes i now written d more = rw (add-one, drop-cons bytes i 0 more) refl

-- a byte that is dropped
pub drop-one : (fn l new : Line) (bytes : List ℕ) (i : ℕ) (start c next : Purge)
    → i < length bytes → l ≡ record fn { timing = l.timing }
    → new ≡ drops_byte c (get_or bytes i 0) l
    → next ≡ clears.dropped c (get_or bytes i 0) l.written l.clock.at l.timing
    → dropped_of start bytes fn
    ≡ dropped (drop i bytes) fn.written fn.clock.at (record { purge = c; timing = l.timing })
    → (new ≡ record fn { timing = new.timing })
    × (dropped_of start bytes fn
    ≡ dropped (drop (i + 1) bytes) fn.written fn.clock.at (record { purge = next; timing = new.timing }))
drop-one fn l new bytes i start c next more same is next_is all =
    let b : ℕ = get_or bytes i 0 in
    let w : l.written ≡ fn.written = ap (λ (x : Line). x.written) same in
    let at : l.clock.at ≡ fn.clock.at = ap (λ (x : Line). x.clock.at) same in
    let nt : new.timing ≡ clears.after_dropped c b l.written l.clock.at l.timing =
    ap (λ (x : Line). x.timing) is in
    let nf : new.timing ≡ clears.after_dropped c b fn.written fn.clock.at l.timing =
    nt ∙ (ap (λ (x : List ℕ). clears.after_dropped c b x l.clock.at l.timing) w ∙ ap (λ (x : ℕ). clears.after_dropped c b fn.written x l.timing) at) in
    let cf : next ≡ clears.dropped c b fn.written fn.clock.at l.timing =
    next_is ∙ (ap (λ (x : List ℕ). clears.dropped c b x l.clock.at l.timing) w ∙ ap (λ (x : ℕ). clears.dropped c b fn.written x l.timing) at) in (
      is ∙ (ap (λ (x : Line). let y : Line = record x { timing = clears.after_dropped c b l.written l.clock.at l.timing } in y) same
          ∙ ap (λ (m : Timing). let y : Line = record fn { timing = m } in y) (sym nt)),
      all ∙ (dropped-step bytes i fn.clock.at fn.written (record { purge = c; timing = l.timing }) more
          ∙ (ap (λ (x : Purge). let d : Dropped = record { purge = x; timing = clears.after_dropped c b fn.written fn.clock.at l.timing } in dropped (drop (i + 1) bytes) fn.written fn.clock.at d) (sym cf)
          ∙ ap (λ (m : Timing). let d : Dropped = record { purge = next; timing = m } in dropped (drop (i + 1) bytes) fn.written fn.clock.at d) (sym nf))),
    )

pub cleared-step : (n less : ℕ) (c : Purge) (l : Line) (t : Tape) → n ≡ suc less
    → is_clear c l ≡ false
    → cleared n c l t
    ≡ clear_on (cleared less) (clear_once c l t).answer (clear_once c l t).line
    (clear_once c l t).tape
unfolding cleared
cleared-step n less c l t one on = rw (one, on) refl

-- it is over
pub cleared-over : (n less : ℕ) (c : Purge) (l : Line) (t : Tape) → n ≡ suc less
    → is_clear c l ≡ true → cleared n c l t ≡ over c l t
unfolding cleared
cleared-over n less c l t one clear = rw (one, clear) refl

-- no read is left
pub cleared-out : (most i : ℕ) (c : Purge) (l : Line) (t : Tape) → most ≤ i
    → cleared (most - i) c l t ≡ over c l t
unfolding cleared
cleared-out most i c l t out = let e : most - i ≡ zero = omega arith in rw e refl

-- it goes on by what one read brings
pub cleared-once : (most i : ℕ) (c : Purge) (l m : Line) (t u : Tape)
    (answer : Result Purge PortFault) (whole : Cleared) → i < most → is_clear c l ≡ false
    → clear_once c l t ≡ record { answer = answer; line = m; tape = u }
    → whole ≡ cleared (most - i) c l t
    → whole ≡ clear_on (cleared (most - (i + 1))) answer m u
cleared-once most i c l m t u answer whole more on is before =
    before ∙ (cleared-step (most - i) (most - (i + 1)) c l t (omega arith) on
    ∙ ap (λ (s : Cleared). clear_on (cleared (most - (i + 1))) s.answer s.line s.tape) is)

pub cleared-ends : (most i : ℕ) (c : Purge) (l m : Line) (t u : Tape)
    (answer : Result Purge PortFault) (e : PortFault) (whole : Cleared) → i < most
    → is_clear c l ≡ false → clear_once c l t ≡ record { answer = answer; line = m; tape = u }
    → answer ≡ Err e → whole ≡ cleared (most - i) c l t
    → whole ≡ record { answer = Err e; line = m; tape = u }
cleared-ends most i c l m t u answer e whole more on is fails before =
    cleared-once most i c l m t u answer whole more on is before
    ∙ ap (λ (a : Result Purge PortFault). clear_on (cleared (most - (i + 1))) a m u) fails

pub cleared-goes-on : (most i : ℕ) (c : Purge) (l m : Line) (t u : Tape)
    (answer : Result Purge PortFault) (next : Purge) (whole : Cleared) → i < most
    → is_clear c l ≡ false → clear_once c l t ≡ record { answer = answer; line = m; tape = u }
    → answer ≡ Ok next → whole ≡ cleared (most - i) c l t
    → whole ≡ cleared (most - (i + 1)) next m u
cleared-goes-on most i c l m t u answer next whole more on is goes before =
    cleared-once most i c l m t u answer whole more on is before
    ∙ ap (λ (a : Result Purge PortFault). clear_on (cleared (most - (i + 1))) a m u) goes

-- what a write clears of, from the moment that the clock told
pub clears-from : (bytes : List ℕ) (l m : Line) (c : Purge) (t u : Tape) (now : ℕ)
    → now ≡ moment_of t → u ≡ after_moment t → m ≡ looked now l
    → c ≡ clears.purge bytes m.clock.at m.timing
    → clears_for bytes l t ≡ cleared MOST_READS c m u
clears-from bytes l m c t u now at left is purge_is =
    ap (λ (n : ℕ). cleared MOST_READS (clears.purge bytes (looked n l).clock.at l.timing) (looked n l) (after_moment t)) (sym at)
    ∙ (ap (λ (x : Tape). cleared MOST_READS (clears.purge bytes (looked now l).clock.at l.timing) (looked now l) x) (sym left)
    ∙ (ap (λ (x : Line). cleared MOST_READS (clears.purge bytes x.clock.at x.timing) x u) (sym is)
    ∙ ap (λ (x : Purge). cleared MOST_READS x m u) (sym purge_is)))

pub clears-at-once : (bytes : List ℕ) (l m : Line) (c : Purge) (t u : Tape) (now : ℕ)
    → now ≡ moment_of t → u ≡ after_moment t → m ≡ looked now l
    → c ≡ clears.purge bytes m.clock.at m.timing → is_clear c m ≡ true
    → clears_for bytes l t ≡ record { answer = Ok c; line = m; tape = u }
clears-at-once bytes l m c t u now at left is purge_is clear =
    clears-from bytes l m c t u now at left is purge_is
    ∙ cleared-over MOST_READS 65535 c m u (omega arith) clear
