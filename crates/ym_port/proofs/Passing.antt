-- What passes a port by the rule of a line, read by read and write by write.
use Rattle.std.proofs.Common.{◌≡◌, ◌<◌, ◌≤◌, ◌-◌, ℕ, zero, suc, Bool, true, false, List, [], ◌∷◌, ◌++◌, length, take}
use Rattle.std.proofs.Common.{Result, Option, Some, None, Ok, Err, is_ok, refl, sym, ◌∙◌, ap, arith, append_assoc, if◌then◌else◌}
use Rattle.std.proofs.lemmas.Bool.{le-ltb}
use Rattle.std.proofs.lemmas.List.{append-nil, length-take-le}
use Rattle.ym_link.specs.Port.{Seen, Data, Silence, End, Failed, seen_of, read_gives, read_leaves, event_of}
use Rattle.ym_link.specs.Port as port
use Rattle.ym_link.specs.declared.event.Event.{Event}
use Rattle.ym_link.specs.declared.port.Got.{Got}
use Rattle.ym_link.specs.declared.port.Got.TheVariants as got
use Rattle.ym_link.specs.declared.port.PortFault.{PortFault}
use Rattle.ym_link.specs.declared.port.Wait.{Wait as Asked}
use Rattle.ym_link.specs.declared.port.Wait.TheVariants as asked
use Rattle.ym_port.specs.declared.line.TheConstants.{MOST_READS}
use Rattle.ym_port.specs.Passing.{bytes_in, written_of, Passes}
use Rattle.ym_port.specs.Passing.{reads as passes-read, writes as passes-write, fails as passes-fail}
use Rattle.ym_port.specs.TimedPort as table
use Rattle.ym_port.specs.TimedPort.{Step, Read, Cleared, step_by, clear_step, behind, clear_on, WritesAs}
unfoldable use Rattle.ym_port.specs.TimedPort.{reads, cleared}
use Rattle.ym_port.specs.Wire.{Tape, moment_of, after_moment, after_read, after_write}
use Rattle.ym_port.specs.declared.deed.Deed.{Deed}
use Rattle.ym_port.specs.declared.deed.Deed.TheVariants.{Looked, Waited, Wrote}
use Rattle.ym_port.specs.declared.line.Line.{Line}
use Rattle.ym_timing.specs.Clears.{clear_at}
use Rattle.ym_timing.specs.declared.purge.Purge.{Purge}
use Rattle.ym_timing.specs.declared.timing.Expected.{Expected}

-- ---- What is written

pub written-more : (a b : List Deed) → written_of (a ++ b) ≡ written_of a ++ written_of b
written-more [] b = refl
written-more (d ∷ a) b =
    ap (λ (x : List ℕ). bytes_in d ++ x) (written-more a b)
    ∙ sym (append_assoc (bytes_in d) (written_of a) (written_of b))

-- the clock and a read write nothing
pub looked-quiet : (t : Tape) → written_of (after_moment t).done ≡ written_of t.done
looked-quiet t = written-more t.done (Looked ∷ []) ∙ append-nil (written_of t.done)

pub waited-quiet : (millis room : ℕ) (t : Tape)
    → written_of (after_read millis room t).done ≡ written_of t.done
waited-quiet millis room t =
    written-more t.done (Waited millis ∷ []) ∙ append-nil (written_of t.done)

pub over-quiet : (over : Bool) (w : Expected) (l : Line) (t : Tape)
    → written_of (if over then table.ends w l t else (record { answer = None; line = l; tape = t })).tape.done
    ≡ written_of t.done
over-quiet true w l t = refl
over-quiet false w l t = refl

pub brings-quiet : (heard : List ℕ) (w : Expected) (start : ℕ) (l : Line) (t : Tape)
    → written_of (table.brings_of heard w start l t).tape.done ≡ written_of t.done
brings-quiet [] w start l t = over-quiet (table.is_over w start l) w l t
brings-quiet (b ∷ heard) w start l t = refl

pub step-quiet : (seen : Seen) (w : Expected) (start : ℕ) (l : Line) (t : Tape)
    → written_of (step_by seen w start l t).tape.done ≡ written_of t.done
step-quiet (Data bytes) w start l t =
    let k : Line = table.looked (moment_of t) l in
    brings-quiet (table.heard_in bytes k) w start (table.hears bytes k) (after_moment t)
    ∙ looked-quiet t
step-quiet Silence w start l t = looked-quiet t
step-quiet End w start l t = refl
step-quiet Failed w start l t = refl

pub behind-quiet : (on : Line → Tape → Read) → ((l : Line) (t : Tape) → written_of (on l t).tape.done ≡ written_of t.done)
    → (a : Option Seen) (l : Line) (t : Tape)
    → written_of (behind on a l t).tape.done ≡ written_of t.done
behind-quiet on quiet (Some seen) l t = refl
behind-quiet on quiet None l t = quiet l t

pub reads-quiet : (n : ℕ) (w : Expected) (start room : ℕ) (l : Line) (t : Tape)
    → written_of (reads n w start room l t).tape.done ≡ written_of t.done
unfolding reads
reads-quiet zero w start room l t = refl
reads-quiet (suc n) w start room l t =
    let s = table.step w start room l t in
    behind-quiet (reads n w start room) (reads-quiet n w start room) s.answer s.line s.tape
    ∙ (step-quiet (read_gives room t.coming) w start l
    (after_read (table.ends_at w start l - l.clock.at) room t)
    ∙ waited-quiet (table.ends_at w start l - l.clock.at) room t)

pub clear-step-quiet : (seen : Seen) (c : Purge) (end : ℕ) (l : Line) (t : Tape)
    → written_of (clear_step seen c end l t).tape.done ≡ written_of t.done
clear-step-quiet (Data bytes) c end l t = looked-quiet t
clear-step-quiet Silence c end l t = looked-quiet t
clear-step-quiet End c end l t = refl
clear-step-quiet Failed c end l t = refl

pub clear-on-quiet : (on : Purge → Line → Tape → Cleared)
    → ((c : Purge) (l : Line) (t : Tape) → written_of (on c l t).tape.done ≡ written_of t.done)
    → (a : Result Purge PortFault) (l : Line) (t : Tape)
    → written_of (clear_on on a l t).tape.done ≡ written_of t.done
clear-on-quiet on quiet (Ok c) l t = quiet c l t
clear-on-quiet on quiet (Err e) l t = refl

pub either-cleared : (b : Bool) (x y : Cleared) (t : Tape) → written_of x.tape.done ≡ written_of t.done
    → written_of y.tape.done ≡ written_of t.done
    → written_of (if b then x else y).tape.done ≡ written_of t.done
either-cleared true x y t one two = one
either-cleared false x y t one two = two

pub cleared-quiet : (n : ℕ) (c : Purge) (l : Line) (t : Tape)
    → written_of (cleared n c l t).tape.done ≡ written_of t.done
unfolding cleared
cleared-quiet zero c l t = refl
cleared-quiet (suc n) c l t =
    let s = table.clear_once c l t in
    either-cleared (table.is_clear c l) (table.over c l t) (clear_on (cleared n) s.answer s.line s.tape) t refl
    (clear-on-quiet (cleared n) (cleared-quiet n) s.answer s.line s.tape
    ∙ (clear-step-quiet (read_gives 256 t.coming) c (clear_at c l.timing) l
    (after_read (clear_at c l.timing - l.clock.at) 256 t)
    ∙ waited-quiet (clear_at c l.timing - l.clock.at) 256 t))

pub clears-quiet : (bytes : List ℕ) (l : Line) (t : Tape)
    → written_of (table.clears_for bytes l t).tape.done ≡ written_of t.done
clears-quiet bytes l t = cleared-quiet MOST_READS _ _ (after_moment t) ∙ looked-quiet t

pub either-read : (b : Bool) (x y : Read) (t : Tape) → written_of x.tape.done ≡ written_of t.done
    → written_of y.tape.done ≡ written_of t.done
    → written_of (if b then x else y).tape.done ≡ written_of t.done
either-read true x y t one two = one
either-read false x y t one two = two

pub waits-quiet : (w : Asked) (room : ℕ) (l : Line) (t : Tape)
    → written_of (table.waits w room l t).tape.done ≡ written_of t.done
waits-quiet asked.Within room l t = reads-quiet MOST_READS _ _ room l t
waits-quiet asked.Reply room l t = reads-quiet MOST_READS _ _ room _ (after_moment t) ∙ looked-quiet t

pub read-quiet : (w : Asked) (room : ℕ) (l : Line) (t : Tape)
    → written_of (table.read_of w room l t).tape.done ≡ written_of t.done
read-quiet w room l t =
    either-read (table.has_no_room room l) _ _ t refl
    (either-read l.timing.has_cancel _ _ t refl
    (either-read l.is_closed _ _ t refl
    (waits-quiet w (table.room_for l.timing.role room) l t)))

-- ---- What passes

-- a read gives some bytes, and no more than it has room for
abbrev pub FitsIn : ℕ → Seen → Type 0
FitsIn room (Data bytes) = (0 < length bytes) × (length bytes ≤ room)
FitsIn room _ = Unit {0}

abbrev pub tape_of : List Event → List ℕ → port.Tape
tape_of coming written = record { coming = coming; written = written }

-- what a read gave is what it gives of that event, and leaves what is behind it
pub gives-event : (room : ℕ) (seen : Seen) (rest : List Event) → FitsIn room seen
    → (read_gives room (event_of seen ∷ rest) ≡ seen)
    × (read_leaves room (event_of seen ∷ rest) ≡ rest)
gives-event room (Data []) rest fits = absurd (omega (arith, fits.0))
gives-event room (Data (b ∷ bs)) rest fits =
    rw (le-ltb room (length (b ∷ bs)) fits.1) (refl, refl)
gives-event room _ rest fits = (refl, refl)

-- what a read gives fits into its buffer
pub fits-seen : (room : ℕ) (result : Result Got PortFault) (buf : List ℕ) → room ≡ length buf
    → ((n : ℕ) → result ≡ Ok (got.Bytes n) → (0 < n) × (n ≤ room))
    → FitsIn room (seen_of result buf)
fits-seen room (Ok (got.Bytes n)) buf size count =
    let sized = count n refl in
    let taken : length (take n buf) ≡ n = length-take-le n buf (rw (← size) sized.1) in
    (rw taken sized.0, rw taken sized.1)
fits-seen room _ buf size count = tt

-- a read
pub read-passes : (w : Asked) (room : ℕ) (l new : Line) (seen : Seen) (u : port.Tape) (p t : Tape)
    → FitsIn room seen → table.read_of w room l t ≡ table.gives seen new p
    → u.written ≡ written_of p.done → Passes new p u.coming
    → (u.written ≡ written_of t.done) × Passes l t (event_of seen ∷ u.coming)
    × (seen ≡ read_gives room (event_of seen ∷ u.coming))
    × (u ≡ tape_of (read_leaves room (event_of seen ∷ u.coming)) u.written)
read-passes w room l new seen u p t fits is wrote passes =
    let one = gives-event room seen u.coming fits in
    let e : (table.read_of w room l t).seen ≡ seen = ap (λ (r : Read). r.seen) is in (
      wrote ∙ (ap (λ (r : Read). written_of r.tape.done) (sym is) ∙ read-quiet w room l t),
      rw (← e) (passes-read l t u.coming w room (rw is passes)),
      sym one.0,
      rw one.1 refl,
    )

-- a write that was made, or failed
pub wrote-made : (made : Bool) (bytes : List ℕ) (u : port.Tape) (s t : Tape)
    → written_of s.done ≡ written_of t.done → u.written ≡ written_of (after_write made s bytes).done
    → u ≡ port.after_write made (tape_of u.coming (written_of t.done)) bytes
wrote-made true bytes u s t quiet wrote =
    let e : u.written ≡ written_of t.done ++ bytes =
    wrote ∙ (written-more s.done (Wrote bytes ∷ [])
    ∙ (ap (λ (x : List ℕ). x ++ (bytes ++ [])) quiet
    ∙ ap (λ (x : List ℕ). written_of t.done ++ x) (append-nil bytes))) in
    ap (λ (x : List ℕ). tape_of u.coming x) e
wrote-made false bytes u s t quiet wrote = ap (λ (x : List ℕ). tape_of u.coming x) (wrote ∙ quiet)

pub write-passes : (a : Result Purge PortFault) (bytes : List ℕ) (l new : Line)
    (result : Result Unit PortFault) (u : port.Tape) (p t : Tape)
    → (table.clears_for bytes l t).answer ≡ a
    → WritesAs a bytes (table.clears_for bytes l t).line (table.clears_for bytes l t).tape result new p
    → u.written ≡ written_of p.done → Passes new p u.coming
    → Passes l t u.coming
    × (u ≡ port.after_write (is_ok result) (tape_of u.coming (written_of t.done)) bytes)
write-passes (Ok c) bytes l new result u p t is made wrote passes = (
  passes-write l t u.coming bytes c (is_ok result) is (rw (made.0, made.1) at passes),
  wrote-made (is_ok result) bytes u (table.clears_for bytes l t).tape t (clears-quiet bytes l t)
      (wrote ∙ ap (λ (x : Tape). written_of x.done) made.1),
)
write-passes (Err e) bytes l new result u p t is made wrote passes = (
  passes-fail l t u.coming bytes e is (rw (made.0, made.2) at passes),
  rw made.1 (ap (λ (x : List ℕ). tape_of u.coming x)
      (wrote ∙ (ap (λ (x : Tape). written_of x.done) made.2 ∙ clears-quiet bytes l t))),
)
