-- A read of a port that takes several reads of its line.
use Rattle.std.proofs.Common.{◌≡◌, ◌<◌, ◌≤◌, ◌-◌, ◌+◌, ℕ, zero, suc, List, [], ◌∷◌, length, take, Option, Some, None, refl, sym, ◌∙◌, ap, arith}
use Rattle.ym_link.specs.Port.{Seen, Data, Silence}
use Rattle.ym_port.specs.TimedPort.{Step, Read, step, gives, behind, looked, hears, heard_in, brings, brings_of, unheard}
unfoldable use Rattle.ym_port.specs.TimedPort.{reads}
use Rattle.ym_port.specs.Wire.{Tape, moment_of, after_moment}
use Rattle.ym_port.specs.declared.line.Line.{Line}
use Rattle.ym_timing.specs.declared.timing.Expected.{Expected}

pub reads-step : (n less : ℕ) (w : Expected) (start room : ℕ) (l : Line) (t : Tape) → n ≡ suc less
    → reads n w start room l t
    ≡ behind (reads less w start room) (step w start room l t).answer (step w start room l t).line
    (step w start room l t).tape
unfolding reads
reads-step n less w start room l t one = rw one refl

-- no read is left
pub reads-out : (most i : ℕ) (w : Expected) (start room : ℕ) (l : Line) (t : Tape) → most ≤ i
    → reads (most - i) w start room l t ≡ gives Silence l t
unfolding reads
reads-out most i w start room l t out = let e : most - i ≡ zero = omega arith in rw e refl

-- it goes on by what one read comes to
pub reads-once : (most i : ℕ) (w : Expected) (start room : ℕ) (l m : Line) (t u : Tape)
    (answer : Option Seen) (whole : Read) → i < most
    → step w start room l t ≡ record { answer = answer; line = m; tape = u }
    → whole ≡ reads (most - i) w start room l t
    → whole ≡ behind (reads (most - (i + 1)) w start room) answer m u
reads-once most i w start room l m t u answer whole more is before =
    before ∙ (reads-step (most - i) (most - (i + 1)) w start room l t (omega arith)
    ∙ ap (λ (s : Step). behind (reads (most - (i + 1)) w start room) s.answer s.line s.tape) is)

-- what one read comes to, by another name of the room
at-room : (w : Expected) (start r room : ℕ) (l : Line) (t : Tape) (s : Step) → r ≡ room → step w start r l t ≡ s → step w start room l t ≡ s
at-room w start r room l t s same is = ap (λ (x : ℕ). step w start x l t) (sym same) ∙ is

-- it ends with this
pub read-ends : (most i : ℕ) (w : Expected) (start r room : ℕ) (l m : Line) (t u : Tape)
    (answer : Option Seen) (seen : Seen) (whole : Read) → i < most → r ≡ room
    → step w start r l t ≡ record { answer = answer; line = m; tape = u } → answer ≡ Some seen
    → whole ≡ reads (most - i) w start room l t → whole ≡ gives seen m u
read-ends most i w start r room l m t u answer seen whole more same is ends before =
    let once = reads-once most i w start room l m t u answer whole more (at-room w start r room l t _ same is) before in
    once ∙ ap (λ (a : Option Seen). behind (reads (most - (i + 1)) w start room) a m u) ends

-- it goes on
pub read-goes-on : (most i : ℕ) (w : Expected) (start r room : ℕ) (l m : Line) (t u : Tape)
    (answer : Option Seen) (whole : Read) → i < most → r ≡ room
    → step w start r l t ≡ record { answer = answer; line = m; tape = u } → answer ≡ None
    → whole ≡ reads (most - i) w start room l t
    → whole ≡ reads (most - (i + 1)) w start room m u
read-goes-on most i w start r room l m t u answer whole more same is on before =
    let once = reads-once most i w start room l m t u answer whole more (at-room w start r room l t _ same is) before in
    once ∙ ap (λ (a : Option Seen). behind (reads (most - (i + 1)) w start room) a m u) on

-- what came, as it was heard
pub brings-by : (bytes heard : List ℕ) (now : ℕ) (w : Expected) (start : ℕ) (l k m : Line) (t u : Tape) (s : Step)
    → now ≡ moment_of t → u ≡ after_moment t → k ≡ looked now l → m ≡ hears bytes k
    → heard ≡ heard_in bytes k → brings_of heard w start m u ≡ s → brings bytes w start l t ≡ s
brings-by bytes heard now w start l k m t u s at left looks hears heard-is is =
    rw (heard-is, hears, looks, at, left) at is

pub brings-some : (heard : List ℕ) (w : Expected) (start : ℕ) (m : Line) (u : Tape) → 0 < length heard
    → brings_of heard w start m u ≡ record { answer = Some (Data heard); line = m; tape = u }
brings-some [] w start m u some = absurd (omega (arith, some))
brings-some (b ∷ heard) w start m u some = refl

pub brings-none : (n : ℕ) (buf : List ℕ) (w : Expected) (start : ℕ) (m : Line) (u : Tape) (s : Step) → n ≤ 0
    → unheard w start m u ≡ s → brings_of (take n buf) w start m u ≡ s
brings-none zero buf w start m u s none is = is
brings-none (suc n) buf w start m u s none is = absurd (omega (arith, none))
