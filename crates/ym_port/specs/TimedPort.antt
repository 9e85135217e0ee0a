-- A port by the rule of a line: what its calls come to, by the moments and events of the line below
-- (this profile).
use Rattle.std.specs.Prelude.{◌≡◌, ℕ, zero, suc, ◌-◌, ◌/◌, nat_lt, nat_le, min, ◌&&◌, ◌||◌, Bool}
use Rattle.std.specs.Prelude.{true, false, List, [], ◌∷◌, take, Option, Some, None, Result}
use Rattle.std.specs.Prelude.{Ok, Err, is_ok, if◌then◌else◌}
use Rattle.ym_link.specs.Port.{Seen, Data, Silence, End, Failed, seen_of, read_gives}
use Rattle.ym_link.specs.declared.port.Got.{Got}
use Rattle.ym_link.specs.declared.port.PortFault.{PortFault}
use Rattle.ym_link.specs.declared.port.Wait.{Wait as Asked}
use Rattle.ym_link.specs.declared.port.Wait.TheVariants as asked
use Rattle.ym_port.specs.Wire.{Tape, moment_of, after_moment, after_read, after_write}
use Rattle.ym_port.specs.declared.line.Line.{Line}
use Rattle.ym_port.specs.declared.line.TheConstants.{CLEAR_PIECE, MOST_READS, PIECE}
use Rattle.ym_port.specs.declared.written.TheConstants.{LONGEST_FRAME}
use Rattle.ym_timing.specs.ByteRows.{heard_of, after_bytes}
use Rattle.ym_heard.specs.Cancel.{cancels}
use Rattle.ym_timing.specs.Clears as clears
use Rattle.ym_timing.specs.Pace as pace
use Rattle.ym_heard.specs.Times.{new_clock, told, waited, later}
use Rattle.ym_timing.specs.Timing.{new_timing, is_acked, until, vain_of, after_byte, after_vain}
use Rattle.ym_timing.specs.Writing.{wrote}
use Rattle.ym_timing.specs.declared.purge.Purge.{Purge}
use Rattle.ym_heard.specs.declared.ear.Echo.{Echo}
use Rattle.ym_heard.specs.declared.ear.Echo.TheVariants.{Goes}
use Rattle.ym_timing.specs.declared.pace.Pace.{Pace}
use Rattle.ym_timing.specs.declared.pace.Trust.{Trust}
use Rattle.ym_timing.specs.declared.pace.Trust.TheVariants.{Unknown, Doubtful, Sure}
use Rattle.ym_timing.specs.declared.role.Role.{Role}
use Rattle.ym_timing.specs.declared.role.Role.TheVariants.{Sender, Receiver}
use Rattle.ym_timing.specs.declared.timing.Timing.{Timing}
use Rattle.ym_timing.specs.declared.timing.Vain.{Vain}
use Rattle.ym_timing.specs.declared.timing.Vain.TheVariants as vain
use Rattle.ym_timing.specs.declared.timing.Expected.{Expected}
use Rattle.ym_timing.specs.declared.timing.Expected.TheVariants as wait

-- nothing was said or heard
abbrev pub new_line : Role → Line
new_line role = record {
  timing = new_timing role;
  clock = new_clock;
  written = [];
  is_closed = false;
  has_echo = false;
}

abbrev pub cancel : List ℕ
cancel = 0x18 ∷ 0x18 ∷ []

-- ---- What the line says

-- the clock tells this
abbrev pub looked : ℕ → Line → Line
looked now l = record l { clock = told now l.clock }

-- These bytes came. A reply behind which the peer cancels is none.
abbrev pub withdrawn : Role → List ℕ → List ℕ
withdrawn Sender heard = if cancels heard then cancel else heard
withdrawn Receiver heard = heard

abbrev pub heard_in : List ℕ → Line → List ℕ
heard_in bytes l =
    withdrawn l.timing.role (heard_of bytes l.written l.clock.at l.timing)

abbrev pub hears_byte : ℕ → Line → Line
hears_byte byte l = record l { timing = after_byte byte l.written l.clock.at l.timing }

abbrev pub takes : List ℕ → Line → Line
takes bytes l = record l { timing = after_bytes bytes l.written l.clock.at l.timing }

abbrev pub goes : Echo → Bool
goes (Goes position) = true
goes _ = false

-- three bytes of the block that was written last came back, or one of the reply
abbrev pub comes_back_to : Role → Timing → Bool
comes_back_to Sender t = goes t.ear.echo
comes_back_to Receiver t = nat_lt 0 t.echoed

abbrev pub comes_back : Timing → Bool
comes_back t = comes_back_to t.role t

abbrev pub heeds_echo : Line → Line
heeds_echo l = record l { has_echo = l.has_echo || comes_back l.timing }

-- an echo that came once is kept in mind
abbrev pub hears : List ℕ → Line → Line
hears bytes l = heeds_echo (takes bytes l)

-- how long the slowest answer of late took, where one was seen
abbrev pub slowest_by : Trust → ℕ → Option ℕ
slowest_by Unknown took = None
slowest_by Doubtful took = Some took
slowest_by Sure took = Some took

abbrev pub slowest_of : Pace → Option ℕ
slowest_of p = slowest_by p.trust p.slowest

-- a wait is over
abbrev pub vain_at : Expected → Line → Vain
vain_at w l = vain_of w l.timing

abbrev pub gives_up : Expected → Line → Line
gives_up w l = record l { timing = after_vain w l.clock.at l.timing }

-- nothing came until then, where the clock tells this
abbrev pub passed : ℕ → ℕ → Line → Line
passed end now l = record l { clock = waited end now l.clock }

-- ---- A read

-- what a call of the port below answers, if it ends the read
abbrev pub answer_of : Result (Option Got) PortFault → List ℕ → Option Seen
answer_of (Ok None) buf = None
answer_of (Ok (Some got)) buf = Some (seen_of (Ok got) buf)
answer_of (Err e) buf = Some Failed

-- one read of the line below: what is answered, if anything, and the line behind it
pub record Step : Type 0 where
  pub answer : Option Seen
  pub line : Line
  pub tape : Tape

abbrev pub vain_answers : Vain → Option Seen
vain_answers vain.Again = None
vain_answers vain.Ack = Some (Data (0x06 ∷ []))
vain_answers vain.Quiet = Some Silence

-- the wait is over
abbrev pub ends : Expected → Line → Tape → Step
ends w l t = record { answer = vain_answers (vain_at w l); line = gives_up w l; tape = t }

-- until when a read waits, of a wait that began then: for more of a delivery since anything came
abbrev pub ends_at : Expected → ℕ → Line → ℕ
ends_at wait.Reply start l = until wait.Reply start l.timing
ends_at wait.Within start l = until wait.Within l.clock.at l.timing

-- by when it is over, where what comes is not to be heard: no wait is longer than one for a reply
abbrev pub over_at : Expected → ℕ → Line → ℕ
over_at wait.Reply start l = until wait.Reply start l.timing
over_at wait.Within start l = later start (pace.wait l.timing.role l.timing.pace)

-- nothing of what came is to be heard: it waits on, unless the wait that began then is over
abbrev pub is_over : Expected → ℕ → Line → Bool
is_over w start l = nat_le (over_at w start l) l.clock.at

abbrev pub unheard : Expected → ℕ → Line → Tape → Step
unheard w start l t =
    if is_over w start l then ends w l t else record { answer = None; line = l; tape = t }

abbrev pub brings_of : List ℕ → Expected → ℕ → Line → Tape → Step
brings_of [] w start l t = unheard w start l t
brings_of (b ∷ heard) w start l t =
    record { answer = Some (Data (b ∷ heard)); line = l; tape = t }

abbrev pub brings : List ℕ → Expected → ℕ → Line → Tape → Step
brings bytes w start l t =
    brings_of (heard_in bytes (looked (moment_of t) l)) w start
    (hears bytes (looked (moment_of t) l)) (after_moment t)

-- it closed: an ACK that was held, with nothing behind it, is heard before that
abbrev pub closed : Expected → Line → Line
closed w l = if is_acked l.timing then record (gives_up w l) { is_closed = true } else l

abbrev pub closed_answers : Line → Seen
closed_answers l = if is_acked l.timing then Data (0x06 ∷ []) else End

abbrev pub step_by : Seen → Expected → ℕ → Line → Tape → Step
step_by (Data bytes) w start l t = brings bytes w start l t
step_by Silence w start l t =
    ends w (passed (ends_at w start l) (moment_of t) l) (after_moment t)
step_by End w start l t =
    record { answer = Some (closed_answers l); line = closed w l; tape = t }
step_by Failed w start l t = record { answer = Some Failed; line = l; tape = t }

-- it waits as long as the rule says, of a wait that began then
abbrev pub step : Expected → ℕ → ℕ → Line → Tape → Step
step w start room l t =
    step_by (read_gives room t.coming) w start l
    (after_read (ends_at w start l - l.clock.at) room t)

-- what the whole answers, and how it leaves the line
pub record Read : Type 0 where
  pub seen : Seen
  pub line : Line
  pub tape : Tape

abbrev pub gives : Seen → Line → Tape → Read
gives seen l t = record { seen = seen; line = l; tape = t }

abbrev pub behind : (Line → Tape → Read) → Option Seen → Line → Tape → Read
behind on (Some seen) l t = gives seen l t
behind on None l t = on l t

-- it goes on while nothing is to be heard, for so many reads at most
unfoldable pub reads : ℕ → Expected → ℕ → ℕ → Line → Tape → Read
reads zero w start room l t = gives Silence l t
reads (suc more) w start room l t =
    behind (reads more w start room) (step w start room l t).answer (step w start room l t).line
    (step w start room l t).tape

-- a reply is waited for from now on, and more of a delivery since the last of it came
abbrev pub waits : Asked → ℕ → Line → Tape → Read
waits asked.Within room l t = reads MOST_READS wait.Within l.clock.at room l t
waits asked.Reply room l t =
    reads MOST_READS wait.Reply (looked (moment_of t) l).clock.at room (looked (moment_of t) l)
    (after_moment t)

-- of a reply one byte may make two
abbrev pub room_for : Role → ℕ → ℕ
room_for Sender room = min (room / 2) PIECE
room_for Receiver room = room

abbrev pub wants_two : Role → Bool → Bool
wants_two Sender has_cancel = true
wants_two Receiver has_cancel = has_cancel

abbrev pub cancelled : Line → Line
cancelled l = record l { timing = record l.timing { has_cancel = false } }

abbrev pub has_no_room : ℕ → Line → Bool
has_no_room room l = nat_lt room 2 && wants_two l.timing.role l.timing.has_cancel

-- CAN CAN that was dropped is heard first, and then that the line was closed
abbrev pub read_of : Asked → ℕ → Line → Tape → Read
read_of w room l t =
    if has_no_room room l then gives Silence l t
    else (if l.timing.has_cancel
    then gives (Data cancel) (cancelled l) t
    else (if l.is_closed then gives End l t
    else waits w (room_for l.timing.role room) l t))

-- ---- A write

-- bytes are dropped while the line clears
pub record Dropped : Type 0 where
  pub purge : Purge
  pub timing : Timing

abbrev pub dropped : List ℕ → List ℕ → ℕ → Dropped → Dropped
dropped [] written now d = d
dropped (b ∷ bytes) written now d = dropped bytes written now (record {
  purge = clears.dropped d.purge b written now d.timing;
  timing = clears.after_dropped d.purge b written now d.timing;
})

abbrev pub dropped_of : Purge → List ℕ → Line → Dropped
dropped_of c bytes l =
    dropped bytes l.written l.clock.at (record { purge = c; timing = l.timing })

abbrev pub drops_byte : Purge → ℕ → Line → Line
drops_byte c byte l =
    record l { timing = clears.after_dropped c byte l.written l.clock.at l.timing }

abbrev pub dropping : Purge → List ℕ → Line → Purge
dropping c bytes l = (dropped_of c bytes l).purge

abbrev pub after_dropping : Purge → List ℕ → Line → Line
after_dropping c bytes l = record l { timing = (dropped_of c bytes l).timing }

-- how far the line is clear, or that it failed
pub record Cleared : Type 0 where
  pub answer : Result Purge PortFault
  pub line : Line
  pub tape : Tape

abbrev pub clear_step : Seen → Purge → ℕ → Line → Tape → Cleared
clear_step (Data bytes) c end l t = record {
  answer = Ok (dropping c bytes (looked (moment_of t) l));
  line = after_dropping c bytes (looked (moment_of t) l);
  tape = after_moment t;
}
clear_step Silence c end l t = record {
  answer = Ok c;
  line = record l { clock = waited end (moment_of t) l.clock };
  tape = after_moment t;
}
clear_step End c end l t =
    record { answer = Ok c; line = record l { is_closed = true }; tape = t }
clear_step Failed c end l t = record { answer = Err record {}; line = l; tape = t }

-- one read of it, which waits until it is clear
abbrev pub clear_once : Purge → Line → Tape → Cleared
clear_once c l t =
    clear_step (read_gives CLEAR_PIECE t.coming) c (clears.clear_at c l.timing) l
    (after_read (clears.clear_at c l.timing - l.clock.at) CLEAR_PIECE t)

abbrev pub is_clear : Purge → Line → Bool
is_clear c l = l.is_closed || nat_le (clears.clear_at c l.timing) l.clock.at

abbrev pub clear_on : (Purge → Line → Tape → Cleared) → Result Purge PortFault → Line → Tape
    → Cleared
clear_on on (Ok c) l t = on c l t
clear_on on (Err e) l t = record { answer = Err e; line = l; tape = t }

abbrev pub over : Purge → Line → Tape → Cleared
over c l t = record { answer = Ok c; line = l; tape = t }

-- the line is let clear, by so many reads at most
unfoldable pub cleared : ℕ → Purge → Line → Tape → Cleared
cleared zero c l t = over c l t
cleared (suc more) c l t =
    if is_clear c l then over c l t
    else clear_on (cleared more) (clear_once c l t).answer (clear_once c l t).line
    (clear_once c l t).tape

-- what the line has to clear of before these bytes
abbrev pub purge_for : List ℕ → Line → Purge
purge_for bytes l = clears.purge bytes l.clock.at l.timing

-- these bytes are written, behind this purge
abbrev pub writes : List ℕ → Purge → Line → Line
writes bytes c l = record l {
  timing = wrote bytes c l.clock.at l.timing;
  written = take LONGEST_FRAME bytes;
}

-- What a write comes to: where the line fails while it clears, nothing is written.
abbrev pub WritesAs :
    Result Purge PortFault → List ℕ → Line → Tape → Result Unit PortFault → Line → Tape → Type 0
WritesAs (Ok c) bytes l t result new u =
    (new ≡ writes bytes c l) × (u ≡ after_write (is_ok result) t bytes)
WritesAs (Err e) bytes l t result new u = (new ≡ l) × (result ≡ Err e) × (u ≡ t)

abbrev pub Writes : List ℕ → Cleared → Result Unit PortFault → Line → Tape → Type 0
Writes bytes s result new u = WritesAs s.answer bytes s.line s.tape result new u

-- the clock is asked once, and then the line clears, where it has to
abbrev pub clears_for : List ℕ → Line → Tape → Cleared
clears_for bytes l t =
    cleared MOST_READS (clears.purge bytes (looked (moment_of t) l).clock.at l.timing)
    (looked (moment_of t) l) (after_moment t)
