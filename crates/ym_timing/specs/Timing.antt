-- The machine: until when an end waits, and what it hears (this profile).
use Rattle.std.specs.Prelude.{ℕ, ◌+◌, ◌*◌, nat_eq, nat_lt, ◌&&◌, Bool, true, false, List, length}
use Rattle.std.specs.Prelude.{slice_index, max, if◌then◌else◌}
use Rattle.ym_heard.specs.Ear.{new_ear, listen}
use Rattle.ym_timing.specs.Arrivals.{new_arrivals, take_byte, take_reply, waited}
use Rattle.ym_heard.specs.Hold.{new_hold, control, moment, released}
use Rattle.ym_timing.specs.Out.{new_out}
use Rattle.ym_timing.specs.Pace as pace
use Rattle.ym_heard.specs.Sent as sent
use Rattle.ym_heard.specs.Times.{later}
use Rattle.ym_heard.specs.declared.ear.Listened.{Listened}
use Rattle.ym_heard.specs.declared.hold.Said.{Said}
use Rattle.ym_heard.specs.declared.hold.Say.{Say}
use Rattle.ym_heard.specs.declared.hold.Say.TheVariants as say
use Rattle.ym_heard.specs.declared.limits.TheConstants.{PATIENCE, WITHIN}
use Rattle.ym_timing.specs.declared.role.Role.{Role}
use Rattle.ym_timing.specs.declared.role.Role.TheVariants.{Sender, Receiver}
use Rattle.ym_heard.specs.declared.sent.Kind.{Kind}
use Rattle.ym_heard.specs.declared.sent.Kind.TheVariants as kind
use Rattle.ym_timing.specs.declared.timing.Timing.{Timing}
use Rattle.ym_timing.specs.declared.timing.Vain.{Vain}
use Rattle.ym_timing.specs.declared.timing.Vain.TheVariants as vain
use Rattle.ym_timing.specs.declared.timing.Expected.{Expected}
use Rattle.ym_timing.specs.declared.timing.Expected.TheVariants.{Reply, Within}

abbrev pub new_timing : Role → Timing
new_timing role = record {
  role = role;
  pace = pace.new_pace;
  out = new_out;
  sent = sent.nothing;
  led_at = 0;
  heard = new_arrivals;
  ear = new_ear;
  hold = new_hold;
  echoed = 0;
  prefix = record { is_there = false; first = 0; second = 0 };
  shaken = 0;
  is_refused = false;
  vain = 0;
  has_cancel = false;
}

-- ---- Until when an end waits

-- A sender's wait for a reply has parts. Each that is over has taken its time, whatever a clock
-- says.
abbrev pub part : Timing → ℕ
part t = (t.heard.waits + 1) * PATIENCE

abbrev pub early_in : Expected → Role → Timing → Bool
early_in Within role t = false
early_in Reply Receiver t = false
early_in Reply Sender t = nat_lt (part t) (pace.wait t.role t.pace)

-- it is not the last one
abbrev pub is_early : Expected → Timing → Bool
is_early wait t = early_in wait t.role t

abbrev pub end_of : Expected → ℕ → Timing → ℕ
end_of Within start t = later start (pace.within t.role t.pace)
end_of Reply start t =
    if is_early Reply t then later start (part t) else later start (pace.wait t.role t.pace)

-- behind these an ACK is held for a moment
abbrev pub holds_a_moment : Kind → Bool
holds_a_moment kind.End = true
holds_a_moment kind.Data = true
holds_a_moment _ = false

-- an ACK that is held is heard when a moment has passed, and behind an EOT it waits for its C as
-- long as that may take
abbrev pub until : Expected → ℕ → Timing → ℕ
until wait start t =
    if t.hold.is_held
    then (if holds_a_moment t.sent.kind then later t.hold.at (moment t.hold)
    else max (end_of wait start t) (later t.hold.at WITHIN))
    else end_of wait start t

abbrev pub is_acked : Timing → Bool
is_acked t = holds_a_moment t.sent.kind && t.hold.is_held

-- a read that waited in vain
abbrev pub vain_of : Expected → Timing → Vain
vain_of wait t = if is_acked t then vain.Ack else (if is_early wait t then vain.Again
    else vain.Quiet)

abbrev pub after_vain : Expected → ℕ → Timing → Timing
after_vain wait now t =
    if is_acked t then record t { hold = released t.hold; heard = take_reply 0x06 now t.heard }
    else (if is_early wait t then record t { heard = waited false t.heard }
    else record t { hold = released t.hold; heard = waited true t.heard })

-- ---- What comes

abbrev pub takes : Say → ℕ → ℕ → Timing → Timing
takes say.Nothing byte now t = t
takes say.Byte byte now t = record t { heard = take_reply byte now t.heard }
takes say.AckAndByte byte now t = record t { heard = take_reply byte now t.heard }
takes say.Start byte now t = record t { heard = take_reply byte now t.heard }

abbrev pub listened_to : ℕ → List ℕ → ℕ → Timing → Listened
listened_to byte frame now t = listen byte frame now t.ear

-- NAK behind the ACK of a block 0 that was written again asks for its data, as C does: rb says no C
-- where block 0 comes twice. Behind one that was written once it is of a receiver of XMODEM.
abbrev pub is_start : ℕ → Timing → Bool
is_start byte t =
    nat_eq byte 0x15 && nat_lt 0 t.heard.answers && nat_lt 1 t.out.copies && sent.opens t.sent.kind

-- what of a byte that its ear heard a sender says
abbrev pub controlled : ℕ → ℕ → Timing → Said
controlled byte now t =
    if is_start byte t then record { hold = t.hold; say = say.Start }
    else control t.sent.kind byte (nat_eq t.heard.count 0) now t.hold

abbrev pub reply_said : ℕ → List ℕ → ℕ → Timing → Say
reply_said byte frame now t =
    if (listened_to byte frame now t).is_heard then (controlled byte now t).say else say.Nothing

abbrev pub after_control : Said → ℕ → ℕ → Timing → Timing
after_control s byte now t = takes s.say byte now (record t { hold = s.hold })

abbrev pub after_ear : Listened → ℕ → ℕ → Timing → Timing
after_ear l byte now t =
    if l.is_heard
    then after_control (controlled byte now t) byte now (record t { ear = l.ear })
    else record t { ear = l.ear }

abbrev pub after_reply : ℕ → List ℕ → ℕ → Timing → Timing
after_reply byte frame now t = after_ear (listened_to byte frame now t) byte now t

-- what comes back of a receiver's reply, at the front, is no frame
abbrev pub is_echo : ℕ → List ℕ → Timing → Bool
is_echo byte reply t =
    nat_eq t.heard.count 0 && (nat_lt t.echoed (length reply)
    && nat_eq (slice_index reply t.echoed) byte)

abbrev pub after_echo : ℕ → List ℕ → Timing → Timing
after_echo byte reply t = if is_echo byte reply t then record t { echoed = t.echoed + 1 } else t

abbrev pub frame_said : ℕ → List ℕ → Timing → Say
frame_said byte reply t = if is_echo byte reply t then say.Nothing else say.Byte

abbrev pub after_frame : ℕ → List ℕ → ℕ → Timing → Timing
after_frame byte reply now t =
    if is_echo byte reply t
    then record t { echoed = t.echoed + 1 }
    else record t { heard = take_byte byte now t.heard }

abbrev pub said_by : Role → ℕ → List ℕ → ℕ → Timing → Say
said_by Sender byte written now t = reply_said byte written now t
said_by Receiver byte written now t = frame_said byte written t

abbrev pub after_by : Role → ℕ → List ℕ → ℕ → Timing → Timing
after_by Sender byte written now t = after_reply byte written now t
after_by Receiver byte written now t = after_frame byte written now t

-- a byte that came, where this was written last: what of it is heard, and the machine behind it
abbrev pub said : ℕ → List ℕ → ℕ → Timing → Say
said byte written now t = said_by t.role byte written now t

abbrev pub after_byte : ℕ → List ℕ → ℕ → Timing → Timing
after_byte byte written now t = after_by t.role byte written now t
