-- What of a reply a sender hears later, or not at all (this profile).
--
-- Replies carry no number. What an EOT is answered shows whether the ACK before was its own: C
-- follows where the file is stored, and NAK where the EOT was refused. An ACK behind which the
-- peer cancels is none.
use Rattle.std.specs.Prelude.{ℕ, ◌-◌, nat_eq, nat_lt, nat_le, ◌&&◌, ◌||◌, not, Bool, true, false}
use Rattle.std.specs.Prelude.{if◌then◌else◌}
use Rattle.ym_heard.specs.Sent.{ends, opens}
use Rattle.ym_heard.specs.Times.{later}
use Rattle.ym_heard.specs.declared.hold.Hold.{Hold}
use Rattle.ym_heard.specs.declared.hold.Said.{Said}
use Rattle.ym_heard.specs.declared.hold.Say.{Say}
use Rattle.ym_heard.specs.declared.hold.Say.TheVariants as say
use Rattle.ym_heard.specs.declared.hold.FirstAck.{FirstAck}
use Rattle.ym_heard.specs.declared.hold.FirstAck.TheVariants as first_ack
use Rattle.ym_heard.specs.declared.limits.TheConstants.{BRIEF, MOMENT, RESTED, TOGETHER}
use Rattle.ym_heard.specs.declared.limits.TheConstants.{STALE_ASKS, WITHIN}
use Rattle.ym_heard.specs.declared.sent.Kind.{Kind}
use Rattle.ym_heard.specs.declared.sent.Kind.TheVariants as kind

abbrev pub new_hold : Hold
new_hold = record {
  is_held = false;
  at = 0;
  first_ack = first_ack.Counts;
  asks_left = 0;
  asked_at = 0;
}

-- Behind a copy a doubt stays. Behind another frame what was seen of an EOT does: of a line on
-- which something was written again nothing is known.
abbrev pub kept : Bool → FirstAck → FirstAck
kept true first_ack.Doubted = first_ack.Doubted
kept true first_ack.Dropped = first_ack.Dropped
kept false first_ack.Brief = first_ack.Brief
kept false first_ack.Rested = first_ack.Rested
kept _ _ = first_ack.Counts

-- an ACK may be another frame's, also where such a one was dropped and its C has not come
abbrev pub is_doubted : FirstAck → Bool
is_doubted first_ack.Doubted = true
is_doubted first_ack.Dropped = true
is_doubted _ = false

-- Behind a new block 0 some C are passed over. An ACK of the end block that is held stays where
-- that block is written again: it came behind the ask for that, which had crossed the block.
abbrev pub wrote : Kind → Bool → Bool → ℕ → Hold → Hold
wrote k is_repeat is_doubted now h = record h {
  is_held = ends k && is_repeat && h.is_held;
  first_ack =
      if is_doubted && not is_repeat then first_ack.Doubted else kept is_repeat h.first_ack;
  asks_left = if opens k && not is_repeat then STALE_ASKS else 0;
  asked_at = now;
}

abbrev pub holding : Bool → ℕ → FirstAck → Say → Hold → Said
holding is_held at w s h = record {
  hold = record h {
    is_held = is_held;
    at = at;
    first_ack =
        w;
  };
  say = s;
}

abbrev pub ack : FirstAck → ℕ → Hold → Said
ack w now h = holding true (if h.is_held then h.at else now) w say.Nothing h

-- A peer writes C right behind an EOT's ACK, as U-Boot does, or when it has waited, as rb does. In
-- between, it is the line that hands on later what was written at once.
abbrev pub seen_apart : ℕ → FirstAck
seen_apart apart =
    if nat_lt apart TOGETHER then first_ack.Brief
    else (if nat_le RESTED apart then first_ack.Rested else first_ack.Counts)

abbrev pub seen : ℕ → Hold → FirstAck
seen now h = seen_apart (now - h.at)

-- how long CAN CAN is listened for behind the ACK of the end block
abbrev pub moment : Hold → ℕ
moment h = by h.first_ack
  where
    by : FirstAck → ℕ
    by first_ack.Rested = 0
    by first_ack.Brief = BRIEF
    by first_ack.Counts = MOMENT
    by first_ack.Doubted = MOMENT
    by first_ack.Dropped = MOMENT

-- C behind an ACK that is held says that the file is stored
abbrev pub stored : ℕ → Hold → Said
stored now h =
    if h.is_held then holding false h.at (seen now h) say.AckAndByte h
    else holding false h.at h.first_ack say.Byte h

abbrev pub start : ℕ → Hold → Said
start now h = by h.first_ack
  where
    by : FirstAck → Said
    by first_ack.Dropped = holding h.is_held h.at first_ack.Counts say.Nothing h
    by first_ack.Doubted = stored now h
    by first_ack.Counts = stored now h
    by first_ack.Brief = stored now h
    by first_ack.Rested = stored now h

-- the first ACK C may be that of a copy of the frame before
abbrev pub eot_ack : ℕ → Hold → Said
eot_ack now h =
    if is_doubted h.first_ack then holding false h.at first_ack.Dropped say.Nothing h
    else ack first_ack.Counts now h

abbrev pub at_eot : ℕ → ℕ → Hold → Said
at_eot byte now h =
    if nat_eq byte 0x06 then eot_ack now h
    else (if nat_eq byte 0x43 then start now h
    else (if nat_eq byte 0x15 then holding false h.at first_ack.Counts say.Byte h
    else holding false h.at h.first_ack say.Byte h))

-- What a peer prints behind the ACK of the end block may have C in it, or NAK: CAN alone takes that
-- ACK back. C right behind the ACK of block 1 shows that it was that of a copy of block 0.
abbrev pub passes : Bool → ℕ → Hold → Bool
passes is_end byte h = h.is_held && (if is_end then not (nat_eq byte 0x18) else nat_eq byte 0x43)

-- behind a frame whose ACK is held for a moment: C behind block 1 takes it away, and is not heard
abbrev pub at_moment : Bool → ℕ → ℕ → Hold → Said
at_moment is_end byte now h =
    if nat_eq byte 0x06 then ack h.first_ack now h
    else (if passes is_end byte h then holding is_end h.at h.first_ack say.Nothing h
    else holding false h.at h.first_ack say.Byte h)

-- the end block, or a block 1 whose ACK may be that of a copy of block 0
abbrev pub has_moment : Kind → Hold → Bool
has_moment k h = by k h.first_ack
  where
    by : Kind → FirstAck → Bool
    by kind.End _ = true
    by kind.Data first_ack.Doubted = true
    by _ _ = false

-- C alone right behind a new block 0 asks for what is on its way
abbrev pub is_stale : ℕ → Bool → ℕ → Hold → Bool
is_stale byte is_first now h =
    nat_eq byte 0x43 && is_first && nat_lt 0 h.asks_left && nat_lt now (later h.asked_at WITHIN)

abbrev pub other : Kind → ℕ → ℕ → Hold → Said
other k byte now h =
    if has_moment k h then at_moment (ends k) byte now h else record { hold = h; say = say.Byte }

abbrev pub by_kind : Kind → ℕ → ℕ → Hold → Said
by_kind kind.Eot byte now h = at_eot byte now h
by_kind k byte now h = other k byte now h

-- The EOT of a file without bytes is acknowledged also by a receiver that never saw its block 0. So
-- that block's own ACK has to come, where one may be that of a copy of the EOT before.
abbrev pub is_anothers : Kind → ℕ → Hold → Bool
is_anothers kind.Empty byte h = nat_eq byte 0x06 && is_doubted h.first_ack
is_anothers _ byte h = false

-- C behind an ACK that was dropped is that one's
abbrev pub started : Hold → FirstAck
started h = by h.first_ack
  where
    by : FirstAck → FirstAck
    by first_ack.Dropped = first_ack.Counts
    by known = known

-- that ACK is not heard, nor is the C behind it
abbrev pub passed_over : Bool → ℕ → Hold → Said
passed_over is_anothers now h = record {
  hold = record h {
    first_ack = if is_anothers then first_ack.Dropped else started h;
    asks_left = if is_anothers then STALE_ASKS else h.asks_left - 1;
    asked_at = now;
  };
  say = say.Nothing;
}

-- no control byte
abbrev pub is_noise : ℕ → Bool
is_noise byte =
    not (nat_eq byte 0x06) && (not (nat_eq byte 0x15) && (not (nat_eq byte 0x43)
    && not (nat_eq byte 0x18)))

-- a byte behind a write of this kind; noise takes no ACK back
abbrev pub control : Kind → ℕ → Bool → ℕ → Hold → Said
control kind byte is_first now h =
    if h.is_held && is_noise byte then record { hold = h; say = say.Nothing }
    else (if is_anothers kind byte h || is_stale byte is_first now h
    then passed_over (is_anothers kind byte h) now h else by_kind kind byte now h)

abbrev pub released : Hold → Hold
released h = record h { is_held = false }
