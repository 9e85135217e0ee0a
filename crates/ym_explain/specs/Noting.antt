-- What is seen of a session, event by event.
use Rattle.std.specs.Prelude.{ℕ, ◌+◌, ◌-◌, ◌==◌, min, nat_lt, not, Bool, true, false, ◌&&◌, ◌||◌, if◌then◌else◌, List, [], ◌∷◌}
use Rattle.ym_frame.specs.declared.control.Control.{Control}
use Rattle.ym_frame.specs.declared.control.Control.TheVariants.{Ack, Nak, Start, Can}
use Rattle.ym_explain.specs.Asking.{behind_junk}
use Rattle.ym_explain.specs.declared.asking.Asking.{Asking}
use Rattle.ym_explain.specs.declared.asking.Asking.TheVariants.{Nothing, Usual}
use Rattle.ym_explain.specs.declared.told.FrameKind.{FrameKind}
use Rattle.ym_explain.specs.declared.told.FrameKind.TheVariants as kind
use Rattle.ym_explain.specs.declared.told.SendPosition.{SendPosition}
use Rattle.ym_explain.specs.declared.told.SendPosition.TheVariants as position
use Rattle.ym_explain.specs.declared.signs.Sign.{Sign}
use Rattle.ym_explain.specs.declared.signs.Sign.TheVariants as sign
use Rattle.ym_explain.specs.declared.signs.Signs.{Signs}

abbrev pub nothing_seen : Signs
nothing_seen = record {
  asked = false;
  framed = false;
  eot = false;
  damaged = false;
  headed = false;
  unmended = false;
  mended = false;
  short = false;
  junk = false;
  high = false;
  flow = false;
  sub = false;
  unnamed = false;
  cut_length = false;
  past_length = false;
  no_room = false;
  zmodem = false;
  echoed = false;
  back_high = false;
  nak_first = false;
  asking = Nothing;
  heard = false;
  out = 0;
  repeated = false;
  unanswered = 0;
  over = false;
  finished = false;
  ahead = false;
  went_on = false;
  took_unseen = false;
  refusals = 0;
  gave_up = false;
  sender_cancelled = false;
  receiver_cancelled = false;
}

abbrev pub asks_nothing : Asking → Bool
asks_nothing Nothing = true
asks_nothing asking = false

-- the receiver asked and answered nothing
abbrev pub is_unheard : Signs → Bool
is_unheard seen =
    not (seen.asked || seen.heard || seen.ahead || seen.receiver_cancelled || seen.echoed)
    && asks_nothing seen.asking

-- the sender wrote nothing
abbrev pub is_unsent : Signs → Bool
is_unsent seen =
    not (seen.framed || seen.damaged || seen.eot)
    && not (seen.junk || seen.zmodem || seen.sender_cancelled)

-- one frame more has no answer; eight bits count them
abbrev pub one_more : ℕ → ℕ
one_more out = min (out + 1) 255

-- any frame has no answer yet
abbrev pub with_frame : Signs → Signs
with_frame seen = record seen { out = one_more seen.out; unanswered = one_more seen.unanswered }

abbrev pub with_eot : Signs → Signs
with_eot seen = record (with_frame seen) { eot = true }

-- the end of the batch does not count
abbrev pub without_end : Signs → Signs
without_end seen = record seen { over = false; finished = false }

-- what tells seven bits, flow control and a line that takes SUB: the bytes themselves
abbrev pub with_byte : Signs → ℕ → Signs
with_byte seen byte = record seen {
  high = seen.high || not (nat_lt byte 0x80);
  flow = seen.flow || byte == 0x11 || byte == 0x13;
  sub = seen.sub || byte == 0x1a;
}

abbrev pub with_bytes : Signs → List ℕ → Signs
with_bytes seen [] = seen
with_bytes seen (byte ∷ more) = with_bytes (with_byte seen byte) more

abbrev pub with_damage : Signs → Bool → Bool → Signs
with_damage seen short headed = record (with_frame seen) {
  damaged = true;
  headed = seen.headed || headed;
  short = seen.short || short;
  unmended = true;
}

-- the first block has no block 0 before it
abbrev pub is_unnamed : SendPosition → FrameKind → Bool
is_unnamed position.Before kind.OutOfTurn = true
is_unnamed at kind = false

abbrev pub is_end : FrameKind → Bool
is_end kind.End = true
is_end kind = false

abbrev pub is_copy : FrameKind → Bool
is_copy kind.Copy = true
is_copy kind = false

-- a block behind the end that is no copy of it is of another batch
abbrev pub is_of_another : SendPosition → FrameKind → Bool
is_of_another position.Over kind.Copy = false
is_of_another position.Over kind = true
is_of_another at kind = false

-- How the batch before ended tells nothing of the one that is under way.
abbrev pub in_batch : Signs → SendPosition → FrameKind → Signs
in_batch seen at kind =
    if is_of_another at kind
    then record (without_end seen) { sender_cancelled = false; receiver_cancelled = false }
    else seen

abbrev pub is_next : FrameKind → Bool
is_next kind.Data = true
is_next kind = false

abbrev pub with_kind : Signs → SendPosition → FrameKind → Signs
with_kind seen at kind = record (with_frame seen) {
  went_on = seen.went_on || is_next kind && is_unheard seen;
  framed = true;
  unmended = false;
  mended = seen.mended || seen.unmended;
  unnamed = is_unnamed at kind || seen.unnamed;
  over = is_end kind || seen.over;
  repeated = is_copy kind || seen.repeated;
}

abbrev pub with_block : Signs → SendPosition → FrameKind → Signs
with_block seen at kind = with_kind (in_batch seen at kind) at kind

-- An ACK is for a frame that is out. The last is for the block that ends the batch.
abbrev pub with_ack : Signs → Signs
with_ack seen =
    if nat_lt 0 seen.out
    then record seen {
      refusals = 0;
      unanswered = 0;
      out = seen.out - 1;
      heard = true;
      finished = seen.finished || seen.over;
    }
    else record seen {
      refusals = 0;
      unanswered = 0;
      ahead = true;
      took_unseen = seen.took_unseen || seen.asked && is_unsent seen;
    }

-- a NAK asks before any whole block, and refuses one behind it
abbrev pub asking_by_nak : Signs → Asking
asking_by_nak seen = if seen.framed then seen.asking else Usual

-- Nothing was asked or sent. An EOT may be the end of a file whose blocks were not recorded: a NAK
-- behind it answers it.
abbrev pub is_quiet : Signs → Bool
is_quiet seen = not (seen.asked || seen.framed || seen.damaged || seen.eot)

-- the tenth refusal in a row, and all behind it, are too many
abbrev pub with_nak : Signs → Signs
with_nak seen =
    if nat_lt seen.refusals 9
    then record seen {
      out = seen.out - 1;
      unanswered = 0;
      heard = seen.heard || nat_lt 0 seen.out;
      nak_first = seen.nak_first || is_quiet seen;
      asking = asking_by_nak seen;
      refusals = seen.refusals + 1;
    }
    else record seen {
      out = seen.out - 1;
      unanswered = 0;
      heard = seen.heard || nat_lt 0 seen.out;
      nak_first = seen.nak_first || is_quiet seen;
      asking = asking_by_nak seen;
      refusals = 10;
      gave_up = true;
    }

abbrev pub with_answer : Signs → Control → Signs
with_answer seen Start = record seen { asked = true; asking = Usual; unanswered = 0 }
with_answer seen Ack = with_ack seen
with_answer seen Nak = with_nak seen
with_answer seen Can = seen

-- An ACK behind which the receiver cancels is none. A sender that cancels behind its end has heard
-- none.
abbrev pub noted : Signs → Sign → Signs
noted seen (sign.Byte byte) = with_byte seen byte
noted seen (sign.Block at kind) = with_block seen at kind
noted seen sign.Eot = with_eot seen
noted seen sign.SenderCancel = record (without_end seen) {
  sender_cancelled = seen.sender_cancelled || not seen.receiver_cancelled;
}
noted seen (sign.Damage short headed) = with_damage seen short headed
noted seen sign.Junk = record seen { junk = true }
noted seen sign.CutLength = record seen { cut_length = true }
noted seen sign.PastLength = record seen { past_length = true }
noted seen sign.NoRoom = record seen { no_room = true }
noted seen sign.Zmodem = record seen { zmodem = true }
noted seen sign.Echo = record seen { echoed = true }
noted seen (sign.Answer control) = with_answer seen control
noted seen sign.ReceiverCancel = record seen {
  receiver_cancelled = seen.receiver_cancelled || not seen.sender_cancelled;
  finished = false;
}
noted seen (sign.AnswerJunk byte) = record seen {
  back_high = seen.back_high || not (nat_lt byte 0x80);
  asking = if seen.framed then seen.asking else behind_junk seen.asking byte;
}

abbrev pub with_answer_junk : Signs → List ℕ → Signs
with_answer_junk seen [] = seen
with_answer_junk seen (byte ∷ more) = with_answer_junk (noted seen (sign.AnswerJunk byte)) more

-- what is seen behind all events, in order
abbrev pub seen_of : Signs → List Sign → Signs
seen_of seen [] = seen
seen_of seen (event ∷ more) = seen_of (noted seen event) more
