-- When a line has to clear before a write, and when it is clear (this profile).
--
-- Answers to several writes come no later than answers take, and no farther apart than the writes
-- were: both are enough. A peer may have dropped copies between two that it answers, so as many
-- gaps are let pass as answers may come yet. Where an end or the line stood still they come in a
-- row, as soon as it goes on. While a peer waits in vain it asks; such asks are no answers, and
-- lengthen nothing.
use Rattle.std.specs.Prelude.{ℕ, ◌+◌, ◌-◌, ◌*◌, ◌/◌, ◌^◌, nat_eq, nat_lt, nat_le, ◌&&◌, ◌||◌, not, Bool}
use Rattle.std.specs.Prelude.{true, false, List, max, min, if◌then◌else◌}
use Rattle.ym_heard.specs.Ear.{listen}
use Rattle.ym_timing.specs.Arrivals.{is_noise}
use Rattle.ym_timing.specs.Pace.{bound}
use Rattle.ym_heard.specs.Sent.{next, is_same}
use Rattle.ym_heard.specs.Times.{later}
use Rattle.ym_timing.specs.declared.purge.Purge.{Purge}
use Rattle.ym_timing.specs.declared.purge.Heed.{Heed}
use Rattle.ym_timing.specs.declared.purge.Heed.TheVariants as heed
use Rattle.ym_timing.specs.declared.purge.Need.{Need}
use Rattle.ym_timing.specs.declared.purge.Need.TheVariants as need
use Rattle.ym_heard.specs.declared.limits.TheConstants.{APART, FAR, HALVINGS, HELD_UP, LONGEST}
use Rattle.ym_heard.specs.declared.limits.TheConstants.{MOMENT, RECEIVER_QUIET, SENDER_QUIET}
use Rattle.ym_timing.specs.declared.out.Owed.{Owed}
use Rattle.ym_timing.specs.declared.out.Owed.TheVariants as owed
use Rattle.ym_timing.specs.declared.pace.Trust.{Trust}
use Rattle.ym_timing.specs.declared.pace.Trust.TheVariants as trust
use Rattle.ym_timing.specs.declared.role.Role.{Role}
use Rattle.ym_timing.specs.declared.role.Role.TheVariants.{Sender, Receiver}
use Rattle.ym_heard.specs.declared.sent.Kind.{Kind}
use Rattle.ym_heard.specs.declared.sent.Kind.TheVariants as kind
use Rattle.ym_heard.specs.declared.sent.Sent.{Sent}
use Rattle.ym_timing.specs.declared.timing.Timing.{Timing}

-- ---- Whether it has to

-- what was heard was waited for
abbrev pub taken_by : Role → Sent → Timing → Bool
taken_by Sender n t = nat_lt 0 t.heard.count && not (is_same t.sent n)
taken_by Receiver n t = nat_lt 0 t.heard.count && not (is_noise t.heard) && not t.heard.is_quiet

abbrev pub is_taken : Sent → Timing → Bool
is_taken n t = taken_by t.role n t

-- this end was itself held up since it heard what it answers
abbrev pub was_held_up : ℕ → Timing → Bool
was_held_up now t =
    nat_lt 0 t.heard.count && not t.heard.is_quiet && nat_le (later t.heard.last HELD_UP) now

abbrev pub is_unsure : ℕ → Timing → Bool
is_unsure now t = is_noise t.heard || was_held_up now t

-- what was heard is another frame than the one before
abbrev pub is_new_frame : Timing → Bool
is_new_frame t =
    not (t.prefix.is_there && nat_eq t.prefix.first t.heard.first
    && nat_eq t.prefix.second t.heard.second)

-- Where it is the line that answers wait for, a frame came to a receiver once more, sooner behind
-- its last write than half of what an answer is known to take. So it answers the write before that,
-- if any: both ends had asked at once.
abbrev pub crossed_by : Role → Trust → Timing → Bool
crossed_by Receiver trust.Sure t =
    nat_le FAR t.pace.slowest
    && (not (is_new_frame t) && nat_lt t.heard.since (later t.out.last_at (t.pace.slowest / 2)))
crossed_by _ _ t = false

abbrev pub has_crossed : Timing → Bool
has_crossed t = crossed_by t.role t.pace.trust t

-- answers to several writes may be under way, and what was heard is one of them
abbrev pub several_by : Bool → Timing → Bool
several_by taken t = taken && not (has_crossed t)

abbrev pub ends_batch : Kind → Bool
ends_batch kind.End = true
ends_batch _ = false

-- A peer that asks again and again lets its own line clear before each ask, and drops what comes
-- meanwhile. Where answers take long, copies may come just then each time, as long behind an ask as
-- the way there and back takes. So each third one is put off. The end block's is not: whoever has
-- acknowledged that may be gone, and its ACK comes once.
abbrev pub put_off_by : Role → Owed → Kind → Bool
put_off_by Sender owed.Several k = not (ends_batch k)
put_off_by _ _ k = false

-- three writes were made, six or nine: at ten a sender gives up
abbrev pub comes_third : ℕ → Bool
comes_third copies = nat_eq copies 3 || nat_eq copies 6 || nat_eq copies 9

-- and the peer had waited before it asked once more
abbrev pub is_third : Timing → Bool
is_third t = comes_third t.out.copies && t.heard.is_late

abbrev pub is_put_off : Timing → Bool
is_put_off t =
    put_off_by t.role t.out.owed t.sent.kind && (is_third t && nat_le FAR t.pace.slowest)

abbrev pub need_by : Owed → Bool → Bool → Timing → Need
need_by owed.Several taken unsure t =
    if several_by taken t then need.Several
    else (if unsure || is_put_off t then need.Quiet else need.Nothing)
need_by owed.Late taken unsure t =
    if unsure then need.Quiet else (if taken then need.Late else need.Nothing)
need_by owed.One taken unsure t = if unsure then need.Quiet else need.Nothing
need_by owed.Likely taken unsure t = if unsure then need.Quiet else need.Nothing
need_by owed.Nothing taken unsure t = if unsure then need.Quiet else need.Nothing

abbrev pub need_of : Sent → ℕ → Timing → Need
need_of n now t = need_by t.out.owed (is_taken n t) (is_unsure now t) t

-- where answers may come yet to a sender it counts since the last of them
abbrev pub counted_by : Role → Need → Timing → ℕ
counted_by Sender need.Late t = t.heard.answered_at
counted_by Sender need.Several t = t.heard.answered_at
counted_by Sender need.Quiet t = t.heard.last
counted_by Sender need.Nothing t = t.heard.last
counted_by Receiver n t = t.heard.last

abbrev pub counted_from : Need → Timing → ℕ
counted_from n t = counted_by t.role n t

abbrev pub purge : List ℕ → ℕ → Timing → Purge
purge bytes now t = record {
  need = need_of (next t.sent bytes) now t;
  from = if was_held_up now t then now else counted_from (need_of (next t.sent bytes) now t) t;
  owed = t.out.copies - max t.heard.answers 1;
  answered_at = t.heard.last;
  end_at = later now LONGEST;
  has_brought = nat_lt 1 t.heard.answers;
  heed = if t.heard.is_ack then heed.Ack else heed.Open;
}

-- ---- Until when

abbrev pub halved : ℕ → ℕ → ℕ
halved quiet times =
    if nat_eq times 0 then quiet
    else (if nat_eq times 1 then quiet / 2
    else (if nat_eq times 2 then quiet / 4
    else (if nat_eq times 3 then quiet / 8 else quiet / 16)))

abbrev pub quiet_of : Role → ℕ
quiet_of Sender = SENDER_QUIET
quiet_of Receiver = RECEIVER_QUIET

-- so many times as far apart as two of the writes
abbrev pub gaps : ℕ → Timing → ℕ
gaps many t = min (t.out.gap * many) (2 ^ 64 - 1)

-- and a jitter
abbrev pub apart_until : ℕ → ℕ → Timing → ℕ
apart_until many from t = later (later from (gaps many t)) APART

-- A peer that never refused an EOT stores the file before it answers: rb takes a second.
abbrev pub stores_by : Role → Kind → Bool → ℕ
stores_by Sender kind.Eot false = SENDER_QUIET
stores_by _ _ _ = 0

abbrev pub stores_for : Timing → ℕ
stores_for t = stores_by t.role t.sent.kind t.is_refused

abbrev pub answers_until : Timing → ℕ
answers_until t = later (later t.out.last_at (bound t.pace)) (stores_for t)

-- as late as an answer may be; where nothing is known of that, as if each copy was answered
abbrev pub overdue_at : Trust → ℕ → Timing → ℕ
overdue_at trust.Unknown from t = apart_until 1 from t
overdue_at trust.Doubtful from t = answers_until t
overdue_at trust.Sure from t = answers_until t

-- where so many answers may come yet
abbrev pub several_until : ℕ → ℕ → Timing → ℕ
several_until many from t =
    max (later from (quiet_of t.role))
    (min (apart_until many from t) (overdue_at t.pace.trust from t))

abbrev pub late_quiet : Timing → ℕ
late_quiet t = min (later t.pace.slowest (2 * MOMENT)) (quiet_of t.role)

abbrev pub late_until : ℕ → Timing → ℕ
late_until from t = later from (max (halved (late_quiet t) t.vain) MOMENT)

-- the byte before was no ACK
abbrev pub is_apart : Heed → Bool
is_apart heed.Ack = false
is_apart _ = true

-- the last answer has come whole: a data block's is ACK alone, and behind block 0's ACK comes C
abbrev pub whole_by : Role → Kind → Heed → Bool
whole_by Sender kind.Data h = true
whole_by Sender kind.Opening h = is_apart h
whole_by Sender kind.Empty h = is_apart h
whole_by _ _ h = false

abbrev pub is_whole : Heed → Timing → Bool
is_whole h t = whole_by t.role t.sent.kind h

-- each copy of a block was answered
abbrev pub is_answered : Purge → Timing → Bool
is_answered c t = is_whole c.heed t && nat_eq c.owed 0

abbrev pub until_by : Need → Purge → Timing → ℕ
until_by need.Nothing c t = 0
until_by need.Quiet c t = later c.from (quiet_of t.role)
until_by need.Late c t = late_until c.from t
until_by need.Several c t =
    if is_answered c t then 0 else several_until (max c.owed 1) c.from t

-- CAN CAN ends it at once
abbrev pub clear_at : Purge → Timing → ℕ
clear_at c t = min (if t.has_cancel then 0 else until_by c.need c t) c.end_at

-- ---- What is dropped

-- CAN, where CAN CAN may stand: a receiver knows it at the front alone
abbrev pub may_stand : Role → Heed → Bool
may_stand role heed.Open = true
may_stand Sender heed.Ack = true
may_stand Sender heed.Other = true
may_stand Receiver heed.Ack = false
may_stand Receiver heed.Other = false
may_stand role heed.Can = false

-- to a receiver ACK is a byte like others
abbrev pub heeds_ack : Role → ℕ → Heed
heeds_ack Sender byte = if nat_eq byte 0x06 then heed.Ack else heed.Other
heeds_ack Receiver byte = heed.Other

abbrev pub heeds : Role → ℕ → Heed → Heed
heeds role byte h =
    if may_stand role h && nat_eq byte 0x18 then heed.Can else heeds_ack role byte

abbrev pub ends : ℕ → Heed → Bool
ends byte heed.Can = nat_eq byte 0x18
ends byte _ = false

-- An ACK answers one copy more where it came later than the one before, or not right behind it:
-- else a line may have doubled that one.
abbrev pub is_next : ℕ → Purge → Bool
is_next now c = nat_lt c.answered_at now || is_apart c.heed

abbrev pub brings : Bool → Bool → ℕ → Purge → Purge
brings counts answers now c = record c {
  from = if counts then now else c.from;
  owed = if answers && is_next now c then c.owed - 1 else c.owed;
  answered_at = if answers then now else c.answered_at;
  has_brought = true;
}

abbrev pub heeds_in : Role → ℕ → Purge → Purge
heeds_in role byte c = record c { heed = heeds role byte c.heed }

abbrev pub counts_all : Role → Need → Bool
counts_all Receiver n = true
counts_all Sender need.Quiet = true
counts_all Sender need.Nothing = false
counts_all Sender need.Late = false
counts_all Sender need.Several = false

abbrev pub heard_by : Role → ℕ → List ℕ → ℕ → Timing → Bool
heard_by Sender byte written now t = (listen byte written now t.ear).is_heard
heard_by Receiver byte written now t = true

abbrev pub with_ear : Role → ℕ → List ℕ → ℕ → Timing → Timing
with_ear Sender byte written now t = record t { ear = (listen byte written now t.ear).ear }
with_ear Receiver byte written now t = t

abbrev pub is_heard : ℕ → List ℕ → ℕ → Timing → Bool
is_heard byte written now t = heard_by t.role byte written now t

abbrev pub brought : Bool → Purge → ℕ → ℕ → Timing → Purge
brought heard c byte now t =
    brings (heard && nat_eq byte 0x06 || counts_all t.role c.need) (heard && nat_eq byte 0x06) now c

-- a byte that is dropped, where this was written last
abbrev pub dropped : Purge → ℕ → List ℕ → ℕ → Timing → Purge
dropped c byte written now t =
    if is_heard byte written now t
    then heeds_in t.role byte (brought true c byte now t)
    else brought false c byte now t

abbrev pub after_dropped : Purge → ℕ → List ℕ → ℕ → Timing → Timing
after_dropped c byte written now t =
    if is_heard byte written now t
    then record (with_ear t.role byte written now t) {
      has_cancel =
          t.has_cancel || ends byte c.heed;
    }
    else with_ear t.role byte written now t

-- how often in a row nothing came
abbrev pub one_more : ℕ → ℕ
one_more times = if nat_lt times HALVINGS then times + 1 else HALVINGS

abbrev pub vain_by : Need → Bool → ℕ → ℕ
vain_by need.Nothing has_brought times = times
vain_by need.Quiet has_brought times = times
vain_by need.Late has_brought times = if has_brought then 0 else one_more times
vain_by need.Several has_brought times = if has_brought then 0 else one_more times

abbrev pub vain_after : ℕ → Purge → ℕ
vain_after times c = vain_by c.need c.has_brought times
