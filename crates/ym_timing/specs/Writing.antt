-- What a write makes of the machine (this profile).
--
-- An ask answers the write before it where it came so soon behind the reply before that no peer
-- can have asked because it waited. Where it came when the answer was overdue, no answer is
-- awaited but the next; else each copy may be answered.
use Rattle.std.specs.Prelude.{ℕ, ◌-◌, nat_eq, nat_lt, nat_le, ◌&&◌, ◌||◌, not, Bool, true, false}
use Rattle.std.specs.Prelude.{List, max, if◌then◌else◌}
use Rattle.ym_timing.specs.Clears.{is_new_frame, is_taken, vain_after}
use Rattle.ym_heard.specs.Ear as ear
use Rattle.ym_timing.specs.Arrivals.{new_arrivals}
use Rattle.ym_heard.specs.Hold as hold
use Rattle.ym_timing.specs.Out.{one, late, again, is_one}
use Rattle.ym_timing.specs.Pace.{bound, doubtful, last_sample, sure, wait}
use Rattle.ym_heard.specs.Sent.{next, is_same, opens}
use Rattle.ym_heard.specs.Times.{later}
use Rattle.ym_timing.specs.declared.purge.Purge.{Purge}
use Rattle.ym_timing.specs.declared.purge.Need.{Need}
use Rattle.ym_timing.specs.declared.purge.Need.TheVariants as need
use Rattle.ym_heard.specs.declared.limits.TheConstants.{FRAGMENT, LIKELY, PATIENCE}
use Rattle.ym_heard.specs.declared.limits.TheConstants.{SENDER_QUIET, SHAKEN, SOON, UNASKED}
use Rattle.ym_timing.specs.declared.out.Out.{Out}
use Rattle.ym_timing.specs.declared.out.Owed.{Owed}
use Rattle.ym_timing.specs.declared.out.Owed.TheVariants as owed
use Rattle.ym_timing.specs.declared.pace.Pace.{Pace}
use Rattle.ym_timing.specs.declared.pace.Trust.{Trust}
use Rattle.ym_timing.specs.declared.pace.Trust.TheVariants as trust
use Rattle.ym_timing.specs.declared.role.Role.{Role}
use Rattle.ym_timing.specs.declared.role.Role.TheVariants.{Sender, Receiver}
use Rattle.ym_heard.specs.declared.sent.Kind.{Kind}
use Rattle.ym_heard.specs.declared.sent.Kind.TheVariants as kind
use Rattle.ym_heard.specs.declared.sent.Sent.{Sent}
use Rattle.ym_timing.specs.declared.timing.Prefix.{Prefix}
use Rattle.ym_timing.specs.declared.timing.Timing.{Timing}

-- ---- How long answers take

abbrev pub vain_by : Need → Bool → Bool
vain_by need.Nothing has_brought = false
vain_by need.Quiet has_brought = false
vain_by need.Late has_brought = not has_brought
vain_by need.Several has_brought = not has_brought

-- answers were awaited while the line cleared, and none came
abbrev pub was_vain : Purge → Bool
was_vain c = vain_by c.need c.has_brought

abbrev pub cleared_by : Need → Bool
cleared_by need.Nothing = false
cleared_by _ = true

abbrev pub has_cleared : Purge → Bool
has_cleared c = cleared_by c.need

abbrev pub is_other : Role → Timing → Bool
is_other Sender t = true
is_other Receiver t = is_new_frame t

abbrev pub is_out : Owed → Bool
is_out owed.Nothing = false
is_out _ = true

-- only an answer that leads on is a sample: a repeat may be the other end's own timeout
abbrev pub leads_on : Bool → Timing → Bool
leads_on taken t = taken && is_other t.role t && is_out t.out.owed

-- a sender's answer came behind the first part of its wait, and no more time has passed: its clock
-- stands still, and the answer may have taken the whole wait
abbrev pub is_still : ℕ → Timing → Bool
is_still passed t = t.heard.is_late && nat_le passed PATIENCE

abbrev pub took_by : Role → ℕ → Timing → ℕ
took_by Sender passed t = if is_still passed t then wait t.role t.pace else passed
took_by Receiver passed t = passed

abbrev pub took : ℕ → Timing → ℕ
took written_at t = took_by t.role (t.heard.since - written_at) t

-- the ACK came no later than the line is let clear for where several answers may come
abbrev pub is_acked_soon : Timing → Bool
is_acked_soon t = not t.heard.is_late && nat_le (t.hold.at - t.out.first_at) SENDER_QUIET

abbrev pub stored_by : Role → Kind → Trust → Timing → Bool
stored_by Sender kind.Eot trust.Sure t = is_acked_soon t
stored_by _ _ _ t = false

-- the answer says more of the peer than of the line: behind an EOT a file is stored, and rb waits a
-- second before its ACK, and another one before its C
abbrev pub has_stored : Timing → Bool
has_stored t = stored_by t.role t.sent.kind t.pace.trust t

abbrev pub vain_in : Role → Purge → Bool
vain_in Sender c = was_vain c
vain_in Receiver c = false

-- where a sender's line brought nothing while it cleared, the answer was that of the last write
abbrev pub was_the_last : Purge → Timing → Bool
was_the_last c t = vain_in t.role c

-- where an answer to several may have come, the sample is a doubtful one
abbrev pub sample : Owed → ℕ → Timing → Pace
sample owed.Several took t = doubtful took t.pace
sample owed.Likely took t = doubtful took t.pace
sample _ took t = if has_stored t then t.pace else sure took t.pace

abbrev pub pace_of : Bool → ℕ → Timing → Pace
pace_of is_last took t = if is_last then last_sample took t.pace else sample t.out.owed took t

-- it counts from the first of the writes that are out, or from the last
abbrev pub answered_from : Bool → Timing → ℕ
answered_from is_last t = if is_last then t.out.last_at else t.out.first_at

abbrev pub pace_after : Purge → Timing → Pace
pace_after c t = pace_of (was_the_last c t) (took (answered_from (was_the_last c t) t) t) t

-- ---- Whose answers may be under way

abbrev pub soon_by : Trust → ℕ → ℕ
soon_by trust.Unknown slowest = SOON
soon_by trust.Doubtful slowest = max (UNASKED - slowest) SOON
soon_by trust.Sure slowest = max (UNASKED - slowest) SOON

abbrev pub soon : Timing → ℕ
soon t = soon_by t.pace.trust t.pace.slowest

-- the ask came so soon behind the reply before
abbrev pub asked_within : ℕ → Timing → Bool
asked_within long t =
    nat_lt 0 t.heard.count && (nat_eq t.heard.waits 0 && nat_le (t.heard.since - t.led_at) long)

-- the ask came too soon to be unasked
abbrev pub is_soon : Timing → Bool
is_soon t = asked_within (soon t) t

abbrev pub unproven_by : Trust → Kind → Bool
unproven_by trust.Unknown kind.Empty = true
unproven_by _ _ = false

-- Block 0 of a file without bytes, where nothing is known of the line. An end that started late may
-- hear asks that were unasked as if they were new. Two answers may come then, and nothing else
-- would show that one was taken for that of the EOT.
abbrev pub is_unproven : Timing → Bool
is_unproven t = unproven_by t.pace.trust t.sent.kind

abbrev pub prompted_by : Role → Owed → Timing → Bool
prompted_by Receiver o t = t.prefix.is_there && nat_le FRAGMENT t.heard.count
prompted_by Sender owed.One t = not (is_unproven t) && is_soon t
prompted_by Sender owed.Late t = not (is_unproven t) && is_soon t
prompted_by Sender owed.Likely t = false
prompted_by Sender owed.Several t = false
prompted_by Sender owed.Nothing t = false

abbrev pub is_prompted : Timing → Bool
is_prompted t = prompted_by t.role t.out.owed t

-- the ask came when the answer was overdue
abbrev pub is_overdue : Timing → Bool
is_overdue t = nat_lt 0 t.heard.count && nat_le (later t.out.last_at (bound t.pace)) t.heard.since

abbrev pub late_by : Role → Owed → Trust → Timing → Bool
late_by Sender owed.One trust.Sure t = is_overdue t
late_by Sender owed.Late trust.Sure t = is_overdue t
late_by _ _ _ t = false

abbrev pub is_late : Timing → Bool
is_late t = late_by t.role t.out.owed t.pace.trust t

abbrev pub likely_by : Owed → Trust → Timing → Bool
likely_by owed.One trust.Unknown t = opens t.sent.kind && asked_within LIKELY t
likely_by _ _ t = false

-- Nothing is known of the line, and the ask for block 0 came so soon that it most likely was
-- damaged. Only a line that delays and jitters brings an unasked one so soon.
abbrev pub is_likely : Timing → Bool
is_likely t = likely_by t.out.owed t.pace.trust t

abbrev pub unanswered : ℕ → Timing → Out
unanswered now t =
    if is_late t then late now else again (is_likely t) now t.out

abbrev pub out_by : Owed → Bool → ℕ → Timing → Out
out_by owed.Nothing taken now t = one now
out_by _ taken now t = if taken || is_prompted t then one now else unanswered now t

abbrev pub out_after : Bool → ℕ → Timing → Out
out_after taken now t = out_by t.out.owed taken now t

abbrev pub prefix_by : Role → Bool → Timing → Prefix
prefix_by Receiver taken t =
    if taken then record {
      is_there = true;
      first = t.heard.first;
      second =
          t.heard.second;
    } else t.prefix
prefix_by Sender taken t = t.prefix

abbrev pub prefix_after : Bool → Timing → Prefix
prefix_after taken t = prefix_by t.role taken t

-- ---- What an answer may be taken for

abbrev pub is_nak : Timing → Bool
is_nak t = nat_eq t.heard.first 0x15

abbrev pub is_eot : Kind → Bool
is_eot kind.Eot = true
is_eot _ = false

-- a receiver that confirms twice refuses each EOT once: that says nothing of the line
abbrev pub is_first_refusal : Timing → Bool
is_first_refusal t = is_eot t.sent.kind && (is_nak t && not t.is_refused)

abbrev pub refused_by : Role → Kind → Bool → Timing → Bool
refused_by Sender kind.Eot is_repeat t = is_repeat && (t.is_refused || is_nak t)
refused_by _ _ is_repeat t = t.is_refused

abbrev pub is_refused_after : Bool → Timing → Bool
is_refused_after is_repeat t = refused_by t.role t.sent.kind is_repeat t

-- Behind whatever else a sender writes again an answer too many may come. The line is calm where a
-- data block behind it led on that was not written again.
abbrev pub shaken_by : Role → Timing → ℕ
shaken_by Sender t = if is_first_refusal t then t.shaken else SHAKEN
shaken_by Receiver t = t.shaken

abbrev pub shaken_by_copy : Timing → ℕ
shaken_by_copy t = shaken_by t.role t

abbrev pub calmer : Kind → ℕ → ℕ
calmer kind.Data shaken = shaken - 1
calmer _ shaken = shaken

-- the line had to clear, and more than one answer may have come
abbrev pub is_shaken_by : Purge → Timing → Bool
is_shaken_by c t = has_cleared c && not (is_one t.out.owed)

abbrev pub shaken_behind : Purge → Timing → ℕ
shaken_behind c t =
    if is_shaken_by c t then max (calmer t.sent.kind t.shaken) 1 else calmer t.sent.kind t.shaken

abbrev pub shaken_after : Bool → Purge → Timing → ℕ
shaken_after is_repeat c t = if is_repeat then shaken_by_copy t else shaken_behind c t

-- block 1 behind block 0
abbrev pub first_kinds : Kind → Kind → Bool
first_kinds kind.Opening kind.Data = true
first_kinds kind.Empty kind.Data = true
first_kinds _ _ = false

abbrev pub is_first_block : Sent → Sent → Bool
is_first_block last n = first_kinds last.kind n.kind

-- Block 0 of a file without bytes, and an EOT right behind one. The EOT of such a file is
-- acknowledged also by a receiver that never saw its block 0, so nothing else would show it.
abbrev pub empty_kinds : Kind → Kind → Bool
empty_kinds last kind.Empty = true
empty_kinds kind.Opening kind.Eot = true
empty_kinds kind.Empty kind.Eot = true
empty_kinds _ _ = false

abbrev pub is_of_empty_file : Sent → Sent → Bool
is_of_empty_file last n = empty_kinds last.kind n.kind

-- a frame of a file without bytes, on a line that is shaken
abbrev pub is_unsafe : Sent → ℕ → Timing → Bool
is_unsafe n shaken t = nat_lt 0 shaken && is_of_empty_file t.sent n

-- The first ACK may be that of a copy of the frame before: of block 0, where it most likely was
-- damaged or several copies may be answered, or of what stands before such a frame. Ends ask for
-- block 0 while it is under way, where a line stands still or one of them starts late.
abbrev pub is_doubted : Sent → Bool → ℕ → Timing → Bool
is_doubted n taken shaken t = by t.out.owed
  where
    by : Owed → Bool
    by owed.Likely = taken
    by owed.Several = taken && is_first_block t.sent n || is_unsafe n shaken t
    by _ = is_unsafe n shaken t

-- ---- The write

abbrev pub wrote_next : Sent → Purge → ℕ → Timing → Timing
wrote_next n c now t = record {
  role = t.role;
  pace = if leads_on (is_taken n t) t then pace_after c t else t.pace;
  out = out_after (is_taken n t) now t;
  sent = n;
  led_at = if nat_lt 0 t.heard.count then t.heard.last else now;
  heard = new_arrivals;
  ear = ear.wrote t.ear;
  hold = hold.wrote n.kind (is_same t.sent n)
      (is_doubted n (is_taken n t) (shaken_after (is_same t.sent n) c t) t) now t.hold;
  echoed = 0;
  prefix = prefix_after (is_taken n t) t;
  shaken = shaken_after (is_same t.sent n) c t;
  is_refused = is_refused_after (is_same t.sent n) t;
  vain = vain_after t.vain c;
  has_cancel = t.has_cancel;
}

-- these bytes were written, behind this purge
abbrev pub wrote : List ℕ → Purge → ℕ → Timing → Timing
wrote bytes c now t = wrote_next (next t.sent bytes) c now t
