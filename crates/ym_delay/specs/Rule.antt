-- A sender that lets the line clear by the program's rule: for how long that is enough.
--
-- Its port's clock is that by which the ends are measured here.
use Rattle.std.specs.Prelude.{◌≡◌, ◌⊎◌, ◌+◌, ◌-◌, ◌<◌, ◌≤◌, ◌^◌, ℕ, zero, suc, min, true, List, [], ◌∷◌}
use Rattle.ym_timing.specs.Clears.{is_answered, several_until}
use Rattle.ym_timing.specs.Pace.{bound}
use Rattle.ym_heard.specs.Times.{later}
use Rattle.ym_timing.specs.Writing.{is_late, is_likely, is_prompted, soon}
use Rattle.ym_timing.specs.declared.purge.Purge.{Purge}
use Rattle.ym_heard.specs.declared.limits.TheConstants.{APART, FIRST_FRAME, LIKELY, LONGEST}
use Rattle.ym_heard.specs.declared.limits.TheConstants.{SENDER_QUIET, UNASKED}
use Rattle.ym_timing.specs.declared.pace.Trust.{Trust}
use Rattle.ym_timing.specs.declared.pace.Trust.TheVariants.{Unknown, Doubtful, Sure}
use Rattle.ym_timing.specs.declared.role.Role.TheVariants.{Sender}
use Rattle.ym_timing.specs.declared.timing.Timing.{Timing}
use Rattle.ym_delay.specs.Cleared.{HandsLeft, ReadsAck, first_of, led_by, others_of}
use Rattle.ym_delay.specs.TimedLine.{AnsweredAt, SpokeAt, Times}

-- ---- What the rule knows

-- where it has seen how long answers take, none is overdue sooner than this behind its write
abbrev pub IsSeen : Trust → ℕ → Timing → Type 0
IsSeen Unknown span t = Unit {0}
IsSeen Doubtful span t = span ≤ bound t.pace
IsSeen Sure span t = span ≤ bound t.pace

-- where it has seen how long answers take, it was as long as one way, but for a quarter second
abbrev pub HasSeenTheWay : Trust → ℕ → Timing → Type 0
HasSeenTheWay Unknown oldest t = Unit {0}
HasSeenTheWay Doubtful oldest t = UNASKED + oldest ≤ t.pace.slowest + FIRST_FRAME
HasSeenTheWay Sure oldest t = UNASKED + oldest ≤ t.pace.slowest + FIRST_FRAME

-- Its clearing reaches so far behind the last of several writes, at this moment: by 1.25 seconds
-- since the last ACK; or by two seconds more than two of the writes were apart, if no answer is
-- overdue before.
abbrev pub Reaches : ℕ → ℕ → Timing → Type 0
Reaches span at t =
    (at + span ≤ t.heard.answered_at + SENDER_QUIET)
    ⊎ ((at + span ≤ t.heard.answered_at + t.out.gap + APART) × (span ≤ LONGEST)
    × IsSeen t.pace.trust span t)

-- ---- What it does

-- Of a write at the one moment several answers may come, and the next is at the other: the line is
-- clear by then, as it is when a write of the port returns (`a_cleared_line_was_quiet`).
pub record WaitsByRule (span at next : ℕ) : Type 0 where
  pub timing : Timing
  pub began : ℕ  -- when the line began to clear
  pub role : timing.role ≡ Sender
  pub last : at ≡ timing.out.last_at
  pub acked : at ≤ timing.heard.answered_at  -- an ACK came behind it
  pub before : timing.heard.answered_at ≤ began
  pub clear : min (several_until 1 timing.heard.answered_at timing) (later began LONGEST) ≤ next
  pub reaches : Reaches span at timing
  pub within : at + span < 2 ^ 64

-- It wrote again when the peer asked, and by what is sure the answer was overdue.
pub record CopiesLate (span at next : ℕ) : Type 0 where
  pub timing : Timing
  pub last : at ≡ timing.out.last_at
  pub late : is_late timing ≡ true
  pub since : timing.heard.since ≤ next  -- the ask came before
  pub seen : span ≤ bound timing.pace
  pub within : at + span < 2 ^ 64

-- It wrote again when the peer asked, so soon behind the reply before that it took the ask for the
-- answer to this write. The read ended as the ask came.
pub record CopiesSoon (times : Times) (led : ℕ) (s : SpokeAt) : Type 0 where
  pub timing : Timing
  pub role : timing.role ≡ Sender
  pub prompted : is_prompted timing ≡ true
  pub some : s.spoke.came ≡ [] → ⊥
  pub led_at : timing.led_at ≤ led  -- the reply before came by then
  pub since : s.by ≤ timing.heard.since
  pub waits : soon timing + times.oldest ≤ times.receiver_waits

-- It wrote a first block 0 again, which most likely was damaged, so soon behind the reply before.
pub record CopiesLikely (times : Times) (led : ℕ) (s : SpokeAt) : Type 0 where
  pub timing : Timing
  pub likely : is_likely timing ≡ true
  pub some : s.spoke.came ≡ [] → ⊥
  pub led_at : timing.led_at ≤ led  -- the reply before came by then
  pub since : s.by ≤ timing.heard.since
  pub waits : LIKELY + times.oldest ≤ times.receiver_waits

-- It goes on at once to another frame: behind the ACK that it heard so many were dropped that by
-- its count each copy of the block was answered.
pub record CountsByRule (more dropped : ℕ) (s next : SpokeAt) : Type 0 where
  pub timing : Timing
  pub purge : Purge
  pub answered : is_answered purge timing ≡ true
  pub copies : more ≤ timing.out.copies - 1
  pub counted : timing.out.copies - 1 ≤ purge.owed + dropped
  pub acked : ReadsAck s.spoke.came
  pub other : next.spoke.wrote ≡ s.spoke.wrote → ⊥

-- ---- A sender that goes by it

-- the way there and back, and the receiver's acting
abbrev pub span_of : Times → ℕ
span_of times = times.oldest + times.receiver_acts + times.oldest

abbrev pub GoesOn : Times → ℕ → ℕ → ℕ → SpokeAt → SpokeAt → Type 0
GoesOn times led zero dropped s next =
    next.spoke.wrote ≡ s.spoke.wrote →
    CopiesLate (span_of times) s.at next.at ⊎ (CopiesSoon times led s ⊎ CopiesLikely times led s)
GoesOn times led (suc more) dropped s next =
    (s.spoke.wrote ≡ [])
    ⊎ (WaitsByRule (span_of times) s.at next.at ⊎ CountsByRule (suc more) dropped s next)

-- What is written next is alone under way by the rule, or it is one more copy. So many ACKs are
-- dropped behind each read.
abbrev pub RuledFrom : Times → ℕ → ℕ → List ℕ → List SpokeAt → Type 0
RuledFrom times led more drops [] = Unit {0}
RuledFrom times led more drops (s ∷ []) = Unit {0}
RuledFrom times led more drops (s ∷ next ∷ spoke) =
    (GoesOn times led more (first_of drops) s next
    × RuledFrom times (led_by s.spoke.came s.by led) 0 (others_of drops) (next ∷ spoke))
    ⊎ ((next.spoke.wrote ≡ s.spoke.wrote)
    × RuledFrom times (led_by s.spoke.came s.by led) (suc more) (others_of drops) (next ∷ spoke))

pub record KeepsRule (times : Times) (spoke : List SpokeAt) (answered : List AnsweredAt) :
    Type 0 where
  pub drops : List ℕ
  pub back : HandsLeft times drops answered spoke
  pub ruled : RuledFrom times 0 0 drops spoke
