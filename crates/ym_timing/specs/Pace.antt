-- How long answers take on a line (this profile).
--
-- An answer that came while one write was out is a sure sample; one that came while several were
-- is a doubtful one, and counts from the oldest. A repeat may be the other end's own timeout, and
-- is none.
use Rattle.std.specs.Prelude.{ℕ, ◌-◌, ◌/◌, nat_lt, nat_le, max, min, if◌then◌else◌}
use Rattle.ym_heard.specs.Times.{later}
use Rattle.ym_heard.specs.declared.limits.TheConstants.{MARGIN, FIRST_REPLY, FIRST_FRAME, LONGEST}
use Rattle.ym_heard.specs.declared.limits.TheConstants.{WITHIN}
use Rattle.ym_timing.specs.declared.pace.Pace.{Pace}
use Rattle.ym_timing.specs.declared.pace.Trust.{Trust}
use Rattle.ym_timing.specs.declared.pace.Trust.TheVariants.{Unknown, Doubtful, Sure}
use Rattle.ym_timing.specs.declared.role.Role.{Role}
use Rattle.ym_timing.specs.declared.role.Role.TheVariants.{Sender, Receiver}

abbrev pub new_pace : Pace
new_pace = record { slowest = 0; trust = Unknown }

-- behind this an answer is overdue
abbrev pub bound : Pace → ℕ
bound p = later (later p.slowest (p.slowest / 2)) MARGIN

abbrev pub taken_as : ℕ → Trust → Pace
taken_as took trust = record { slowest = took; trust = trust }

-- a doubtful sample says something only where no smaller sure one is known
abbrev pub doubtful : ℕ → Pace → Pace
doubtful took p = by p.trust
  where
    by : Trust → Pace
    by Sure = if nat_le took p.slowest then p else taken_as took Doubtful
    by Doubtful = taken_as took Doubtful
    by Unknown = taken_as took Doubtful

-- a sure one replaces a doubtful one, and a smaller one; a greater one falls by a quarter of the
-- difference
abbrev pub sure : ℕ → Pace → Pace
sure took p = by p.trust
  where
    by : Trust → Pace
    by Sure = if nat_lt took p.slowest
        then taken_as (p.slowest - (p.slowest - took) / 4) Sure else taken_as took Sure
    by Doubtful = taken_as took Sure
    by Unknown = taken_as took Sure

-- One behind which no other came is that of the last write, or that of the first, where the peer
-- never saw the others. So a greater doubtful one falls by a quarter, and stays doubtful.
abbrev pub last_sample : ℕ → Pace → Pace
last_sample took p = by p.trust
  where
    by : Trust → Pace
    by Doubtful = if nat_lt took p.slowest
        then taken_as (p.slowest - (p.slowest - took) / 4) Doubtful else taken_as took Sure
    by Sure = sure took p
    by Unknown = sure took p

abbrev pub first_wait : Role → ℕ
first_wait Sender = FIRST_REPLY
first_wait Receiver = FIRST_FRAME

-- how long an end waits for its answer: never less than at first
abbrev pub wait : Role → Pace → ℕ
wait role p = by p.trust
  where
    by : Trust → ℕ
    by Unknown = first_wait role
    by Doubtful = min (max (bound p) (first_wait role)) LONGEST
    by Sure = min (max (bound p) (first_wait role)) LONGEST

-- how long more of a delivery is waited for: by a sender that knows its line, no longer than until
-- an answer is overdue
abbrev pub within : Role → Pace → ℕ
within Receiver p = WITHIN
within Sender p = by p.trust
  where
    by : Trust → ℕ
    by Unknown = WITHIN
    by Doubtful = WITHIN
    by Sure = min (bound p) WITHIN
