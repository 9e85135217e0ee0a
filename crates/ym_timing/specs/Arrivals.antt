-- What an end heard since it wrote (this profile).
use Rattle.std.specs.Prelude.{ℕ, ◌+◌, nat_eq, nat_lt, nat_le, ◌&&◌, ◌||◌, not, Bool}
use Rattle.std.specs.Prelude.{false, List, [], ◌∷◌, if◌then◌else◌, ◌-◌, ◌^◌, min}
use Rattle.ym_timing.specs.declared.arrivals.Arrivals.{Arrivals}
use Rattle.ym_heard.specs.declared.limits.TheConstants.{FULL}

abbrev pub new_arrivals : Arrivals
new_arrivals = record {
  count = 0;
  since = 0;
  last = 0;
  answered_at = 0;
  first = 0;
  second = 0;
  answers = 0;
  is_ack = false;
  is_quiet = false;
  waits = 0;
  is_late = false;
}

abbrev pub take_byte : ℕ → ℕ → Arrivals → Arrivals
take_byte byte now h = record h {
  count = if nat_lt h.count FULL then h.count + 1 else FULL;
  since = if nat_eq h.count 0 then now else h.since;
  last = now;
  first = if nat_eq h.count 0 then byte else h.first;
  second = if nat_eq h.count 1 then byte else h.second;
  is_quiet = false;
  is_late = if nat_eq h.count 0 then nat_lt 0 h.waits else h.is_late;
}

-- of a reply, whose ACK has its moment; one right behind another may be the same, doubled
abbrev pub take_reply : ℕ → ℕ → Arrivals → Arrivals
take_reply byte now h = record (take_byte byte now h) {
  answered_at = if nat_eq h.count 0 || nat_eq byte 0x06 then now else h.answered_at;
  answers =
      if nat_eq byte 0x06 && not h.is_ack then min (h.answers + 1) (2 ^ 8 - 1) else h.answers;
  is_ack = nat_eq byte 0x06;
}

-- bytes that came at one moment
abbrev pub take_bytes : List ℕ → ℕ → Arrivals → Arrivals
take_bytes [] now h = h
take_bytes (byte ∷ bytes) now h = take_bytes bytes now (take_byte byte now h)

abbrev pub waited : Bool → Arrivals → Arrivals
waited is_quiet h = record h { is_quiet = is_quiet; waits = min (h.waits + 1) (2 ^ 8 - 1) }

-- what filled a delivery is noise, and more of it is under way
abbrev pub is_noise : Arrivals → Bool
is_noise h = nat_le FULL h.count && not h.is_quiet
