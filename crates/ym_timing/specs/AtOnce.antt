-- A write behind an answer on a clean line: nothing has to clear before it (this profile).
use Rattle.std.specs.Prelude.{◌≡◌, ℕ, ◌-◌, ◌&&◌, ◌||◌, not, Bool, true, false, nat_lt, nat_eq, List}
use Rattle.ym_timing.specs.Arrivals.{new_arrivals, is_noise}
use Rattle.ym_timing.specs.Clears.{is_new_frame, is_unsure}
use Rattle.ym_heard.specs.Ear as ear
use Rattle.ym_heard.specs.Hold as hold
use Rattle.ym_timing.specs.Out.{one, is_one}
use Rattle.ym_timing.specs.Pace.{sure}
use Rattle.ym_heard.specs.Sent.{is_same, next}
use Rattle.ym_heard.specs.Times.{later}
use Rattle.ym_heard.specs.declared.limits.TheConstants.{FULL, HELD_UP}
use Rattle.ym_timing.specs.declared.out.Owed.TheVariants as owed
use Rattle.ym_timing.specs.declared.role.Role.{Role}
use Rattle.ym_timing.specs.declared.role.Role.TheVariants.{Sender, Receiver}
use Rattle.ym_heard.specs.declared.sent.Kind.{Kind}
use Rattle.ym_heard.specs.declared.sent.Kind.TheVariants as kind
use Rattle.ym_heard.specs.declared.sent.Sent.{Sent}
use Rattle.ym_timing.specs.declared.timing.Timing.{Timing}

-- one answer was awaited, and came: nothing is on the line, as far as this end knows
pub record IsAnswered (now : ℕ) (t : Timing) : Type 0 where
  pub owed : t.out.owed ≡ owed.One
  pub some : nat_lt 0 t.heard.count ≡ true
  pub calm : is_unsure now t ≡ false
  pub still : t.shaken ≡ 0

-- a sender goes on to another block
pub record Follows (n : Sent) (now : ℕ) (t : Timing) : Type 0 where
  pub role : t.role ≡ Sender
  pub answered : IsAnswered now t
  pub last : t.sent.kind ≡ kind.Data
  pub next : n.kind ≡ kind.Data
  pub other : is_same t.sent n ≡ false
  pub prompt : t.heard.is_late ≡ false

-- a receiver writes the same reply to another frame
pub record Repeats (n : Sent) (now : ℕ) (t : Timing) : Type 0 where
  pub role : t.role ≡ Receiver
  pub answered : IsAnswered now t
  pub last : t.sent.kind ≡ kind.Eot
  pub next : n.kind ≡ kind.Eot
  pub same : is_same t.sent n ≡ true
  pub loud : t.heard.is_quiet ≡ false
  pub noise : is_noise t.heard ≡ false
  pub fresh : is_new_frame t ≡ true

-- what it makes of the machine
abbrev pub led : Bool → Sent → ℕ → Timing → Timing
led is_repeat n now t = record t {
  pace = sure (t.heard.since - t.out.first_at) t.pace;
  out = one now;
  sent = n;
  led_at = t.heard.last;
  heard = new_arrivals;
  ear = ear.wrote t.ear;
  hold = hold.wrote kind.Data is_repeat false now t.hold;
  echoed = 0;
}

-- ---- Which writes these are

abbrev pub is_answered : ℕ → Timing → Bool
is_answered now t =
    is_one t.out.owed && (nat_lt 0 t.heard.count && nat_lt t.heard.count FULL)
    && nat_lt now (later t.heard.last HELD_UP) && nat_eq t.shaken 0

abbrev pub follows : Sent → ℕ → Timing → Bool
follows n now t = by t.role t.sent.kind n.kind
  where
    by : Role → Kind → Kind → Bool
    by Sender kind.Data kind.Data =
        is_answered now t && not (is_same t.sent n) && not t.heard.is_late
    by _ _ _ = false

abbrev pub repeats : Sent → ℕ → Timing → Bool
repeats n now t = by t.role t.sent.kind n.kind
  where
    by : Role → Kind → Kind → Bool
    by Receiver kind.Eot kind.Eot =
        is_answered now t && not t.heard.is_quiet && (is_same t.sent n && is_new_frame t)
    by _ _ _ = false

abbrev pub goes_at_once : List ℕ → ℕ → Timing → Bool
goes_at_once bytes now t = follows (next t.sent bytes) now t || repeats (next t.sent bytes) now t
