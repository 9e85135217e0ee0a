-- For how long bytes have been coming, with no pause as long as a wait and no write.
use Rattle.std.specs.Prelude.{◌≡◌, ℕ, ◌-◌, nat_lt, Bool, true, false, refl}
use Rattle.ym_host.specs.declared.drip.Drip.{Drip}
use Rattle.ym_host.specs.declared.drip.Drip.TheVariants.{Nothing, Since}
use Rattle.ym_host.specs.declared.drip.TheConstants.{LONGEST_OF_REPLY, LONGEST_OF_FRAME}
use Rattle.ym_link.specs.declared.port.Got.{Got}
use Rattle.ym_link.specs.declared.port.Got.TheVariants as got
use Rattle.ym_timing.specs.declared.role.Role.{Role}
use Rattle.ym_timing.specs.declared.role.Role.TheVariants.{Sender, Receiver}

abbrev pub longest : Role → ℕ
longest Sender = LONGEST_OF_REPLY
longest Receiver = LONGEST_OF_FRAME

abbrev pub is_overdue : Role → ℕ → Drip → Bool
is_overdue role moment Nothing = false
is_overdue role moment (Since start) = nat_lt (longest role) (moment - start)

abbrev pub begins : ℕ → Drip → Drip
begins moment Nothing = Since moment
begins moment (Since start) = Since start

-- behind a read that got this, where the clock told this moment last
abbrev pub after : Got → ℕ → Drip → Drip
after got.Quiet moment drip = Nothing
after got.Closed moment drip = Nothing
after (got.Bytes n) moment drip = begins moment drip

-- ---- Examples

for_ten_waits :
    is_overdue Sender 100000 (after (got.Bytes 1) 50000 (after (got.Bytes 1) 0 Nothing)) ≡ false
for_ten_waits = refl

for_longer :
    is_overdue Sender 100001 (after (got.Bytes 1) 50000 (after (got.Bytes 1) 0 Nothing)) ≡ true
for_longer = refl

of_a_receiver : is_overdue Receiver 30001 (after (got.Bytes 1) 0 Nothing) ≡ true
of_a_receiver = refl

behind_a_pause :
    is_overdue Receiver 30001
    (after (got.Bytes 1) 20000 (after got.Quiet 10 (after (got.Bytes 1) 0 Nothing))) ≡ false
behind_a_pause = refl
