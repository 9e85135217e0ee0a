-- What the numbers that C keeps stand for. Each stands for something.
use Rattle.std.specs.Prelude.{ℕ, Bool, true, false, ◌==◌, if◌then◌else◌}
use Rattle.ym_timing.specs.declared.purge.Need.{Need}
use Rattle.ym_timing.specs.declared.purge.Need.TheVariants as need
use Rattle.ym_timing.specs.declared.purge.Heed.{Heed}
use Rattle.ym_timing.specs.declared.purge.Heed.TheVariants as heed
use Rattle.ym_heard.specs.declared.ear.Echo.{Echo}
use Rattle.ym_heard.specs.declared.ear.Echo.TheVariants as echo
use Rattle.ym_heard.specs.declared.hold.FirstAck.{FirstAck}
use Rattle.ym_heard.specs.declared.hold.FirstAck.TheVariants as first_ack
use Rattle.ym_timing.specs.declared.out.Owed.{Owed}
use Rattle.ym_timing.specs.declared.out.Owed.TheVariants as owed
use Rattle.ym_timing.specs.declared.pace.Trust.{Trust}
use Rattle.ym_timing.specs.declared.pace.Trust.TheVariants as trust
use Rattle.ym_timing.specs.declared.role.Role.{Role}
use Rattle.ym_timing.specs.declared.role.Role.TheVariants.{Sender, Receiver}
use Rattle.ym_heard.specs.declared.sent.Kind.{Kind}
use Rattle.ym_heard.specs.declared.sent.Kind.TheVariants as kind
use Rattle.ym_timing.specs.declared.timing.Expected.{Expected}
use Rattle.ym_timing.specs.declared.timing.Expected.TheVariants as wait
use Rattle.ym_timing.specs.declared.timing.Vain.{Vain}
use Rattle.ym_timing.specs.declared.timing.Vain.TheVariants as vain

abbrev pub flag_of : ℕ → Bool
flag_of n = if n == 0 then false else true

abbrev pub role_of : ℕ → Role
role_of n = if n == 0 then Sender else Receiver

abbrev pub trust_of : ℕ → Trust
trust_of n = if n == 0 then trust.Unknown else (if n == 1 then trust.Doubtful else trust.Sure)

abbrev pub owed_of : ℕ → Owed
owed_of n =
    if n == 0 then owed.Nothing
    else (if n == 1 then owed.One
    else (if n == 2 then owed.Late else (if n == 3 then owed.Likely else owed.Several)))

abbrev pub kind_of : ℕ → Kind
kind_of n =
    if n == 0 then kind.Nothing
    else (if n == 1 then kind.Opening
    else (if n == 2 then kind.Empty
    else (if n == 3 then kind.Data
    else (if n == 4 then kind.Eot else (if n == 5 then kind.End else kind.Short)))))

abbrev pub first_ack_of : ℕ → FirstAck
first_ack_of n =
    if n == 0 then first_ack.Counts
    else (if n == 1 then first_ack.Doubted
    else (if n == 2 then first_ack.Dropped
    else (if n == 3 then first_ack.Brief else first_ack.Rested)))

-- with the first byte of a block, what may be its number, and how many bytes came back
abbrev pub echo_of : ℕ → ℕ → ℕ → ℕ → Echo
echo_of n first number place =
    if n == 0 then echo.Open
    else (if n == 1 then echo.Head first
    else (if n == 2 then echo.Number first number
    else (if n == 3 then echo.Goes place else echo.Broken)))

abbrev pub need_of : ℕ → Need
need_of n =
    if n == 0 then need.Nothing
    else (if n == 1 then need.Quiet else (if n == 2 then need.Late else need.Several))

abbrev pub heed_of : ℕ → Heed
heed_of n =
    if n == 0 then heed.Open
    else (if n == 1 then heed.Can else (if n == 2 then heed.Ack else heed.Other))

-- what a read waits for: 0 the first bytes of a delivery, any other more of it
abbrev pub wait_of : ℕ → Expected
wait_of n = if n == 0 then wait.Reply else wait.Within

-- what a read that waited in vain comes to
abbrev pub vain_code : Vain → ℕ
vain_code vain.Again = 0
vain_code vain.Ack = 1
vain_code vain.Quiet = 2
