-- Why the system refused a call, computed.
use Rattle.std.specs.Prelude.{◌≡◌, pos, codes, Some, None, refl}
use Rattle.std.specs.declared.io.ErrorKind.TheVariants as kind
use Rattle.ym_text.specs.declared.reason.Reason.TheVariants as why
use Rattle.ym_text.specs.Reasons.{reason_for, reason_text, numbered}

-- a connection that was reset at once, 104, and a standard output that is closed, 9
reset :
    (reason_for kind.ConnectionReset (Some (pos 104)) ≡ why.Broken)
    × (reason_text why.Broken ≡ codes "the other end broke the connection off")
reset = (refl, refl)

closed : reason_for kind.Uncategorized (Some (pos 9)) ≡ why.NotOpen
closed = refl

-- an adapter that was unplugged, and one that is gone
unplugged : (numbered (Some (pos 5)) ≡ why.Broke) × (numbered (Some (pos 6)) ≡ why.NoDevice)
unplugged = (refl, refl)

-- no lock, a call that was interrupted, a standard output that takes nothing
refused :
    (numbered (Some (pos 37)) ≡ why.NoLocks)
    × (reason_for kind.Interrupted (Some (pos 4)) ≡ why.Interrupted)
    × (reason_for kind.WouldBlock (Some (pos 11)) ≡ why.NotReady)
refused = (refl, refl, refl)

-- a file that was removed at its server, 116, and one that another one has taken the place of
replaced :
    (reason_for kind.StaleNetworkFileHandle (Some (pos 116)) ≡ why.Stale)
    × (reason_for kind.StaleNetworkFileHandle None ≡ why.Replaced)
replaced = (refl, refl)

-- a number that has no words, 8, and no number
others : (numbered (Some (pos 8)) ≡ why.Number 8) × (numbered None ≡ why.Other)
others = (refl, refl)
