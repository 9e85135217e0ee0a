-- What an error of the host's system is told as, computed.
use Rattle.std.specs.Prelude.{◌≡◌, refl}
use Rattle.std.specs.declared.io.ErrorKind.TheVariants as kind
use Rattle.ym_answer.specs.Status.{fault_for}
use Rattle.ym_answer.specs.declared.command_fault.CommandFault.TheVariants as fault

-- no memory, a port that another program has, and a number that has no kind
told :
    (fault_for kind.OutOfMemory ≡ fault.Memory)
    × (fault_for kind.AddrInUse ≡ fault.Device)
    × (fault_for kind.Uncategorized ≡ fault.Device)
told = (refl, refl, refl)
