-- Why a terminal is not opened.
use Rattle.std.specs.Prelude.{ℤ, ◌==◌, ◌||◌, Option, Some, None, unsigned_abs, if◌then◌else◌}
use Rattle.std.specs.IoError.{error_kind, raw_os_error}
use Rattle.std.specs.declared.io.Error.{Error}
use Rattle.std.specs.declared.io.ErrorKind.{ErrorKind}
use Rattle.std.specs.declared.io.ErrorKind.TheVariants as kind
use Rattle.ym_host.specs.declared.tty.OpenFault.{OpenFault}
use Rattle.ym_host.specs.declared.tty.OpenFault.TheVariants as fault
use Rattle.ym_host.specs.declared.tty.TheConstants.{NO_DEVICE_OR_ADDRESS, NO_DEVICE}

-- an error that has no words of its own, by the number of the system
abbrev pub numbered : Option ℤ → Error → OpenFault
numbered None error = fault.System error
numbered (Some number) error =
    if (unsigned_abs number == NO_DEVICE_OR_ADDRESS) || (unsigned_abs number == NO_DEVICE)
    then fault.Absent else fault.System error

abbrev pub refusal_for : ErrorKind → Error → OpenFault
refusal_for kind.NotFound error = fault.Absent
refusal_for kind.PermissionDenied error = fault.Denied
refusal_for kind.ResourceBusy error = fault.Busy
refusal_for kind.IsADirectory error = fault.NoTerminal
refusal_for _ error = numbered (raw_os_error error) error

-- why the system refused, by its error
abbrev pub refusal_of : Error → OpenFault
refusal_of error = refusal_for (error_kind error) error
