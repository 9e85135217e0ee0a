-- Why the system refused a call, in words.
use Rattle.std.specs.Prelude.{ℕ, ℤ, List, [], ◌∷◌, ◌++◌, ◌==◌, codes, decimal, Option, Some, None, unsigned_abs, if◌then◌else◌}
use Rattle.std.specs.IoError.{error_kind, raw_os_error}
use Rattle.std.specs.declared.io.Error.{Error}
use Rattle.std.specs.declared.io.ErrorKind.{ErrorKind}
use Rattle.std.specs.declared.io.ErrorKind.TheVariants as kind
use Rattle.ym_text.specs.declared.reason.Reason.{Reason}
use Rattle.ym_text.specs.declared.reason.Reason.TheVariants as why

abbrev pub reason_text : Reason → List ℕ
reason_text why.Absent = codes "no such file or directory"
reason_text why.Denied = codes "permission denied"
reason_text why.NoFolder = codes "not a directory"
reason_text why.NoRegularFile = codes "not a regular file"
reason_text why.Unsized = codes "the system does not tell its length; send a copy of it"
reason_text why.Replaced = codes "another file has taken its place since it was looked at"
reason_text why.Resized = codes "its length has changed since it was looked at"
reason_text why.ReadOnly = codes "read-only file system"
reason_text why.Unsupported = codes "the file system or the device does not support it"
reason_text why.Full = codes "no space left on device"
reason_text why.Closed = codes "nobody reads what is written to it"
reason_text why.Broken = codes "the other end broke the connection off"
reason_text why.Unreached = codes "the network does not lead there"
reason_text why.Late = codes "nothing answered in time"
reason_text why.PortInUse = codes "another program has this port"
reason_text why.NoPort = codes "no port of this machine is free for it"
reason_text why.Links = codes "too many levels of symbolic links"
reason_text why.NameLong = codes "the file system takes no name so long"
reason_text why.Large = codes "the file system or a limit takes no file so large"
reason_text why.Busy = codes "another program uses it"
reason_text why.Stale = codes "it was removed on the machine that has it"
reason_text why.Memory = codes "out of memory"
reason_text why.Broke = codes "the device failed, or was unplugged"
reason_text why.NoDevice = codes "no such device"
reason_text why.NotOpen = codes "it is closed, or not open for this"
reason_text why.ManyOpen = codes "too many files are open"
reason_text why.Interrupted = codes "a signal interrupted it each time"
reason_text why.NotReady = codes "it was not ready"
reason_text why.IsThere = codes "it is there already"
reason_text why.Elsewhere = codes "it is on another file system"
reason_text why.NoLocks = codes "no lock can be had for it"
reason_text why.Damaged = codes "its file system is damaged"
reason_text why.NameOdd = codes "the file system takes no such characters in a name"
reason_text why.NoMedium = codes "no medium is in it"
reason_text why.NoKey = codes "the key that it is encrypted by is missing or has expired"
reason_text why.Unanswered = codes "nobody listens there"
reason_text (why.Number number) = codes "error " ++ (decimal number ++ codes " of the system")
reason_text why.Other = codes "the system refused it"

-- one of the program's own has no number: a file is not what it has to be
abbrev pub invalid : Option ℤ → Reason
invalid None = why.NoRegularFile
invalid (Some number) = why.Unsupported

-- one of the program's own has no number: another file stands where one was looked at
abbrev pub stale : Option ℤ → Reason
stale None = why.Replaced
stale (Some number) = why.Stale

-- those that have a number of the system, and no kind of their own: EIO, ENXIO, EBADF, ENODEV,
-- ENFILE, EMFILE, ENOTTY, ENOLCK, ENODATA, ETIME, ENONET, ENOLINK, EPROTO, EBADMSG, EOVERFLOW,
-- EILSEQ, ENETRESET, ENOBUFS, ESHUTDOWN, EHOSTDOWN, EUCLEAN, EREMOTEIO, ENOMEDIUM, ENOKEY,
-- EKEYEXPIRED, EKEYREVOKED, EKEYREJECTED and EHWPOISON
abbrev pub reasons : List (ℕ × Reason)
reasons =
    (5, why.Broke) ∷ (6, why.NoDevice) ∷ (9, why.NotOpen) ∷ (19, why.NoDevice)
    ∷ (23, why.ManyOpen) ∷ (24, why.ManyOpen) ∷ (25, why.Unsupported) ∷ (37, why.NoLocks)
    ∷ (61, why.Broke) ∷ (62, why.Late) ∷ (64, why.Unreached) ∷ (67, why.Unreached)
    ∷ (71, why.Broke) ∷ (74, why.Damaged) ∷ (75, why.Large) ∷ (84, why.NameOdd)
    ∷ (102, why.Broken) ∷ (105, why.Memory) ∷ (108, why.Broke) ∷ (112, why.Unreached)
    ∷ (117, why.Damaged) ∷ (121, why.Broke) ∷ (123, why.NoMedium) ∷ (126, why.NoKey)
    ∷ (127, why.NoKey) ∷ (128, why.NoKey) ∷ (129, why.NoKey) ∷ (133, why.Broke) ∷ []

-- one that has no words of its own is told by its number
abbrev pub reason_in : List (ℕ × Reason) → ℕ → Reason
reason_in [] number = why.Number number
reason_in (row ∷ rows) number = if number == row.0 then row.1 else reason_in rows number

abbrev pub numbered : Option ℤ → Reason
numbered None = why.Other
numbered (Some number) = reason_in reasons (unsigned_abs number)

abbrev pub reason_for : ErrorKind → Option ℤ → Reason
reason_for kind.NotFound number = why.Absent
reason_for kind.PermissionDenied number = why.Denied
reason_for kind.NotADirectory number = why.NoFolder
reason_for kind.IsADirectory number = why.NoRegularFile
reason_for kind.InvalidInput number = invalid number
reason_for kind.Unsupported number = why.Unsupported
reason_for kind.ReadOnlyFilesystem number = why.ReadOnly
reason_for kind.StorageFull number = why.Full
reason_for kind.QuotaExceeded number = why.Full
reason_for kind.BrokenPipe number = why.Closed
reason_for kind.ConnectionReset number = why.Broken
reason_for kind.ConnectionAborted number = why.Broken
reason_for kind.NotConnected number = why.Broken
reason_for kind.HostUnreachable number = why.Unreached
reason_for kind.NetworkUnreachable number = why.Unreached
reason_for kind.NetworkDown number = why.Unreached
reason_for kind.TimedOut number = why.Late
reason_for kind.AddrInUse number = why.PortInUse
reason_for kind.AddrNotAvailable number = why.NoPort
reason_for kind.FilesystemLoop number = why.Links
reason_for kind.InvalidFilename number = why.NameLong
reason_for kind.FileTooLarge number = why.Large
reason_for kind.ResourceBusy number = why.Busy
reason_for kind.ExecutableFileBusy number = why.Busy
reason_for kind.StaleNetworkFileHandle number = stale number
reason_for kind.OutOfMemory number = why.Memory
reason_for kind.InvalidData number = why.Unsized
reason_for kind.UnexpectedEof number = why.Resized
reason_for kind.Interrupted number = why.Interrupted
reason_for kind.WouldBlock number = why.NotReady
reason_for kind.WriteZero number = why.NotReady
reason_for kind.AlreadyExists number = why.IsThere
reason_for kind.CrossesDevices number = why.Elsewhere
reason_for kind.ConnectionRefused number = why.Unanswered
reason_for _ number = numbered number

abbrev pub reason_of : Error → Reason
reason_of error = reason_for (error_kind error) (raw_os_error error)
