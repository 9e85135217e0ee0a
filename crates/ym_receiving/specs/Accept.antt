-- Why a connection cannot be taken: what passes, and what lasts.
use Rattle.std.specs.Prelude.{ℕ, ℤ, List, [], ◌∷◌, ◌==◌, ◌||◌, Bool, false, Option, Some, None, unsigned_abs}
use Rattle.std.specs.IoError.{raw_os_error}
use Rattle.std.specs.declared.io.Error.{Error}

-- EPERM, EINTR, EAGAIN, ENONET, EPROTO, ENOPROTOOPT, EOPNOTSUPP, ENETDOWN, ENETUNREACH,
-- ECONNABORTED, ECONNRESET, ETIMEDOUT, EHOSTDOWN and EHOSTUNREACH: this connection cannot be had
abbrev pub gone : List ℕ
gone =
    1 ∷ 4 ∷ 11 ∷ 64 ∷ 71 ∷ 92 ∷ 95 ∷ 100 ∷ 101 ∷ 103 ∷ 104 ∷ 110 ∷ 112 ∷ 113 ∷ []

-- ENOMEM, ENFILE, EMFILE and ENOBUFS: no memory or no descriptor is free for one
abbrev pub wanting : List ℕ
wanting = 12 ∷ 23 ∷ 24 ∷ 105 ∷ []

abbrev pub is_one_of : List ℕ → ℕ → Bool
is_one_of [] number = false
is_one_of (x ∷ numbers) number = number == x || is_one_of numbers number

abbrev pub passes_by : Option ℤ → Bool
passes_by None = false
passes_by (Some number) =
    is_one_of gone (unsigned_abs number) || is_one_of wanting (unsigned_abs number)

-- Another connection may be taken behind such an error. Behind any other none can be: the listener
-- itself is broken.
abbrev pub passes : Error → Bool
passes error = passes_by (raw_os_error error)
