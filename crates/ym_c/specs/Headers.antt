-- Block 0 as C sees it.
use Rattle.std.specs.Prelude.{ℕ, ◌≡◌, List, length, Result, Ok, Err}
use Rattle.ym_header.specs.Header.{IsUnfit, length_limit}
use Rattle.ym_header.specs.declared.fault.HeaderFault.{HeaderFault}
use Rattle.ym_header.specs.declared.reading.ZeroRef.{ZeroRef}
use Rattle.ym_header.specs.declared.reading.ZeroRef.TheVariants.{File, End}
use Rattle.ym_header.specs.declared.stamp.Stamp.{Stamp}
use Rattle.ym_header.specs.declared.stamp.Stamp.TheVariants.{Nothing, Time, TimeMode}
use Rattle.ym_c.specs.Codes.{header_fault_code}
use Rattle.ym_c.specs.declared.headers.YmHeader.{YmHeader}

abbrev pub IsStampTold : Stamp → YmHeader → Type 0
IsStampTold Nothing out = out.stamp ≡ 0
IsStampTold (Time time) out = (out.stamp ≡ 1) × (out.time ≡ time)
IsStampTold (TimeMode time mode) out = (out.stamp ≡ 2) × (out.time ≡ time) × (out.mode ≡ mode)

-- what the numbers tell of a block 0 that was read: a file, the end, or a fault
abbrev pub IsTold : Result ZeroRef HeaderFault → YmHeader → Type 0
IsTold (Ok (File h)) out =
    (out.kind ≡ 1) × (out.length ≡ h.length) × (out.name_len ≡ length h.name)
    × IsStampTold h.stamp out
IsTold (Ok End) out = out.kind ≡ 2
IsTold (Err fault) out = (out.kind ≡ 0) × (out.fault ≡ header_fault_code fault)

-- the number of why there is no header of this name and length
abbrev pub IsRefusal : List ℕ → ℕ → ℕ → Type 0
IsRefusal name len code =
    (fault : HeaderFault) × (code ≡ header_fault_code fault) × IsUnfit length_limit name len fault
