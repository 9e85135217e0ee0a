-- Why a capture is not told to its end, in words.
use Rattle.std.specs.Prelude.{◌≡◌, ◌≢◌, ℕ, List, ◌++◌, codes, decimal, Result, Err}
use Rattle.ym_capture.specs.CaptureWords.{capture_words}
use Rattle.ym_capture.specs.declared.fault.CaptureFault.{CaptureFault}
use Rattle.ym_file.specs.Counts.{Counted}
use Rattle.ym_inspect.specs.declared.fault.InspectFault.{InspectFault}
use Rattle.ym_inspect.specs.declared.fault.InspectFault.TheVariants.{Memory, Read, Write, Endless, Line, Cut, Pcapng, Packet}
use Rattle.ym_inspect.specs.declared.fault.RecordFault.{RecordFault}
use Rattle.ym_inspect.specs.declared.fault.RecordFault.TheVariants.{Seconds, Way, Digit, HalfByte}

abbrev pub record_words : RecordFault → List ℕ
record_words Seconds = codes "it does not begin with its seconds and a space"
record_words Way = codes "no > and no < stands behind its seconds"
record_words Digit = codes "a character is no hexadecimal digit"
record_words HalfByte = codes "its last byte has one digit"

abbrev pub fault_words : InspectFault → List ℕ
fault_words Memory = codes "out of memory"
fault_words Read = codes "a read of the capture failed"
fault_words Write = codes "a write failed"
fault_words Endless = codes "the capture has no end"
fault_words (Line number why) =
    codes "line " ++ (decimal number ++ (codes ": " ++ record_words why))
fault_words (Cut number) = codes "line " ++ (decimal number ++ codes " has no end")
fault_words Pcapng = codes "it is a pcapng capture, which is not read"
fault_words (Packet position why) =
    codes "byte " ++ (decimal position ++ (codes ": " ++ capture_words why))

-- A write failed only where that is the fault: so the count of failed writes goes on.
abbrev pub CountsWrites : {A : Type 0} → Result A InspectFault → ℕ → ℕ → Type 0
CountsWrites {A} told old new =
    (told ≡ Err Write → Counted old new) × (told ≢ Err Write → new ≡ old)

-- So it is with reads.
abbrev pub CountsReads : {A : Type 0} → Result A InspectFault → ℕ → ℕ → Type 0
CountsReads {A} told old new =
    (told ≡ Err Read → Counted old new) × (told ≢ Err Read → new ≡ old)

-- Where something is told nothing is read, no line and no packet is refused, and none is cut.
abbrev pub IsOfTelling : {A : Type 0} → Result A InspectFault → Type 0
IsOfTelling {A} told =
    (told ≢ Err Read) × ((number : ℕ) (why : RecordFault) → told ≢ Err (Line number why))
    × ((position : ℕ) (why : CaptureFault) → told ≢ Err (Packet position why))
    × ((number : ℕ) → told ≢ Err (Cut number))

-- Where a file is read nothing is written, and nothing that it has is refused.
abbrev pub IsOfReading : {A : Type 0} → Result A InspectFault → Type 0
IsOfReading {A} told =
    (told ≢ Err Write) × ((number : ℕ) (why : RecordFault) → told ≢ Err (Line number why))
    × ((position : ℕ) (why : CaptureFault) → told ≢ Err (Packet position why))
    × ((number : ℕ) → told ≢ Err (Cut number))
