-- What a step may answer beside what the script's text says: want of memory.
use Rattle.std.specs.Prelude.{◌≡◌, ℕ, Result, Ok, Err}
use Rattle.ym_header.specs.declared.fault.HeaderFault.{HeaderFault}
use Rattle.ym_header.specs.declared.fault.HeaderFault.TheVariants as header
use Rattle.ym_line.specs.declared.fault.LineFault.{LineFault}
use Rattle.ym_line.specs.declared.fault.LineFault.TheVariants as round
use Rattle.ym_play.specs.declared.fault.ScriptWhy.{ScriptWhy}
use Rattle.ym_play.specs.declared.fault.ScriptWhy.TheVariants as why
use Rattle.ym_play.specs.declared.fault.PlayFault.{PlayFault}
use Rattle.ym_play.specs.declared.fault.PlayFault.TheVariants as play
use Rattle.ym_play.specs.declared.fault.Refusal.{Refusal}
use Rattle.ym_play.specs.declared.fault.Refusal.TheVariants as refusal

abbrev pub fault_at : ℕ → Refusal → PlayFault
fault_at line (refusal.Why why) = play.Script line why
fault_at line refusal.Memory = play.Memory

-- the header of a script's file is refused for its name, or for want of memory
abbrev pub refusal_of : HeaderFault → Refusal
refusal_of header.NameEmpty = refusal.Why why.Name
refusal_of header.NameLong = refusal.Why why.Name
refusal_of header.NameUnsafe = refusal.Why why.Name
refusal_of header.NoLength = refusal.Why why.Name
refusal_of header.LengthLarge = refusal.Why why.Name
refusal_of header.Memory = refusal.Memory

abbrev pub IsRefusal : {Y : Type 0} → Refusal → Result Y ScriptWhy → Type 0
IsRefusal (refusal.Why why) said = said ≡ Err why
IsRefusal refusal.Memory said = Unit {0}

-- want of memory is told as such, wherever it was met
abbrev pub line_fault : LineFault → PlayFault
line_fault (round.NotDamage n) = play.Line (round.NotDamage n)
line_fault (round.TooLong n) = play.Line (round.TooLong n)
line_fault round.Carrier = play.Line round.Carrier
line_fault round.Memory = play.Memory

-- an answer, seen by view, is what the text says, unless memory ran out
abbrev pub Gives : {X Y : Type 0} → (X → Y) → Result X Refusal → Result Y ScriptWhy → Type 0
Gives view (Ok x) said = said ≡ Ok (view x)
Gives view (Err refusal) said = IsRefusal refusal said

abbrev pub IsFault : {Y : Type 0} → PlayFault → Result Y (ℕ × ScriptWhy) → Type 0
IsFault (play.Script line why) said = said ≡ Err (line, why)
IsFault (play.Line fault) said = ⊥
IsFault play.Memory said = Unit {0}

-- an answer is what the script says, its fault with the line, unless memory ran out
abbrev pub Reads : {Y : Type 0} → Result Y PlayFault → Result Y (ℕ × ScriptWhy) → Type 0
Reads (Ok x) said = said ≡ Ok x
Reads (Err fault) said = IsFault fault said
