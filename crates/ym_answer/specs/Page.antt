-- What goes to an output.
use Rattle.std.specs.Prelude.{◌≡◌, ◌⊎◌, ℕ, List, Option, Result, Ok, Err}
use Rattle.std.specs.Io.KnownBytes.{Appends}
use Rattle.ym_file.specs.Counts.{Counted}
use Rattle.ym_streams.specs.declared.streams.StreamFault.{StreamFault}
use Rattle.ym_answer.specs.Lines.{line}
use Rattle.ym_answer.specs.Status.{fault_status, fault_words}
use Rattle.ym_answer.specs.declared.command_fault.CommandFault.{CommandFault}

-- an output: the bytes that it holds, where they are known, and how often it failed
pub record Page : Type 0 where
  pub holds : Option (List ℕ)
  pub failed : ℕ

abbrev pub page : Option (List ℕ) → ℕ → Page
page holds failed = record { holds = holds; failed = failed }

-- this text went to an output and nothing else; or it failed, and some of the text may have gone
-- there
abbrev pub Prints : Page → List ℕ → Result Unit StreamFault → Page → Type 0
Prints old text (Ok done) new = Appends old.holds new.holds text × (new.failed ≡ old.failed)
Prints old text (Err fault) new = Counted old.failed new.failed

-- the line of a fault went to an output, and the status is the fault's; or the output failed, and
-- the status is 3
abbrev pub TellsFault : CommandFault → Page → ℕ → Page → Type 0
TellsFault fault old status new =
    ((status ≡ fault_status fault) × Prints old (line (fault_words fault)) (Ok tt) new)
    ⊎ ((status ≡ 3) × Counted old.failed new.failed)
