-- What a step asks of a sink, and what the sink makes of it.
use Rattle.std.specs.Prelude.{ℕ, ◌≡◌, ◌<◌, ◌≤◌, length, None, Result, Ok, Err}
use Rattle.ym_file.specs.Kept.{Kept, room, IsCoveredFile}
use Rattle.ym_file.specs.Counts.{Counted}
use Rattle.ym_file.specs.declared.sink.SinkFault.{SinkFault}
use Rattle.ym_file.specs.declared.sink.SinkFault.TheVariants.{Failed, Memory}
use Rattle.ym_core.specs.declared.ask.Ask.{Ask}
use Rattle.ym_core.specs.declared.ask.Ask.TheVariants.{Nothing, Begin, Add, Commit}
use Rattle.ym_core.specs.Receiver.{Call, No_call, Begins, Adds, Commits}
use Rattle.ym_core.specs.Step.{call_of}
use Rattle.ym_link.specs.ReceiverInto.{called, Grows}

-- the sink may be asked this
abbrev pub MayAsk : Kept → Ask → Type 0
MayAsk kept Nothing = Unit {0}
MayAsk kept (Begin header) = kept.opened ≡ None
MayAsk kept (Add bytes) = (0 < length bytes.now) × (length bytes.now ≤ room kept)
MayAsk kept Commit = IsCoveredFile kept

abbrev pub IsCall : Call → Type 0
IsCall No_call = ⊥
IsCall (Begins header) = Unit {0}
IsCall (Adds bytes) = Unit {0}
IsCall Commits = Unit {0}

-- what comes of it
abbrev pub CallGives : Ask → Kept → ℕ → Result Unit SinkFault → Kept → ℕ → Type 0
CallGives ask old failures (Ok done) new after =
    (new ≡ called (call_of ask) old) × (after ≡ failures)
CallGives ask old failures (Err Failed) new after =
    (new ≡ old) × Counted failures after × IsCall (call_of ask)
CallGives ask old failures (Err Memory) new after =
    (new ≡ old) × (after ≡ failures) × Grows (call_of ask)
