-- From the run of a script to what is played.
use Rattle.std.proofs.Common.{◌≡◌, ◌≤◌, ℕ, List, [], None, Option, Result, Ok, Err, IfErr, All, length, refl, sym, ap, subst}
use Rattle.std.specs.Prelude.{IfOk}
use Rattle.ym_file.specs.Counts.{new_tally}
use Rattle.ym_file.specs.Kept.{Kept, IsNew}
use Rattle.ym_file.specs.MemSink.{kept_of}
use Rattle.ym_file.specs.SourceFile.{FileParts, IsFile, counts_of}
use Rattle.ym_machine.specs.declared.confirm.Confirm.{Confirm}
use Rattle.ym_machine.specs.declared.limits.TheConstants.{MOST_FILES}
use Rattle.ym_machine.specs.Machine.{start}
use Rattle.ym_core.specs.Receiver.{Receiver, new_receiver}
use Rattle.ym_core.specs.Standing.{new_standing}
use Rattle.ym_link.specs.SenderRefines.{AllTold, batch_of}
use Rattle.ym_line.specs.Promise.{AreNew, CommitsAPrefix, ReportsCommitted}
use Rattle.ym_line.specs.Rounds.{Pair}
use Rattle.ym_line.specs.Turns.{FollowsMachine, PairRefines, StopsWithMachine}
use Rattle.ym_line.specs.declared.delivery.Handed.{Handed}
use Rattle.ym_line.specs.declared.delivery.Round.{Round}
use Rattle.ym_line.specs.declared.fault.LineFault.{LineFault}
use Rattle.ym_line.specs.declared.trace.Trace.{Trace}
use Rattle.ym_play.specs.Script.{ScriptParts}
use Rattle.ym_play.specs.Play.{IsNewPair, RunsAs, files_of}

-- ends that are made so are new
abbrev pub MadeAreNew : Type 0
MadeAreNew = (pair : Pair) (confirm : Confirm) → pair.sender.standing ≡ new_standing (counts_of pair.sender.shape pair.sender.files)
    → length pair.sender.files ≤ MOST_FILES → AllTold pair.sender.files → pair.receiver.receiver ≡ new_receiver confirm → IsNew pair.receiver.kept → AreNew pair

no_file : (kept : Kept) → kept ≡ kept_of (record { opened = None; files = []; tally = new_tally None }) → IsNew kept
no_file kept is = subst IsNew (sym is) (record { opened = refl; taken = refl; headers = refl; told = (refl, refl) })

pub are-new : MadeAreNew → (script : ScriptParts) (told : Option (List Handed)) (failures : ℕ) (old : Pair) → IsNewPair script told failures old
    → length script.batch ≤ MOST_FILES → AllTold script.batch → AreNew old
are-new made script told failures old begins few known = made old script.confirm (rw (begins.shape, begins.files) begins.standing)
    (rw begins.files few) (rw begins.files known) begins.receiver (no_file old.receiver.kept begins.kept)

-- and stand at the machine's start
abbrev pub NewStand : Type 0
NewStand = (pair : Pair) → AreNew pair → All IsFile pair.sender.files → PairRefines pair.receiver.receiver.confirm (batch_of pair.sender.shape pair.sender.files) start pair

pub at-start : NewStand → (script : ScriptParts) (told : Option (List Handed)) (failures : ℕ) (old : Pair) → IsNewPair script told failures old
    → AreNew old → All IsFile script.batch → PairRefines script.confirm (files_of script) start old
at-start stand script told failures old begins fresh within =
    let confirm : old.receiver.receiver.confirm ≡ script.confirm = ap (λ (r : Receiver). r.confirm) begins.receiver in
    let stands = stand old fresh (rw begins.files within) in
    let as_confirm = subst (λ c. PairRefines c (batch_of old.sender.shape old.sender.files) start old) confirm stands in
    let as_shape = subst (λ s. PairRefines script.confirm (batch_of s old.sender.files) start old) begins.shape as_confirm in
    subst (λ f. PairRefines script.confirm (batch_of script.shape f) start old) begins.files as_shape

abbrev pub MachineGives : List Round → Pair → Result Trace LineFault → Pair → Type 0
MachineGives rounds old (Ok trace) new = FollowsMachine rounds old trace new
MachineGives rounds old (Err fault) new = StopsWithMachine 1 rounds old fault new

pub machine-gives : (rounds : List Round) (old : Pair) (result : Result Trace LineFault) (new : Pair) → IfOk result (λ trace. FollowsMachine rounds old trace new)
    → IfErr result (λ fault. StopsWithMachine 1 rounds old fault new) → MachineGives rounds old result new
machine-gives rounds old (Ok trace) new follows stops = follows
machine-gives rounds old (Err fault) new follows stops = stops

pub ran : (script : ScriptParts) (told : Option (List Handed)) (failures : ℕ) (old : Pair) (result : Result Trace LineFault) (new : Pair)
    → IsNewPair script told failures old → PairRefines script.confirm (files_of script) start old → MachineGives script.rounds old result new
    → CommitsAPrefix old.sender.files new → IfOk result (λ trace. ReportsCommitted trace new) → RunsAs script told failures result new.told new.failures
ran script told failures old (Ok trace) new begins stands follows commits reports =
    record { old = old; new = new; begins = begins; runs = follows script.confirm (files_of script) start stands; commits = rw begins.files at commits; reports = reports; told_after = refl; failures_after = refl }
ran script told failures old (Err fault) new begins stands stops commits reports =
    record { old = old; new = new; begins = begins; stops = stops script.confirm (files_of script) start stands; commits = rw begins.files at commits; told_after = refl; failures_after = refl }
