-- What a delivery comes to at a running receiver: the rows of its table, by what they do.
use Rattle.std.proofs.Common.{ℕ, ◌+◌, ◌-◌, ◌%◌, ◌<◌, ◌≡◌, ◌≢◌, Bool, true, false, nat_lt, refl, sym, subst, List, length, min, take, Result, Ok, Err}
use Rattle.std.specs.Prelude.{◌==◌}
use Rattle.std.proofs.lemmas.Bool.{cond_both, ltb-true, eqb-true}
use Rattle.ym_link.proofs.Names.{BlockParts, Reply, AckStart, Nak, HeaderParts, HeaderFault, Zero, Kept, Confirm, Twice, MOST_FILES, Heard, OpenFile, Stage, AwaitHeader, InFile, RecvState, Receiver, Step, No_call, Begins, Adds, Commits, goes_on, stays, ends, opened, zero_heard, covered_eot, running_hears, steps_taken, receiver_steps, ReceiverParts, HearsGives, called, outcome}
use Rattle.ym_frame.specs.declared.control.Reply.TheVariants.{Ack}
use Rattle.ym_frame.specs.declared.frame.Item.TheVariants as item
use Rattle.ym_header.specs.declared.reading.Zero.TheVariants.{File, End}
use Rattle.ym_core.specs.declared.delivery.Heard.TheVariants as heard
use Rattle.ym_core.specs.declared.state.RecvState.TheVariants as state
use Rattle.ym_core.specs.Receiver.{awaiting_hears, next_block, block_heard, in_file_hears, hears}
use Rattle.ym_link.proofs.TableRows.{running_at}

-- an open file that has taken a block
abbrev with_block : OpenFile → List ℕ → OpenFile
with_block file body = record file { taken = file.taken + min (file.length - file.taken) (length body); blocks = file.blocks + 1 }

-- it brings no progress, opens a file, adds to it, takes a first EOT, commits, or stops
pub data Moves (confirm : Confirm) (files retries : ℕ) : Stage → Result Zero HeaderFault → Heard → Step → Type 0 where
  again : {stage : Stage} {zero : Result Zero HeaderFault} {h : Heard} (next : Stage) (reply : Reply)
      → ((headers : List HeaderParts) → steps_taken next headers ≡ steps_taken stage headers) → receiver_steps next files ≡ receiver_steps stage files
      → Moves confirm files retries stage zero h (stays (running_at confirm next files retries) reply)
  opens : (block : BlockParts) (header : HeaderParts) → block.number ≡ 0 → files < MOST_FILES
      → Moves confirm files retries AwaitHeader (Ok (File header)) (heard.Item (item.Block block)) (goes_on (running_at confirm (InFile (opened header)) files retries) AckStart (Begins header))
  adds : {zero : Result Zero HeaderFault} (file : OpenFile) (block : BlockParts) → file.taken < file.length
      → Moves confirm files retries (InFile file) zero (heard.Item (item.Block block))
      (goes_on (running_at confirm (InFile (with_block file block.body)) files retries) Ack (Adds (take (file.length - file.taken) block.body)))
  confirms : {zero : Result Zero HeaderFault} {h : Heard} (file : OpenFile) → file.first_eot ≡ false
      → Moves confirm files retries (InFile file) zero h (goes_on (running_at confirm (InFile (record file { first_eot = true })) files retries) Nak No_call)
  closes : {zero : Result Zero HeaderFault} {h : Heard} (file : OpenFile)
      → Moves confirm files retries (InFile file) zero h (goes_on (running_at confirm AwaitHeader (files + 1) retries) AckStart Commits)
  stops : {stage : Stage} {zero : Result Zero HeaderFault} {h : Heard} (now : RecvState) (reply : Reply) → now ≢ state.Running
      → Moves confirm files retries stage zero h (ends (running_at confirm stage files retries) now reply)

module _ (confirm : Confirm) (files retries : ℕ) where
  same : (stage : Stage) (zero : Result Zero HeaderFault) (h : Heard) (reply : Reply) → Moves confirm files retries stage zero h (stays (running_at confirm stage files retries) reply)
  same stage zero h reply = again stage reply (λ _. refl) refl

  zero-moves : (block : BlockParts) (zero : Result Zero HeaderFault) → block.number ≡ 0
      → Moves confirm files retries AwaitHeader zero (heard.Item (item.Block block)) (zero_heard (running_at confirm AwaitHeader files retries) zero)
  zero-moves block (Ok (File header)) number = cond_both (nat_lt files MOST_FILES) _ _ (Moves confirm files retries AwaitHeader _ _) (λ e. opens block header number (ltb-true _ _ e)) (λ e. stops _ _ (λ w. cc))
  zero-moves block (Ok End) number = stops _ _ (λ w. cc)
  zero-moves block (Err fault) number = stops _ _ (λ w. cc)

  awaiting-moves : (zero : Result Zero HeaderFault) (h : Heard) → Moves confirm files retries AwaitHeader zero h (awaiting_hears (running_at confirm AwaitHeader files retries) zero h)
  awaiting-moves zero (heard.Item (item.Block block)) =
      cond_both (block.number == 0) _ _ (Moves confirm files retries AwaitHeader _ _) (λ e. zero-moves block zero (eqb-true _ _ e)) (λ e. stops _ _ (λ w. cc))
  awaiting-moves zero (heard.Item item.Eot) = cond_both (nat_lt 0 files) _ _ (Moves confirm files retries AwaitHeader _ _) (λ e. same _ _ _ _) (λ e. same _ _ _ _)
  awaiting-moves zero (heard.Item item.Cancel) = stops _ _ (λ w. cc)
  awaiting-moves zero heard.Bad = same _ _ _ _

  next-moves : (file : OpenFile) (zero : Result Zero HeaderFault) (block : BlockParts)
      → Moves confirm files retries (InFile file) zero (heard.Item (item.Block block)) (next_block (running_at confirm (InFile file) files retries) file block.body)
  next-moves file zero block =
      cond_both (nat_lt file.taken file.length) _ _ (Moves confirm files retries (InFile file) _ _)
      (λ e. adds file block (ltb-true _ _ e)) (λ e. again (InFile (record file { blocks = file.blocks + 1 })) _ (λ _. refl) refl)

  block-moves : (file : OpenFile) (zero : Result Zero HeaderFault) (block : BlockParts)
      → Moves confirm files retries (InFile file) zero (heard.Item (item.Block block)) (block_heard (running_at confirm (InFile file) files retries) file block.number block.body)
  block-moves file zero block =
      cond_both (block.number == (file.blocks + 1) % 256) _ _ (Moves confirm files retries (InFile file) _ _) (λ e. next-moves file zero block)
      (λ e. cond_both (block.number == file.blocks % 256) _ _ (Moves confirm files retries (InFile file) _ _)
      (λ e. cond_both (file.blocks == 0) _ _ (Moves confirm files retries (InFile file) _ _) (λ e. same _ _ _ _) (λ e. same _ _ _ _)) (λ e. stops _ _ (λ w. cc)))

  covered-moves : (how : Confirm) (file : OpenFile) (eot : Bool) (zero : Result Zero HeaderFault) (h : Heard) → file.first_eot ≡ eot
      → Moves confirm files retries (InFile file) zero h (covered_eot (running_at confirm (InFile file) files retries) how file eot)
  covered-moves Twice file false zero h e = confirms file e
  covered-moves _ file _ zero h e = closes file

  in-file-moves : (file : OpenFile) (zero : Result Zero HeaderFault) (h : Heard) → Moves confirm files retries (InFile file) zero h (in_file_hears (running_at confirm (InFile file) files retries) file h)
  in-file-moves file zero (heard.Item (item.Block block)) = block-moves file zero block
  in-file-moves file zero (heard.Item item.Eot) =
      cond_both (nat_lt file.taken file.length) _ _ (Moves confirm files retries (InFile file) _ _) (λ e. same _ _ _ _) (λ e. covered-moves confirm file file.first_eot zero _ refl)
  in-file-moves file zero (heard.Item item.Cancel) = stops _ _ (λ w. cc)
  in-file-moves file zero heard.Bad = cond_both (file.blocks == 0) _ _ (Moves confirm files retries (InFile file) _ _) (λ e. same _ _ _ _) (λ e. same _ _ _ _)

  running-moves : (stage : Stage) (zero : Result Zero HeaderFault) (h : Heard) → Moves confirm files retries stage zero h (running_hears (running_at confirm stage files retries) stage zero h)
  running-moves AwaitHeader zero h = awaiting-moves zero h
  running-moves (InFile file) zero h = in-file-moves file zero h

  -- also where the sink failed
  outcome-moves : (stage : Stage) (zero : Result Zero HeaderFault) (h : Heard) (failed : Bool)
      → Moves confirm files retries stage zero h (outcome failed (running_at confirm stage files retries) (hears (running_at confirm stage files retries) zero h))
  outcome-moves stage zero h true = stops _ _ (λ w. cc)
  outcome-moves stage zero h false = running-moves stage zero h

-- what holds of each row holds behind a delivery that a running receiver heard and answered
pub moved : (old : ReceiverParts) (h : Heard) (reply : Reply) (new : ReceiverParts) → old.receiver.state ≡ state.Running → (gives : HearsGives old h (Ok reply) new) → (P : Receiver → Kept → Type 0)
    → ((step : Step) → Moves old.receiver.confirm old.receiver.files old.receiver.retries old.receiver.stage gives.0 h step → P step.receiver (called step.call old.kept))
    → P new.receiver new.kept
moved old h reply new on gives P holds =
    let at : RecvState → Receiver = λ s. record old.receiver { state = s } in
    let step : RecvState → Step = λ s. outcome gives.2.0 (at s) (hears (at s) gives.0 h) in
    let r = old.receiver in
    let moves = outcome-moves r.confirm r.files r.retries r.stage gives.0 h gives.2.0 in
    subst (λ k. P new.receiver k) (sym gives.2.1.kept_is)
    (subst (λ x. P x (called (step r.state).call old.kept)) (sym gives.2.1.receiver_is)
    (holds _ (subst (λ s. Moves r.confirm r.files r.retries r.stage gives.0 h (step s)) (sym on) moves)))
