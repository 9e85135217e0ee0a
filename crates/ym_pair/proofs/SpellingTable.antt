-- What a receiver keeps is spelled by what it heard, behind each delivery.
use Rattle.std.proofs.Common.{◌≡◌, ◌∙◌, ◌+◌, ◌%◌, ◌≤◌, ℕ, Bool, true, false, nat_lt, List, [], ◌∷◌, ◌++◌, Result, Ok, Err, refl, sym, ap, subst, arith}
use Rattle.std.specs.Prelude.{◌==◌}
use Rattle.std.proofs.lemmas.Bool.{ltb-true, ltb-false, eqb-true}
use Rattle.ym_pair.proofs.Names.{Reply, Silence, Item, HeaderFault, Zero, File, Kept, Confirm, Twice, block, eots, Heard, OpenFile, Stage, AwaitHeader, InFile, Receiver, Step, hears_at, ReceiverParts, HearsGives}
use Rattle.ym_frame.specs.Block.{BlockParts}
use Rattle.ym_frame.specs.declared.control.Reply.TheVariants.{AckStart, Ack, Nak, Start, Cancel}
use Rattle.ym_frame.specs.declared.frame.Item.TheVariants as item
use Rattle.ym_header.specs.declared.reading.Zero.TheVariants.{End}
use Rattle.ym_machine.specs.declared.confirm.Confirm.TheVariants.{Once}
use Rattle.ym_core.specs.declared.delivery.Heard.TheVariants as heard
use Rattle.ym_core.specs.declared.state.RecvState.TheVariants as state
use Rattle.ym_core.specs.Receiver.{zero_heard, awaiting_hears, block_heard, covered_eot, in_file_hears, running_hears, hears}
use Rattle.ym_link.specs.ReceiverInto.{IsReceiver, IsOpenFile, outcome}
use Rattle.ym_core.specs.Step.{ReadsAs}
use Rattle.ym_pair.proofs.Spelling.{Holds, IsHeardAs, After, first_eots, not-true, either, after-ends, after-stays, after-begins, after-adds, after-drops, after-first, after-commits}
use Rattle.ym_machine.specs.declared.limits.TheConstants.{MOST_FILES}

-- ---- The table

-- what a step needs to know of a receiver that runs
record Runs (confirm : Confirm) (items : List Item) (stage : Stage) (r : Receiver) (kept : Kept) : Type 0 where
  same : r.confirm ≡ confirm
  stage_is : r.stage ≡ stage
  here : Holds confirm items r.stage kept

zero-after : (confirm : Confirm) (items : List Item) (h : Heard) (kept : Kept) (r : Receiver) (body : List ℕ) (zero : Result Zero HeaderFault) → Runs confirm items AwaitHeader r kept →
    ReadsAs body zero → h ≡ heard.Item (block 0 body) → After confirm items h kept (zero_heard r zero)
zero-after confirm items h kept r body (Ok (File header)) runs reads was =
    either confirm items h kept (nat_lt r.files MOST_FILES) _ _
    (λ e. after-begins confirm items h kept r header body AckStart runs.same (rw runs.stage_is at runs.here) reads was)
    (λ e. after-ends confirm items h kept r state.TooManyFiles Cancel runs.same runs.here)
zero-after confirm items h kept r body (Ok End) runs reads was = after-ends confirm items h kept r state.Finished Ack runs.same runs.here
zero-after confirm items h kept r body (Err fault) runs reads was = after-ends confirm items h kept r (state.BadHeader fault) Cancel runs.same runs.here

awaiting-after : (confirm : Confirm) (items : List Item) (h : Heard) (kept : Kept) (r : Receiver) (zero : Result Zero HeaderFault) → Runs confirm items AwaitHeader r kept →
    ((b : BlockParts) → h ≡ heard.Item (item.Block b) → b.number ≡ 0 → ReadsAs b.body zero) → After confirm items h kept (awaiting_hears r zero h)
awaiting-after confirm items (heard.Item (item.Block b)) kept r zero runs means =
    let h : Heard = heard.Item (item.Block b) in
    either confirm items h kept (b.number == 0) _ _
    (λ e. let first : b.number ≡ 0 = eqb-true b.number 0 e in zero-after confirm items h kept r b.body zero runs (means b refl first) (ap (λ n. heard.Item (block n b.body)) first))
    (λ e. after-ends confirm items h kept r state.OutOfStep Cancel runs.same runs.here)
awaiting-after confirm items (heard.Item item.Eot) kept r zero runs means =
    either confirm items (heard.Item item.Eot) kept (nat_lt 0 r.files) _ _
    (λ e. after-stays confirm items (heard.Item item.Eot) kept r AckStart runs.same runs.here)
    (λ e. after-stays confirm items (heard.Item item.Eot) kept r Start runs.same runs.here)
awaiting-after confirm items (heard.Item item.Cancel) kept r zero runs means = after-ends confirm items (heard.Item item.Cancel) kept r state.Cancelled Silence runs.same runs.here
awaiting-after confirm items heard.Bad kept r zero runs means = after-stays confirm items heard.Bad kept r Start runs.same runs.here

block-after : (confirm : Confirm) (items : List Item) (kept : Kept) (r : Receiver) (file : OpenFile) (number : ℕ) (body : List ℕ) → Runs confirm items (InFile file) r kept →
    After confirm items (heard.Item (block number body)) kept (block_heard r file number body)
block-after confirm items kept r file number body runs =
    let h : Heard = heard.Item (block number body) in
    let holds : Holds confirm items (InFile file) kept = rw runs.stage_is at runs.here in
    either confirm items h kept (number == (file.blocks + 1) % 256) _ _
    (λ e. either confirm items h kept (nat_lt file.taken file.length) _ _
    (λ less. after-adds confirm items h kept r file number body Ack runs.same holds (eqb-true number ((file.blocks + 1) % 256) e) refl (ltb-true file.taken file.length less))
    (λ over. after-drops confirm items h kept r file Ack runs.same holds (λ less. let most = ltb-false file.taken file.length over in omega (arith, most, less))))
    (λ e. either confirm items h kept (number == file.blocks % 256) _ _
    (λ e. either confirm items h kept (file.blocks == 0) _ _
    (λ e. after-stays confirm items h kept r AckStart runs.same runs.here)
    (λ e. after-stays confirm items h kept r Ack runs.same runs.here))
    (λ e. after-ends confirm items h kept r state.OutOfStep Cancel runs.same runs.here))

covered-after : (confirm how : Confirm) (items : List Item) (kept : Kept) (r : Receiver) (file : OpenFile) (eot : Bool) → Runs confirm items (InFile file) r kept → how ≡ confirm → file.first_eot ≡ eot →
    file.length ≤ file.taken → file.taken ≤ file.length → After confirm items (heard.Item item.Eot) kept (covered_eot r how file eot)
covered-after confirm Twice items kept r file false runs how first over within =
    after-first confirm items (heard.Item item.Eot) kept r file Nak runs.same (sym how) (rw runs.stage_is at runs.here) refl first over
covered-after confirm Twice items kept r file true runs how first over within =
    after-commits confirm items (heard.Item item.Eot) kept r file runs.same (rw runs.stage_is at runs.here) refl
    (ap (λ b. first_eots b ++ item.Eot ∷ []) first ∙ ap eots how) over within
covered-after confirm Once items kept r file eot runs how first over within =
    let holds : Holds confirm items (InFile file) kept = rw runs.stage_is at runs.here in
    let no_eot : file.first_eot ≡ false = not-true file.first_eot (λ e. let twice : Once ≡ Twice = how ∙ (holds.in_hand.1.first e).0 in absurd (cc)) in
    after-commits confirm items (heard.Item item.Eot) kept r file runs.same holds refl (ap (λ b. first_eots b ++ item.Eot ∷ []) no_eot ∙ ap eots how) over within

in-file-after : (confirm : Confirm) (items : List Item) (h : Heard) (kept : Kept) (r : Receiver) (file : OpenFile) → Runs confirm items (InFile file) r kept → file.taken ≤ file.length →
    After confirm items h kept (in_file_hears r file h)
in-file-after confirm items (heard.Item (item.Block b)) kept r file runs within = block-after confirm items kept r file b.number b.body runs
in-file-after confirm items (heard.Item item.Eot) kept r file runs within =
    either confirm items (heard.Item item.Eot) kept (nat_lt file.taken file.length) _ _
    (λ e. after-stays confirm items (heard.Item item.Eot) kept r Nak runs.same runs.here)
    (λ e. covered-after confirm r.confirm items kept r file file.first_eot runs runs.same refl (ltb-false file.taken file.length e) within)
in-file-after confirm items (heard.Item item.Cancel) kept r file runs within = after-ends confirm items (heard.Item item.Cancel) kept r state.Cancelled Silence runs.same runs.here
in-file-after confirm items heard.Bad kept r file runs within =
    either confirm items heard.Bad kept (file.blocks == 0) _ _
    (λ e. after-stays confirm items heard.Bad kept r Start runs.same runs.here)
    (λ e. after-stays confirm items heard.Bad kept r Nak runs.same runs.here)

running-after : (confirm : Confirm) (items : List Item) (h : Heard) (kept : Kept) (r : Receiver) (stage : Stage) (zero : Result Zero HeaderFault) → Runs confirm items stage r kept →
    IsOpenFile stage kept → (stage ≡ AwaitHeader → (b : BlockParts) → h ≡ heard.Item (item.Block b) → b.number ≡ 0 → ReadsAs b.body zero) → After confirm items h kept (running_hears r stage zero h)
running-after confirm items h kept r AwaitHeader zero runs open_file means = awaiting-after confirm items h kept r zero runs (means refl)
running-after confirm items h kept r (InFile file) zero runs open_file means = in-file-after confirm items h kept r file runs open_file.4

-- also where the sink failed
outcome-after : (confirm : Confirm) (items : List Item) (h : Heard) (kept : Kept) (r : Receiver) (failed : Bool) (step : Step) → r.confirm ≡ confirm → Holds confirm items r.stage kept →
    After confirm items h kept step → After confirm items h kept (outcome failed r step)
outcome-after confirm items h kept r true step same holds after = after-ends confirm items h kept r state.SinkFailed Cancel same holds
outcome-after confirm items h kept r false step same holds after = after

-- ---- A delivery

pub record Behind (confirm : Confirm) (items : List Item) (h : Heard) (new : ReceiverParts) : Type 0 where
  pub confirm_is : new.receiver.confirm ≡ confirm
  pub more : List Item
  pub heard_as : IsHeardAs h more
  pub holds : Holds confirm (items ++ more) new.receiver.stage new.kept

pub hears-holds : (confirm : Confirm) (items : List Item) (old : ReceiverParts) (h : Heard) (reply : Reply) (new : ReceiverParts) → IsReceiver old → old.receiver.state ≡ state.Running →
    old.receiver.confirm ≡ confirm → Holds confirm items old.receiver.stage old.kept → HearsGives old h (Ok reply) new → Behind confirm items h new
hears-holds confirm items old h reply new is on same holds gives =
    let r : Receiver = old.receiver in
    let zero : Result Zero HeaderFault = gives.0 in
    let table : After confirm items h old.kept (running_hears r r.stage zero h) =
    running-after confirm items h old.kept r r.stage zero (record { same = same; stage_is = refl; here = holds }) is.open_file (λ awaits b was first. gives.1 b on awaits was first) in
    let after : After confirm items h old.kept (outcome gives.2.0 r (hears r zero h)) = outcome-after confirm items h old.kept r gives.2.0 (hears r zero h) same holds
    (subst (λ now. After confirm items h old.kept (hears_at now r zero h)) (sym on) table) in
    let receiver_is = gives.2.1.receiver_is in
    record {
      confirm_is = ap (λ (x : Receiver). x.confirm) receiver_is ∙ after.confirm_is;
      more = after.more;
      heard_as = after.heard_as;
      holds = rw (receiver_is, gives.2.1.kept_is) after.holds;
    }
