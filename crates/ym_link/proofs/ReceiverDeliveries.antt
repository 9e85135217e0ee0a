-- Each delivery that a running receiver hears leaves it fewer to hear.
use Rattle.std.proofs.Common.{ℕ, ◌+◌, ◌-◌, ◌*◌, ◌<◌, ◌≡◌, nat_lt, if◌then◌else◌, refl, arith, length, Result, Ok}
use Rattle.std.proofs.lemmas.Bool.{cond_both}
use Rattle.ym_link.proofs.Names.{BlockParts, Reply, Kept, HeaderFault, Zero, Confirm, Heard, Stage, Step, Means, receiver_steps, receiver_deliveries, ReceiverParts, IsReceiver, IsOpenFile, HearsGives, GIVE_UP}
use Rattle.ym_frame.specs.declared.frame.Item.TheVariants as item
use Rattle.ym_core.specs.declared.delivery.Heard.TheVariants as heard
use Rattle.ym_core.specs.declared.state.RecvState.TheVariants as state
use Rattle.ym_core.specs.Core.{FilesFit}
use Rattle.ym_link.proofs.ReceiverMoves.{Moves, again, opens, adds, confirms, closes, stops, moved}
use Rattle.ym_link.proofs.TableRows.{running_at}

-- fewer deliveries are left behind a step
abbrev Fewer : Stage → ℕ → ℕ → Step → Type 0
Fewer stage files retries step = receiver_deliveries step.receiver < GIVE_UP * receiver_steps stage files + (GIVE_UP - retries)

fewer : {confirm : Confirm} {files retries : ℕ} {stage : Stage} {zero : Result Zero HeaderFault} {h : Heard} {step : Step} → Moves confirm files retries stage zero h step → retries < GIVE_UP
    → (kept : Kept) → IsOpenFile stage kept → FilesFit stage files → Means (running_at confirm stage files retries) h zero
    → ((block : BlockParts) → h ≡ heard.Item (item.Block block) → 0 < length block.body) → Fewer stage files retries step
fewer {files = files} {retries = retries} (again _ _ _ left) few kept file fit means some =
    let same = left in cond_both (nat_lt (retries + 1) GIVE_UP) _ _ (Fewer _ files retries) (λ e. omega (arith, same)) (λ e. omega arith)
fewer (opens block header number room) few kept file fit means some = let reads = means block refl refl refl number in let fits = reads.fits in omega (arith, room, fits)
fewer (adds file block missing) few kept opened fit means some = let more = some block refl in omega (arith, missing, more)
fewer (confirms file none) few kept opened fit means some = rw none (omega arith)
fewer (closes file) few kept opened fit means some =
    let left : 0 < (if file.first_eot then 1 else 2) = cond_both file.first_eot 1 2 (λ n. 0 < n) (λ e. omega arith) (λ e. omega arith) in omega (arith, fit, left)
fewer (stops state.Running _ over) few kept file fit means some = absurd (over refl)
fewer (stops _ _ over) few kept file fit means some = omega arith

pub step-fewer : (old : ReceiverParts) (h : Heard) (reply : Reply) (new : ReceiverParts) → IsReceiver old → old.receiver.state ≡ state.Running
    → HearsGives old h (Ok reply) new → ((block : BlockParts) → h ≡ heard.Item (item.Block block) → 0 < length block.body)
    → receiver_deliveries new.receiver < receiver_deliveries old.receiver
step-fewer old h reply new is on gives some =
    let means : Means (running_at old.receiver.confirm old.receiver.stage old.receiver.files old.receiver.retries) h gives.0 = λ block _. gives.1 block on in
    moved old h reply new on gives (λ r kept. receiver_deliveries r < receiver_deliveries old.receiver) (λ step to. rw on (fewer to (is.runs on) old.kept is.open_file is.few means some))
