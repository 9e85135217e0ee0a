-- At most ten deliveries for each step of progress of a receiver, and ten more.
use Rattle.std.proofs.Common.{ℕ, ◌+◌, ◌*◌, ◌<◌, ◌≤◌, ◌≡◌, nat_lt, refl, arith, length, Result, Ok, List, [], ◌∷◌}
use Rattle.std.proofs.lemmas.Bool.{cond_both}
use Rattle.std.proofs.lemmas.List.{length-append}
use Rattle.ym_link.proofs.Names.{Reply, HeaderFault, Zero, Confirm, Heard, Stage, RecvState, Tape, Step, ReceiverParts, IsReceiver, HearsGives, Outcome, Receives, ended, unread, unheard, unwritten, progress_in, progress_at, receiver_progress, ReceiverHears, receiver_none, receiver_more, GIVE_UP}
use Rattle.ym_core.specs.declared.state.RecvState.TheVariants as state
use Rattle.ym_link.specs.ReceiveOver as receiving
use Rattle.ym_link.specs.Bound.{receiver_hears}
use Rattle.ym_link.proofs.ReceiverMoves.{Moves, again, stops, moved}

-- how many deliveries without progress stand before this one
abbrev weight_in : RecvState → ℕ → ℕ
weight_in state.Running retries = retries
weight_in _ retries = GIVE_UP

abbrev weight : ReceiverParts → ℕ
weight r = weight_in r.receiver.state r.receiver.retries

weight-le : (now : RecvState) (retries : ℕ) → (now ≡ state.Running → retries ≤ GIVE_UP) → weight_in now retries ≤ GIVE_UP
weight-le state.Running retries most = most refl
weight-le _ retries most = omega arith

-- a step costs one of ten deliveries, unless it brings progress
abbrev Paces : ℕ → Step → Type 0
Paces retries step = retries + 1 ≤ weight_in step.receiver.state step.receiver.retries + GIVE_UP * progress_in step.receiver.state step.receiver.retries

paces : {confirm : Confirm} {files retries : ℕ} {stage : Stage} {zero : Result Zero HeaderFault} {h : Heard} {step : Step} → retries < GIVE_UP → Moves confirm files retries stage zero h step → Paces retries step
paces {retries = retries} few (again _ _ _ _) = cond_both (nat_lt (retries + 1) GIVE_UP) _ _ (Paces retries) (λ e. omega arith) (λ e. omega arith)
paces few (stops state.Running _ over) = absurd (over refl)
paces few _ = omega arith

step-pace : (old : ReceiverParts) (h : Heard) (reply : Reply) (new : ReceiverParts) → IsReceiver old → old.receiver.state ≡ state.Running → HearsGives old h (Ok reply) new
    → old.receiver.retries + 1 ≤ weight new + GIVE_UP * progress_at new
step-pace old h reply new is on gives =
    moved old h reply new on gives (λ r kept. old.receiver.retries + 1 ≤ weight_in r.state r.retries + GIVE_UP * progress_in r.state r.retries) (λ step to. paces (is.runs on) to)

-- ---- A whole call

running-weight : (r : ReceiverParts) → IsReceiver r → r.receiver.state ≡ state.Running → weight r < GIVE_UP
running-weight r is on = rw on (is.runs on)

paced : (r : ReceiverParts) (t : Tape) (out : Outcome) (run : Receives r t out) → receiver_hears r t out run + weight r ≤ GIVE_UP * (receiver_progress r t out run + 1)
paced r t out (ended _ _ over) = let most = weight-le r.receiver.state r.receiver.retries (λ on. absurd (over on)) in omega (arith, most)
paced r t out (unread _ _ f is on none) = let most = running-weight r is on in omega (arith, most)
paced r t out (unheard _ _ h e is on some gives) = let most = running-weight r is on in omega (arith, most)
paced r t out (unwritten _ _ h reply new is on some gives spoken) = let most = running-weight r is on in omega (arith, most)
paced r t out (receiving.heard _ _ h reply new _ is on some gives later) =
    let rest = paced new _ out later in
    let one = step-pace r h reply new is on gives in
    let now : weight r ≡ r.receiver.retries = rw on refl in
    omega (arith, rest, one, now)

pub hears-le : (r : ReceiverParts) (t : Tape) (out : Outcome) (run : Receives r t out) → receiver_hears r t out run ≤ GIVE_UP * (receiver_progress r t out run + 1)
hears-le r t out run = let all = paced r t out run in omega (arith, all)

-- The same of the deliveries that were heard, whatever the port tells.
history-pace : (r : ReceiverParts) (hs : List Heard) (p : ℕ) (new : ReceiverParts) → ReceiverHears r hs p new → length hs + weight r ≤ weight new + GIVE_UP * p
history-pace r hs p new (receiver_none _) = omega arith
history-pace r hs p new (receiver_more _ before q between h reply _ hears is on large gives) =
    let first = history-pace r before q between hears in
    let one = step-pace between h reply new is on gives in
    let now : weight between ≡ between.receiver.retries = rw on refl in
    let long = length-append before (h ∷ []) in
    omega (arith, first, one, now, long)

pub history-few : (r : ReceiverParts) (hs : List Heard) (p : ℕ) (new : ReceiverParts) → IsReceiver new → ReceiverHears r hs p new → length hs ≤ GIVE_UP * (p + 1)
history-few r hs p new is hears = let paced = history-pace r hs p new hears in let most = weight-le new.receiver.state new.receiver.retries (λ _. is.retries) in omega (arith, paced, most)
