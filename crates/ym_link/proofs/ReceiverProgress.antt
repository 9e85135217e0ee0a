-- A receiver's steps of progress are at most those of the files whose headers it accepted.
use Rattle.std.proofs.Common.{ℕ, ◌+◌, ◌-◌, ◌<◌, ◌≤◌, ◌≡◌, Bool, false, nat_lt, if◌then◌else◌, refl, ap, ◌∙◌, arith, length, drop, Option, Some, Result, Ok, Err, List, [], ◌∷◌, ◌++◌}
use Rattle.std.specs.Prelude.{◌==◌, not, slice_index, option_to_list}
use Rattle.std.proofs.lemmas.Bool.{cond_both, ltb-false}
use Rattle.std.proofs.lemmas.List.{length-take-le, length-drop}
use Rattle.std.proofs.lemmas.List.Sums.{sum_by-append}
use Rattle.ym_link.proofs.Names.{BlockParts, verdict_of, Reply, Broken, Item, HeaderParts, HeaderFault, Zero, Kept, Confirm, heard_at, Heard, EndFault, OpenFile, Stage, AwaitHeader, InFile, Tape, Step, ReceiverParts, IsReceiver, IsOpenFile, HearsGives, called, Outcome, Receives, unwritten, heard_in, steps_taken, progress_in, progress_at, receiver_progress, ReceiverHears, receiver_none, receiver_more, GIVE_UP}
use Rattle.ym_frame.specs.Check.{check_of}
use Rattle.ym_frame.specs.Frame.{block_verdict, cancel_verdict, fault_at, has_byte_where, body_of, check_field}
use Rattle.ym_frame.specs.declared.frame.Why.TheVariants.{Cut}
use Rattle.ym_frame.specs.declared.frame.Item.TheVariants as item
use Rattle.ym_core.specs.declared.delivery.Heard.TheVariants as heard
use Rattle.ym_core.specs.declared.state.RecvState.TheVariants as state
use Rattle.ym_link.specs.ReceiveOver as receiving
use Rattle.ym_link.specs.Bound.{blocks_in, steps_of, steps_at, accepted}
use Rattle.ym_link.specs.History.{ReceiverHistory}
use Rattle.ym_link.proofs.ReceiverBound.{history-few}
use Rattle.ym_link.proofs.ReceiverMoves.{Moves, again, opens, adds, confirms, closes, stops, moved}
use Rattle.ym_link.proofs.TableRows.{differ}

-- ---- A block has 128 bytes at least

record Large (v : Result (Item × ℕ) Broken) : Type 0 where
  large : (block : BlockParts) → heard_at v ≡ heard.Item (item.Block block) → 128 ≤ length block.body

bad-large : (broken : Broken) → Large (Err broken)
bad-large broken = record { large = λ block h. cc }

pick : (b : Bool) (x y : Result (Item × ℕ) Broken) → Large x → (b ≡ false → Large y) → Large (if b then x else y)
pick b x y p q = cond_both b x y Large (λ e. p) q

body-large : (size : ℕ) (bytes : List ℕ) (position : ℕ) → 128 ≤ size → size + 5 ≤ length bytes → Large (Ok (item.Block (record { number = position; body = body_of size bytes }), size + 5))
body-large size bytes position some long = record {
  large = λ block h.
      let fits : size ≤ length (drop 3 bytes) = omega (arith, length-drop 3 bytes) in
      let sized : length (body_of size bytes) ≡ size = length-take-le size (drop 3 bytes) fits in
      let is : record { number = position; body = body_of size bytes } ≡ block = cc in
      rw (← is) (omega (arith, sized));
}

block-large : (size : ℕ) (bytes : List ℕ) → 128 ≤ size → Large (block_verdict size bytes)
block-large size bytes some =
    pick (has_byte_where bytes 2 (λ b. not (b == 255 - slice_index bytes 1))) _ _ (bad-large _)
    (λ e. pick (nat_lt (length bytes) (size + 5)) _ _ (bad-large _)
    (λ short. pick (check_of (body_of size bytes) == check_field size bytes) _ _ (body-large size bytes (slice_index bytes 1) some (ltb-false (length bytes) (size + 5) short)) (λ e. bad-large _)))

cancels-large : (bytes : List ℕ) → Large (cancel_verdict bytes)
cancels-large [] = bad-large _
cancels-large (second ∷ more) = pick _ (Ok (item.Cancel, 2)) _ (record { large = λ block h. cc }) (λ e. bad-large _)

verdict-large : (bytes : List ℕ) → Large (verdict_of bytes)
unfolding verdict_of
verdict-large [] = bad-large (fault_at 0 Cut)
verdict-large (first ∷ more) =
    pick (first == 0x04) (Ok (item.Eot, 1)) _ (record { large = λ block h. cc })
    (λ e. pick (first == 0x18) _ _ (cancels-large more)
    (λ e. pick (first == 0x01) _ _ (block-large 128 (first ∷ more) (omega arith))
    (λ e. pick (first == 0x02) _ _ (block-large 1024 (first ∷ more) (omega arith)) (λ e. bad-large _))))

heard-large : (delivery : Result (List ℕ) EndFault) (h : Heard) → heard_in delivery ≡ Ok h → (block : BlockParts) → h ≡ heard.Item (item.Block block) → 128 ≤ length block.body
heard-large (Ok bytes) h is block e = (verdict-large bytes).large block cc
heard-large (Err fault) h is block e = absurd cc

-- ---- A step

-- a step's progress is among the steps that are then taken
abbrev Raises : Stage → Kept → Step → Type 0
Raises stage kept step = progress_in step.receiver.state step.receiver.retries + steps_taken stage kept.headers ≤ steps_taken step.receiver.stage (called step.call kept).headers

-- the steps of one file more
steps-append : (headers : List HeaderParts) (opened : Option HeaderParts) (header : HeaderParts) → opened ≡ Some header → steps_of (headers ++ option_to_list opened) ≡ steps_of headers + (blocks_in header.length + 3)
steps-append headers opened header is = rw is (sum_by-append (λ (h : HeaderParts). blocks_in h.length + 3) headers (header ∷ []) ∙ omega arith)

-- the steps taken in an open file are fewer than those of all the files with it
open-steps : (file : OpenFile) (kept : Kept) → IsOpenFile (InFile file) kept → steps_taken (InFile file) kept.headers < steps_of (kept.headers ++ option_to_list kept.opened)
open-steps file kept open_file =
    let more = steps-append kept.headers kept.opened open_file.0 open_file.1 in
    let same = ap blocks_in open_file.2 in
    let most : (if file.first_eot then 2 else 1) ≤ 2 = cond_both file.first_eot 2 1 (λ n. n ≤ 2) (λ e. omega arith) (λ e. omega arith) in
    omega (arith, more, same, most)

raises : {confirm : Confirm} {files retries : ℕ} {stage : Stage} {zero : Result Zero HeaderFault} {h : Heard} {step : Step} → Moves confirm files retries stage zero h step
    → (kept : Kept) → IsOpenFile stage kept → ((block : BlockParts) → h ≡ heard.Item (item.Block block) → 128 ≤ length block.body) → Raises stage kept step
raises {retries = retries} {stage = stage} (again _ _ taken _) kept file large =
    let same = taken kept.headers in
    let none = differ (retries + 1) 0 (omega arith) in
    cond_both (nat_lt (retries + 1) GIVE_UP) _ _ (Raises stage kept) (λ e. rw none (omega (arith, same))) (λ e. omega (arith, same))
raises (opens _ header _ _) kept file large = omega arith
raises (adds file block missing) kept opened large = let body = large block refl in omega (arith, missing, body)
raises (confirms file none) kept opened large = rw none (omega arith)
raises (closes file) kept opened large = let most = open-steps file kept opened in omega (arith, most)
raises (stops state.Running _ over) kept file large = absurd (over refl)
raises (stops _ _ over) kept file large = omega arith

step-raises : (old : ReceiverParts) (h : Heard) (reply : Reply) (new : ReceiverParts) → IsReceiver old → old.receiver.state ≡ state.Running → HearsGives old h (Ok reply) new
    → ((block : BlockParts) → h ≡ heard.Item (item.Block block) → 128 ≤ length block.body)
    → progress_at new + steps_at old ≤ steps_at new
step-raises old h reply new is on gives large =
    moved old h reply new on gives (λ r kept. progress_in r.state r.retries + steps_at old ≤ steps_taken r.stage kept.headers) (λ step to. raises to old.kept is.open_file large)

-- ---- A whole call

pub progress-le : (r : ReceiverParts) (t : Tape) (out : Outcome) (run : Receives r t out) → receiver_progress r t out run + steps_at r ≤ steps_at out.receiver
progress-le r t out (unwritten _ _ h reply new is on some gives spoken) = step-raises r h reply new is on gives (heard-large _ h some)
progress-le r t out (receiving.heard _ _ h reply new _ is on some gives later) =
    let rest = progress-le new _ out later in
    let one = step-raises r h reply new is on gives (heard-large _ h some) in
    omega (arith, rest, one)
progress-le r t out _ = omega arith

pub accepted-le : (r : ReceiverParts) → IsReceiver r → steps_at r ≤ steps_of (accepted r)
accepted-le r is = by r.receiver.stage is.open_file
  where
    by : (stage : Stage) → IsOpenFile stage r.kept → steps_taken stage r.kept.headers ≤ steps_of (r.kept.headers ++ option_to_list r.kept.opened)
    by AwaitHeader none = let more = sum_by-append (λ (h : HeaderParts). blocks_in h.length + 3) r.kept.headers (option_to_list r.kept.opened) in omega (arith, more)
    by (InFile file) open_file = let less = open-steps file r.kept open_file in omega (arith, less)

-- ---- Whatever the port tells

history-raises : (r : ReceiverParts) (hs : List Heard) (p : ℕ) (new : ReceiverParts) → ReceiverHears r hs p new → p + steps_at r ≤ steps_at new
history-raises r hs p new (receiver_none _) = omega arith
history-raises r hs p new (receiver_more _ before q between h reply _ hears is on large gives) =
    let first = history-raises r before q between hears in
    let one = step-raises between h reply new is on gives large in
    omega (arith, first, one)

pub history-is : (r : ReceiverParts) (hs : List Heard) (p : ℕ) (new : ReceiverParts) → IsReceiver new → ReceiverHears r hs p new → ReceiverHistory r hs new
history-is r hs p new is hears = record {
  progress = p;
  hears = hears;
  few = history-few r hs p new is hears;
  steps = let raised = history-raises r hs p new hears in let most = accepted-le new is in omega (arith, raised, most);
}
