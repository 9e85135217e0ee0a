-- At most ten deliveries for each step of progress of a sender, and ten more; and at most two steps for each frame.
use Rattle.std.proofs.Common.{ℕ, ◌+◌, ◌-◌, ◌*◌, ◌<◌, ◌≤◌, ◌≡◌, ◌⊎◌, inl, inr, Bool, true, nat_lt, refl, ap, ◌∙◌, arith, List, [], ◌∷◌, length, drop, Option, Some}
use Rattle.std.proofs.lemmas.Bool.Decides.{nat_tests}
use Rattle.std.proofs.lemmas.Bool.{cond_both, ltb-true, ltb-false}
use Rattle.std.proofs.lemmas.List.{length-append, drop_all, drop_more}
use Rattle.ym_link.proofs.Names.{Control, counts_of, Tape, IsPosition, next_of, count_at, first_of, Position, Header, Block, Eot, End, Mode, Waiting, Sent, Scan, Standing, SendState, Running, controls_in, missed, after_scan, after_fill, hears, SenderParts, IsSender, counts, Sends, heard, sender_deliveries, sender_progress_at, SenderHears, sender_none, sender_more, GIVE_UP}
use Rattle.ym_link.specs.Sender.{Hears}
use Rattle.ym_link.specs.SendOver.{Outcome, ended, unwritten, unread}
use Rattle.ym_link.specs.Deliveries.{frames_in, frames_from, sender_steps, deliveries_in}
use Rattle.ym_link.specs.Bound.{sender_progress_in, sender_hears, sender_progress}
use Rattle.ym_link.specs.History.{SenderHistory}
use Rattle.ym_link.proofs.Files.{filled_counts}
use Rattle.ym_link.specs.Moves.{IsBefore}
use Rattle.ym_link.proofs.Steps.{Reaches, stays, cancels, again, finishes, sends, waits_next, sends_next, cancels_next, reaches, step_counts}

-- ---- Ten deliveries for each step

-- how many deliveries without progress stand before this one
abbrev weight_in : SendState → ℕ → ℕ
weight_in Running retries = retries
weight_in _ retries = GIVE_UP

abbrev weight : SenderParts → ℕ
weight s = weight_in s.standing.state s.standing.retries

weight-le : (state : SendState) (retries : ℕ) → (state ≡ Running → retries < GIVE_UP) → weight_in state retries ≤ GIVE_UP
weight-le Running retries few = let less = few refl in omega (arith, less)
weight-le _ retries few = omega arith

pace : (retries count : ℕ) (state : SendState) → retries < GIVE_UP → (state ≡ Running → (count ≡ 0) ⊎ (count ≡ retries + 1))
    → retries + 1 ≤ weight_in state count + GIVE_UP * sender_progress_in state count
pace retries count Running few goes = elim (goes refl) [ inl none ↦ rw none (omega arith) | inr one ↦ omega (arith, one) ]
pace retries count _ few goes = omega arith

-- ---- One frame less from the next position on

next-frames : (counts : List ℕ) (position : Position) → IsPosition counts position → IsBefore position → frames_from counts position ≡ frames_from counts (next_of counts position) + 1
unfolding frames_in
next-frames counts (Header file) within before =
    cond_both (nat_lt 0 (count_at counts file)) (Block file 1) (Eot file) (λ p. frames_from counts (Header file) ≡ frames_from counts p + 1)
    (λ e. let some = ltb-true 0 (count_at counts file) e in omega (arith, some))
    (λ e. let none = ltb-false 0 (count_at counts file) e in omega (arith, none))
next-frames counts (Block file k) within before =
    cond_both (nat_lt k (count_at counts file)) (Block file (k + 1)) (Eot file) (λ p. frames_from counts (Block file k) ≡ frames_from counts p + 1)
    (λ e. let more = ltb-true k (count_at counts file) e in omega (arith, more))
    (λ e. let last = ltb-false k (count_at counts file) e in let least = within.2 in omega (arith, last, least))
next-frames counts (Eot file) within before =
    cond_both (nat_lt (file + 1) (length counts)) (Header (file + 1)) End (λ p. frames_from counts (Eot file) ≡ frames_from counts p + 1)
    (λ e. let more : frames_in (drop (file + 1) counts) ≡ count_at counts (file + 1) + 2 + frames_in (drop (file + 1 + 1) counts) = ap frames_in (drop_more counts (file + 1) 0 (ltb-true (file + 1) (length counts) e)) in
    omega (arith, more))
    (λ e. let none : frames_in (drop (file + 1) counts) ≡ 1 = ap frames_in (drop_all (file + 1) counts (ltb-false (file + 1) (length counts) e)) in omega (arith, none))
next-frames counts End within before = absurd before

some-frames : (counts : List ℕ) (position : Position) → 0 < frames_from counts position
some-frames counts (Header file) = omega arith
some-frames counts (Block file k) = omega arith
some-frames counts (Eot file) = omega arith
some-frames counts End = omega arith

-- ---- Two steps for each frame

abbrev steps_in : SendState → List ℕ → Position → Mode → ℕ
steps_in Running counts position mode = sender_steps counts position mode
steps_in _ counts position mode = 0

abbrev steps : SenderParts → ℕ
steps s = steps_in s.standing.state (counts s) s.standing.position s.standing.mode

steps-le : (state : SendState) (counts : List ℕ) (position : Position) (mode : Mode) → steps_in state counts position mode ≤ 2 * frames_from counts position
steps-le Running counts position Waiting = omega arith
steps-le Running counts position Sent = omega arith
steps-le _ counts position mode = omega arith

-- a running sender
abbrev runs_at : Position → Mode → ℕ → Bool → Standing
runs_at position mode retries cancel_pending = record { position = position; mode = mode; retries = retries; state = Running; cancel_pending = cancel_pending }

abbrev Lower : List ℕ → Position → Mode → Standing → Type 0
Lower counts position mode new = steps_in new.state counts new.position new.mode + sender_progress_in new.state new.retries ≤ sender_steps counts position mode

missed-lower : (counts : List ℕ) (position : Position) (mode : Mode) (retries : ℕ) (cancel_pending : Bool) → Lower counts position mode (missed (runs_at position mode retries cancel_pending)).standing
missed-lower counts position mode retries cancel_pending = grind (arith, nat_tests)

scan-lower : (counts : List ℕ) (position : Position) (mode : Mode) (retries : ℕ) (cancel_pending : Bool) (r : Scan) → IsPosition counts position → Reaches counts position mode r
    → Lower counts position mode (after_scan (runs_at position mode retries cancel_pending) r.position r.mode r.stop).standing
scan-lower counts position mode retries cancel_pending r within (cancels e) = rw e (omega arith)
scan-lower counts position mode retries cancel_pending r within (again m e) = rw e (missed-lower counts position mode retries cancel_pending)
scan-lower counts position mode retries cancel_pending r within (finishes m e) = rw e (omega arith)
scan-lower counts position mode retries cancel_pending r within (sends m e) = let some = some-frames counts position in rw (e, m) (omega (arith, some))
scan-lower counts position mode retries cancel_pending r within (waits_next m before e) = let one = next-frames counts position within before in rw (e, m) (omega (arith, one))
scan-lower counts position mode retries cancel_pending r within (sends_next m before e) =
    let one = next-frames counts position within before in let some = some-frames counts (next_of counts position) in rw (e, m) (omega (arith, one, some))
scan-lower counts position mode retries cancel_pending r within (cancels_next m before e) = rw e (omega arith)
scan-lower counts position Waiting retries cancel_pending r within (stays e) = rw e (missed-lower counts position Waiting retries cancel_pending)
scan-lower counts position Sent retries cancel_pending r within (stays e) = rw e (missed-lower counts position Sent retries cancel_pending)

-- ---- A step, also where the source failed

abbrev Goes : ℕ → Standing → Type 0
Goes retries new = new.state ≡ Running → (new.retries ≡ 0) ⊎ (new.retries ≡ retries + 1)

fill-goes : (retries : ℕ) (failed : Bool) (fills : Option Position) (new : Standing) → Goes retries new → Goes retries (after_fill failed fills new)
fill-goes retries true (Some (Block file k)) new h = λ e. absurd cc
fill-goes retries _ _ new h = h

fill-lower : (counts : List ℕ) (position : Position) (mode : Mode) (failed : Bool) (fills : Option Position) (new : Standing) → Lower counts position mode new → Lower counts position mode (after_fill failed fills new)
fill-lower counts position mode true (Some (Block file k)) new h = omega arith
fill-lower counts position mode _ _ new h = h

counted : (cs : List Control) (all : List ℕ) (old : Standing) → Goes old.retries (hears all old cs).standing
counted cs all old = λ still. elim (step_counts all old cs still) [ inl h ↦ inl h.0 | inr h ↦ inr h.0 ]

step : (old : SenderParts) (bytes : List ℕ) (new : SenderParts) → IsSender old → old.standing.state ≡ Running → Hears old bytes new
    → (weight old + 1 ≤ weight new + GIVE_UP * sender_progress_at new) × (steps new + sender_progress_at new ≤ steps old)
step old bytes new is running gives =
    let taken = hears (counts old) old.standing (controls_in bytes) in
    let goes = fill-goes old.standing.retries gives.0 taken.fills taken.standing (counted (controls_in bytes) (counts old) old.standing) in
    let same : counts new ≡ counts old = ap (λ s. counts_of s new.files) gives.1.shape ∙ filled_counts old.shape gives.0 taken.fills old.files new.files gives.1.files in
    let reads = reaches (counts old) old.standing.position old.standing.mode (controls_in bytes) in
    let lower : Lower (counts old) old.standing.position old.standing.mode taken.standing =
    rw running (scan-lower (counts old) old.standing.position old.standing.mode old.standing.retries old.standing.cancel_pending _ is.position reads) in
    rw running (
      pace old.standing.retries new.standing.retries new.standing.state (is.retries running) (rw gives.1.standing goes),
      rw (same, gives.1.standing) (fill-lower (counts old) old.standing.position old.standing.mode gives.0 taken.fills taken.standing lower),
    )

fewer : (state : SendState) (counts : List ℕ) (s : Standing) (steps retries : ℕ) → retries < GIVE_UP → retries + 1 ≤ weight_in state s.retries + GIVE_UP * sender_progress_in state s.retries
    → steps_in state counts s.position s.mode + sender_progress_in state s.retries ≤ steps → deliveries_in state counts s < GIVE_UP * steps + (GIVE_UP - retries)
fewer Running counts s steps retries few paced lower = omega arith
fewer _ counts s steps retries few paced lower = omega arith

-- each delivery that a running sender hears leaves it fewer to hear
pub step-fewer : (old : SenderParts) (bytes : List ℕ) (new : SenderParts) → IsSender old → old.standing.state ≡ Running → Hears old bytes new → sender_deliveries new < sender_deliveries old
step-fewer old bytes new is running gives =
    let both = rw running at (step old bytes new is running gives) in
    rw running (fewer new.standing.state (counts new) new.standing _ _ (is.retries running) both.0 both.1)

-- ---- A whole call

bounded : (s : SenderParts) (t : Tape) (out : Outcome) (run : Sends s t out)
    → (sender_hears s t out run + weight s ≤ GIVE_UP * (sender_progress s t out run + 1)) × (sender_progress s t out run ≤ steps s)
bounded s t out (ended _ _ over) = let most = weight-le s.standing.state s.standing.retries (λ on. absurd (over on)) in (omega (arith, most), omega arith)
bounded s t out (unwritten _ _ is some) = let most = weight-le s.standing.state s.standing.retries is.retries in (omega (arith, most), omega arith)
bounded s t out (unread _ _ f is on none) = let most = weight-le s.standing.state s.standing.retries is.retries in (omega (arith, most), omega arith)
bounded s t out (heard _ _ bytes new _ is on some gives later) =
    let rest = bounded new _ out later in
    let one = step s bytes new is on gives in
    (omega (arith, rest.0, one.0), omega (arith, rest.1, one.1))

pub hears-le : (s : SenderParts) (t : Tape) (out : Outcome) (run : Sends s t out) → sender_hears s t out run ≤ GIVE_UP * (sender_progress s t out run + 1)
hears-le s t out run = let all = (bounded s t out run).0 in omega (arith, all)

pub progress-le : (s : SenderParts) (t : Tape) (out : Outcome) (run : Sends s t out) → sender_progress s t out run ≤ 2 * frames_from (counts s) s.standing.position
progress-le s t out run = let all = (bounded s t out run).1 in let most = steps-le s.standing.state (counts s) s.standing.position s.standing.mode in omega (arith, all, most)

-- The same of the deliveries that were heard, whatever the port tells.
history-bounded : (s : SenderParts) (ds : List (List ℕ)) (p : ℕ) (new : SenderParts) → SenderHears s ds p new → (length ds + weight s ≤ weight new + GIVE_UP * p) × (steps new + p ≤ steps s)
history-bounded s ds p new (sender_none _) = (omega arith, omega arith)
history-bounded s ds p new (sender_more _ before q between bytes _ hears is on short gives) =
    let first = history-bounded s before q between hears in
    let one = step between bytes new is on gives in
    let long = length-append before (bytes ∷ []) in
    (omega (arith, first.0, one.0, long), omega (arith, first.1, one.1))

pub history-is : (s : SenderParts) (ds : List (List ℕ)) (p : ℕ) (new : SenderParts) → IsSender new → SenderHears s ds p new → SenderHistory s ds new
history-is s ds p new is hears = let all = history-bounded s ds p new hears in record {
  progress = p;
  hears = hears;
  few = let most = weight-le new.standing.state new.standing.retries is.retries in omega (arith, all.0, most);
  steps = let most = steps-le s.standing.state (counts s) s.standing.position s.standing.mode in omega (arith, all.1, most);
}

-- a sender that hears nothing
pub history-none : (s : SenderParts) → SenderHistory s [] s
history-none s = record { progress = 0; hears = sender_none s; few = omega arith; steps = omega arith }

-- from the first place on there are all frames
pub all-frames : (counts : List ℕ) → frames_from counts (first_of counts) ≡ frames_in counts
unfolding frames_in
all-frames [] = refl
all-frames (count ∷ more) = refl
