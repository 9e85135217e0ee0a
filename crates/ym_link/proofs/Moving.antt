-- What a delivery does to the place of a sender: it stays, or goes past a frame that was sent and acknowledged; and so it finishes behind the end block.
use Rattle.std.proofs.Common.{◌≡◌, ◌∙◌, ◌+◌, ◌⊎◌, inl, inr, ℕ, Bool, true, nat_lt, List, ◌∷◌, Option, None, Some, refl, sym, ap, subst}
use Rattle.std.proofs.lemmas.Bool.{cond_both}
use Rattle.ym_link.proofs.Names.{Control, Ack, Can, next_of, reads, SenderParts, IsStep, counts, missed, read_through, after_scan, hears, hears_in, Position, Block, End, Mode, Waiting, Sent, Scan, Standing, Running, GIVE_UP}
use Rattle.ym_core.specs.Standing.{after_fill}
use Rattle.ym_core.specs.declared.scan.Stop.{Stop}
use Rattle.ym_core.specs.declared.scan.Stop.TheVariants.{Again, Finishes}
use Rattle.ym_core.specs.declared.standing.SendStep.{SendStep as Step}
use Rattle.ym_core.specs.declared.state.SendState.TheVariants.{Finished}
use Rattle.ym_link.specs.Moves.{IsBefore, SaysAck, Moves, FinishesAt}
use Rattle.ym_link.proofs.Steps.{Reaches, stays, cancels, again, finishes, sends, waits_next, sends_next, cancels_next, reaches}

acked : (counts : List ℕ) (position : Position) (cs : List Control) → ((reads counts position Sent cs).position ≡ position) ⊎ SaysAck cs
acked counts position (Ack ∷ cs) = inr tt
acked counts position (Can ∷ Ack ∷ cs) = inr tt
acked counts position _ = inl refl

moves-next : (counts : List ℕ) (position : Position) (mode : Mode) (cs : List Control) → mode ≡ Sent → IsBefore position → (reads counts position mode cs).position ≡ next_of counts position →
    Moves counts position mode cs (reads counts position mode cs).position
moves-next counts position mode cs sent before next =
    elim (acked counts position cs) [
      | inl same ↦ inl (ap (λ m. (reads counts position m cs).position) sent ∙ same)
      | inr ack ↦ inr (sent, before, ack, next)
    ]

reads-move : (counts : List ℕ) (position : Position) (mode : Mode) (cs : List Control) → Reaches counts position mode (reads counts position mode cs) → Moves counts position mode cs (reads counts position mode cs).position
reads-move counts position mode cs (stays e) = inl (ap (λ (r : Scan). r.position) e)
reads-move counts position mode cs (cancels e) = inl (ap (λ (r : Scan). r.position) e)
reads-move counts position mode cs (again m e) = inl (ap (λ (r : Scan). r.position) e)
reads-move counts position mode cs (finishes m e) = inl (ap (λ (r : Scan). r.position) e)
reads-move counts position mode cs (sends m e) = inl (ap (λ (r : Scan). r.position) e)
reads-move counts position mode cs (waits_next m before e) = moves-next counts position mode cs m before (ap (λ (r : Scan). r.position) e)
reads-move counts position mode cs (sends_next m before e) = moves-next counts position mode cs m before (ap (λ (r : Scan). r.position) e)
reads-move counts position mode cs (cancels_next m before e) = moves-next counts position mode cs m before (ap (λ (r : Scan). r.position) e)

missed-position : (s : Standing) → (missed s).standing.position ≡ s.position
missed-position s = cond_both (nat_lt (s.retries + 1) GIVE_UP) _ _ (λ (x : Step). x.standing.position ≡ s.position) (λ e. refl) (λ e. refl)

through-position : (s : Standing) (position : Position) (old new : Mode) → ((read_through s position old new).standing.position ≡ s.position) ⊎ ((read_through s position old new).standing.position ≡ position)
through-position s position Sent Sent = inl (missed-position s)
through-position s position Waiting Waiting = inl (missed-position s)
through-position s position _ _ = inr refl

scan-position : (s : Standing) (position : Position) (mode : Mode) (stop : Option Stop) →
    ((after_scan s position mode stop).standing.position ≡ s.position) ⊎ ((after_scan s position mode stop).standing.position ≡ position)
scan-position s position mode None = through-position s position s.mode mode
scan-position s position mode (Some Again) = inl (missed-position s)
scan-position s position mode (Some Finishes) = inl refl
scan-position s position mode (Some _) = inr refl

fill-position : (failed : Bool) (fills : Option Position) (s : Standing) → (after_fill failed fills s).position ≡ s.position
fill-position true (Some (Block file k)) s = refl
fill-position _ _ s = refl

hears-move : (counts : List ℕ) (s : Standing) (cs : List Control) → s.state ≡ Running → Moves counts s.position s.mode cs (hears counts s cs).standing.position
hears-move counts s cs on =
    let r : Scan = reads counts s.position s.mode cs in
    let moved : Moves counts s.position s.mode cs (after_scan s r.position r.mode r.stop).standing.position = elim (scan-position s r.position r.mode r.stop) [
      | inl same ↦ inl same
      | inr there ↦ subst (Moves counts s.position s.mode cs) (sym there) (reads-move counts s.position s.mode cs (reaches counts s.position s.mode cs))
    ] in
    subst (λ now. Moves counts s.position s.mode cs (hears_in now counts s cs).standing.position) (sym on) moved

pub step-moves : (s : SenderParts) (cs : List Control) (failed : Bool) (new : SenderParts) → s.standing.state ≡ Running → IsStep s (hears (counts s) s.standing cs) failed new →
    Moves (counts s) s.standing.position s.standing.mode cs new.standing.position
step-moves s cs failed new on step =
    let taken : Step = hears (counts s) s.standing cs in
    let position : new.standing.position ≡ taken.standing.position = ap (λ (x : Standing). x.position) step.standing ∙ fill-position failed taken.fills taken.standing in
    subst (Moves (counts s) s.standing.position s.standing.mode cs) (sym position) (hears-move (counts s) s.standing cs on)

-- ---- The end

-- a scan that finishes began behind a frame that was sent
finishes-sent : (counts : List ℕ) (position : Position) (mode : Mode) (r : Scan) → Reaches counts position mode r → r.stop ≡ Some Finishes → mode ≡ Sent
finishes-sent counts position mode r (stays e) stop = absurd cc
finishes-sent counts position mode r (cancels e) stop = absurd cc
finishes-sent counts position mode r (again m e) stop = m
finishes-sent counts position mode r (finishes m e) stop = m
finishes-sent counts position mode r (sends m e) stop = absurd cc
finishes-sent counts position mode r (waits_next m before e) stop = m
finishes-sent counts position mode r (sends_next m before e) stop = m
finishes-sent counts position mode r (cancels_next m before e) stop = m

waiting-stays : (counts : List ℕ) (position : Position) (cs : List Control) → (reads counts position Waiting cs).stop ≡ Some Finishes → ⊥
waiting-stays counts position cs stop = let same = finishes-sent counts position Waiting (reads counts position Waiting cs) (reaches counts position Waiting cs) stop in absurd cc

-- and that frame was the end block, behind which an ACK was read
acked-end : (counts : List ℕ) (position : Position) (cs : List Control) → (reads counts position Sent cs).stop ≡ Some Finishes → (position ≡ End) × SaysAck cs
acked-end counts (Block file k) (Ack ∷ cs) stop = absurd cc
acked-end counts End (Ack ∷ cs) stop = (refl, tt)
acked-end counts position (Ack ∷ cs) stop = absurd (waiting-stays counts (next_of counts position) cs stop)
acked-end counts position (Can ∷ Ack ∷ cs) stop = acked-end counts position (Ack ∷ cs) stop
acked-end counts position _ stop = absurd cc

missed-goes : (s : Standing) → s.state ≡ Running → (missed s).standing.state ≡ Finished → ⊥
missed-goes s on = cond_both (nat_lt (s.retries + 1) GIVE_UP) _ _ (λ (x : Step). x.standing.state ≡ Finished → ⊥) (λ e over. absurd cc) (λ e over. absurd cc)

through-goes : (s : Standing) (position : Position) (old new : Mode) → s.state ≡ Running → (read_through s position old new).standing.state ≡ Finished → ⊥
through-goes s position Sent Sent on over = missed-goes s on over
through-goes s position Waiting Waiting on over = missed-goes s on over
through-goes s position _ _ on over = absurd cc

finished-stop : (s : Standing) (position : Position) (mode : Mode) (stop : Option Stop) → s.state ≡ Running → (after_scan s position mode stop).standing.state ≡ Finished →
    (stop ≡ Some Finishes) × ((after_scan s position mode stop).standing.position ≡ s.position)
finished-stop s position mode None on over = absurd (through-goes s position s.mode mode on over)
finished-stop s position mode (Some Again) on over = absurd (missed-goes s on over)
finished-stop s position mode (Some Finishes) on over = (refl, refl)
finished-stop s position mode (Some _) on over = absurd cc

fill-finished : (failed : Bool) (fills : Option Position) (s : Standing) → (after_fill failed fills s).state ≡ Finished → s.state ≡ Finished
fill-finished true (Some (Block file k)) s over = absurd cc
fill-finished _ _ s over = over

hears-finish : (counts : List ℕ) (s : Standing) (cs : List Control) → s.state ≡ Running → (hears_in Running counts s cs).standing.state ≡ Finished → FinishesAt s cs (hears_in Running counts s cs).standing.position
hears-finish counts s cs on over =
    let r : Scan = reads counts s.position s.mode cs in
    let stop = finished-stop s r.position r.mode r.stop on over in
    let mode = finishes-sent counts s.position s.mode r (reaches counts s.position s.mode cs) stop.0 in
    let end = acked-end counts s.position cs (subst (λ m. (reads counts s.position m cs).stop ≡ Some Finishes) mode stop.0) in
    record { position = end.0; after = stop.1 ∙ end.0; mode = mode; ack = end.1 }

pub step-finishes : (s : SenderParts) (cs : List Control) (failed : Bool) (new : SenderParts) → s.standing.state ≡ Running → IsStep s (hears (counts s) s.standing cs) failed new →
    new.standing.state ≡ Finished → FinishesAt s.standing cs new.standing.position
step-finishes s cs failed new on step over =
    let taken : Step = hears (counts s) s.standing cs in
    let runs_is : hears (counts s) s.standing cs ≡ hears_in Running (counts s) s.standing cs = ap (λ now. hears_in now (counts s) s.standing cs) on in
    let position : new.standing.position ≡ taken.standing.position = ap (λ (x : Standing). x.position) step.standing ∙ fill-position failed taken.fills taken.standing in
    let ended : taken.standing.state ≡ Finished = fill-finished failed taken.fills taken.standing (sym (ap (λ (x : Standing). x.state) step.standing) ∙ over) in
    let at = hears-finish (counts s) s.standing cs on (sym (ap (λ (x : Step). x.standing.state) runs_is) ∙ ended) in
    subst (FinishesAt s.standing cs) (sym (position ∙ ap (λ (x : Step). x.standing.position) runs_is)) at
