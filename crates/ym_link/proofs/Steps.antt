-- What a scan comes to, and what a step keeps.
use Rattle.std.proofs.Common.{ℕ, ◌+◌, ◌≡◌, ◌≢◌, ◌<◌, ◌⊎◌, inl, inr, List, [], ◌∷◌, refl, sym, subst, None, Some, nat_lt, arith}
use Rattle.std.proofs.lemmas.Bool.{cond_both, ltb-true}
use Rattle.ym_link.proofs.Names.{Control, Ack, Start, Can, next_of, Position, Header, Block, Eot, End, Mode, Waiting, Sent, Cancels, Scan, Standing, SendState, Running, reads, missed, read_through, after_scan, hears, hears_in, GIVE_UP}
use Rattle.ym_core.specs.declared.scan.Stop.TheVariants.{Sends, Again, Finishes}
use Rattle.ym_core.specs.declared.standing.SendStep.{SendStep as Step}
use Rattle.ym_core.specs.Scan.{goes_on, stops}
use Rattle.ym_core.specs.Standing.{IsSame}
use Rattle.ym_link.specs.Moves.{IsBefore}

-- what a scan comes to, from a position and a mode on
pub data Reaches (counts : List ℕ) (position : Position) (mode : Mode) (r : Scan) : Type 0 where
  stays : r ≡ goes_on position mode → Reaches counts position mode r
  cancels : r ≡ stops position mode Cancels → Reaches counts position mode r
  again : mode ≡ Sent → r ≡ stops position Sent Again → Reaches counts position mode r
  finishes : mode ≡ Sent → r ≡ stops position Sent Finishes → Reaches counts position mode r
  sends : mode ≡ Waiting → r ≡ stops position Sent Sends → Reaches counts position mode r
  waits_next : mode ≡ Sent → IsBefore position → r ≡ goes_on (next_of counts position) Waiting → Reaches counts position mode r
  sends_next : mode ≡ Sent → IsBefore position → r ≡ stops (next_of counts position) Sent Sends → Reaches counts position mode r
  cancels_next : mode ≡ Sent → IsBefore position → r ≡ stops (next_of counts position) Waiting Cancels → Reaches counts position mode r

-- from a waiting sender on the position stays
from_waiting : (counts : List ℕ) (position : Position) (P : Scan → Type 0) → P (goes_on position Waiting) → P (stops position Sent Sends) → P (stops position Waiting Cancels)
    → (cs : List Control) → P (reads counts position Waiting cs)
from_waiting counts position P waits asked ended [] = waits
from_waiting counts position P waits asked ended (Start ∷ cs) = asked
from_waiting counts position P waits asked ended (Can ∷ Can ∷ cs) = ended
from_waiting counts position P waits asked ended (_ ∷ cs) = from_waiting counts position P waits asked ended cs

behind : (counts : List ℕ) (position : Position) (cs : List Control) → IsBefore position → Reaches counts position Sent (reads counts (next_of counts position) Waiting cs)
behind counts position cs before =
    from_waiting counts (next_of counts position) (Reaches counts position Sent) (waits_next refl before refl) (sends_next refl before refl) (cancels_next refl before refl) cs

acknowledged : (counts : List ℕ) (position : Position) (cs : List Control) → Reaches counts position Sent (reads counts position Sent (Ack ∷ cs))
acknowledged counts (Header file) cs = behind counts (Header file) cs tt
acknowledged counts (Block file k) cs = sends_next refl tt refl
acknowledged counts (Eot file) cs = behind counts (Eot file) cs tt
acknowledged counts End cs = finishes refl refl

from_sent : (counts : List ℕ) (position : Position) (cs : List Control) → Reaches counts position Sent (reads counts position Sent cs)
from_sent counts position [] = stays refl
from_sent counts position (Ack ∷ cs) = acknowledged counts position cs
from_sent counts position (Can ∷ Can ∷ cs) = cancels refl
from_sent counts position (Can ∷ cs) = from_sent counts position cs
from_sent counts position (_ ∷ cs) = again refl refl

pub reaches : (counts : List ℕ) (position : Position) (mode : Mode) (cs : List Control) → Reaches counts position mode (reads counts position mode cs)
reaches counts position Waiting cs = from_waiting counts position (Reaches counts position Waiting) (stays refl) (sends refl refl) (cancels refl) cs
reaches counts position Sent cs = from_sent counts position cs

-- A step of a sender that runs and still runs after it: its retries are below ten, and where no frame is filled and it has sent, the
-- frame that is out is the same.
pub record Keeps (old : Standing) (new : Step) : Type 0 where
  pub retries : new.standing.retries < GIVE_UP
  pub position : new.fills ≡ None → new.standing.mode ≡ Sent → new.standing.position ≡ old.position
  pub mode : new.fills ≡ None → new.standing.mode ≡ Sent → old.mode ≡ Sent
  pub state : old.state ≡ Running
  pub filled : (position : Position) → new.fills ≡ Some position → new.standing.position ≡ position

-- progress is another frame or mode, and no retries
abbrev pub Counts : Standing → Standing → Type 0
Counts old new = ((new.retries ≡ 0) × ¬ IsSame old new) ⊎ ((new.retries ≡ old.retries + 1) × IsSame old new)

-- the next frame is another one
next_is_other : (counts : List ℕ) (position : Position) → IsBefore position → next_of counts position ≢ position
next_is_other counts (Header file) before = cond_both _ (Block file 1) (Eot file) (λ p. p ≢ Header file) (λ _ w. cc) (λ _ w. cc)
next_is_other counts (Block file k) before =
    cond_both _ (Block file (k + 1)) (Eot file) (λ p. p ≢ Block file k) (λ _ w. let e : k + 1 ≡ k = cc in omega (arith, e)) (λ _ w. cc)
next_is_other counts (Eot file) before = cond_both _ (Header (file + 1)) End (λ p. p ≢ Eot file) (λ _ w. cc) (λ _ w. cc)
next_is_other counts End before = absurd before

-- a step behind which the sender runs on
abbrev RunsOn : Standing → Step → Type 0
RunsOn old new = new.standing.state ≡ Running → Keeps old new × Counts old new.standing

missed_on : (s : Standing) → s.state ≡ Running → RunsOn s (missed s)
missed_on s on =
    cond_both (nat_lt (s.retries + 1) GIVE_UP) _ _ (RunsOn s)
    (λ few _. (record { retries = ltb-true _ _ few; position = λ _ _. refl; mode = λ _ h. h; state = on; filled = λ p h. cc }, inr (refl, record { position = refl; mode = refl })))
    (λ _ h. absurd cc)

scan_on : (counts : List ℕ) (s : Standing) → s.state ≡ Running → (r : Scan) → Reaches counts s.position s.mode r → RunsOn s (after_scan s r.position r.mode r.stop)
scan_on counts s on r (stays e) = rw e (elim s.mode as (λ m. RunsOn s (read_through s s.position m m)) [ Waiting ↦ missed_on s on | Sent ↦ missed_on s on ])
scan_on counts s on r (cancels e) = rw e (λ h. absurd cc)
scan_on counts s on r (again m e) = rw e (missed_on s on)
scan_on counts s on r (finishes m e) = rw e (λ h. absurd cc)
scan_on counts s on r (sends m e) =
    rw e (λ _. (record { retries = omega arith; position = λ h. cc; mode = λ h. cc; state = on; filled = λ p h. cc }, inl (refl, λ same. let moved = same.mode in cc)))
scan_on counts s on r (waits_next m before e) = rw e (subst (λ (m : Mode). RunsOn s (read_through s (next_of counts s.position) m Waiting)) (sym m)
    (λ _. (record { retries = omega arith; position = λ _ h. absurd cc; mode = λ _ h. absurd cc; state = on; filled = λ p h. cc }, inl (refl, λ same. let moved = same.mode in cc))))
scan_on counts s on r (sends_next m before e) =
    rw e (λ _. (record { retries = omega arith; position = λ h. cc; mode = λ h. cc; state = on; filled = λ p h. cc }, inl (refl, λ same. next_is_other counts s.position before same.position)))
scan_on counts s on r (cancels_next m before e) = rw e (λ h. absurd cc)

step_on : (counts : List ℕ) (s : Standing) (cs : List Control) → RunsOn s (hears counts s cs)
step_on counts s cs = by s.state refl
  where
    by : (state : SendState) → s.state ≡ state → RunsOn s (hears_in state counts s cs)
    by Running is h = scan_on counts s is _ (reaches counts s.position s.mode cs) h
    by _ is h = absurd cc

pub step_counts : (counts : List ℕ) (s : Standing) (cs : List Control) → (hears counts s cs).standing.state ≡ Running → Counts s (hears counts s cs).standing
step_counts counts s cs still = (step_on counts s cs still).1

pub step_keeps : (counts : List ℕ) (s : Standing) (cs : List Control) → (hears counts s cs).standing.state ≡ Running → Keeps s (hears counts s cs)
step_keeps counts s cs still = (step_on counts s cs still).0
