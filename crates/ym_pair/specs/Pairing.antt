-- Two engines, one at each end of a line, whose deliveries pair up, and what is promised of them.
--
-- Each engine folds its own end's table over the deliveries that its own port tells: `Sends` and
-- `Receives` of ym_link. What the two have to do with one another is said here, of what each wrote
-- and what came to each alone. That deliveries pair up is a premise about the world.
use Rattle.std.specs.Prelude.{◌≡◌, ◌⊎◌, ℕ, List, [], ◌∷◌, length, map, Some, None}
use Rattle.ym_frame.specs.Control.{reply_bytes}
use Rattle.ym_frame.specs.Frame.{IsBytes}
use Rattle.ym_frame.specs.declared.control.Control.{Control}
use Rattle.ym_frame.specs.declared.control.Control.TheVariants.{Start}
use Rattle.ym_frame.specs.declared.control.Reply.{Reply}
use Rattle.ym_frame.specs.declared.control.Reply.TheVariants.{Silence}
use Rattle.ym_file.specs.Kept.{Told}
use Rattle.ym_core.specs.Hearing.{heard_of}
use Rattle.ym_core.specs.Position.{done_at}
use Rattle.ym_core.specs.Scan.{controls_in}
use Rattle.ym_core.specs.declared.delivery.Heard.{Heard}
use Rattle.ym_core.specs.declared.state.SendState.TheVariants as sender
use Rattle.ym_core.specs.declared.state.RecvState.TheVariants as receiver
use Rattle.ym_link.specs.History.{SenderHears, ReceiverHears}
use Rattle.ym_link.specs.Port.{Tape}
use Rattle.ym_link.specs.ReceiveOver as receiving
use Rattle.ym_link.specs.ReceiverInto.{ReceiverParts}
use Rattle.ym_link.specs.Sender.{SenderParts, spoken}
use Rattle.ym_link.specs.SendOver.{written_for}
use Rattle.ym_link.specs.SendOver as sending
use Rattle.ym_file.specs.SourceFile.{FileParts}
use Rattle.ym_line.specs.Damage.{arrives, ShowsThere, ShowsBack, IsShort}
use Rattle.ym_line.specs.Rounds.{Pair}
use Rattle.ym_line.specs.declared.delivery.Delivery.{Delivery}
use Rattle.ym_line.specs.declared.delivery.Delivery.TheVariants.{Whole, Lost, Damaged}
use Rattle.ym_line.specs.declared.delivery.Round.{Round}
use Rattle.ym_pair.specs.Logs.{Spoke, Answered, spoke_in, spoke_along, last_words, answered_in, answered_along}

-- ---- What arrives

-- damage is made of bytes
abbrev pub AreBytes : Delivery → Type 0
AreBytes Whole = Unit {0}
AreBytes Lost = Unit {0}
AreBytes (Damaged bytes) = IsBytes bytes

-- The receiver heard what arrives of these bytes; damage shows, and is short.
pub record ArrivesThere (delivery : Delivery) (wrote : List ℕ) (heard : Heard) : Type 0 where
  pub bytes : AreBytes delivery
  pub shows : ShowsThere delivery
  pub short : IsShort delivery
  pub heard_is : heard ≡ heard_of (arrives delivery wrote)

-- of what comes, a sender reads nothing behind the first C
abbrev pub up_to_start : List Control → List Control
up_to_start [] = []
up_to_start (Start ∷ more) = Start ∷ []
up_to_start (other ∷ more) = other ∷ up_to_start more

-- What came to the sender is read as what arrives of this reply, however often the receiver asked
-- for C; damage shows, and is short.
pub record ArrivesBack (delivery : Delivery) (wrote : Reply) (came : List ℕ) : Type 0 where
  pub shows : ShowsBack wrote delivery
  pub short : IsShort delivery
  pub heard_is : up_to_start (controls_in came) ≡ controls_in (arrives delivery (reply_bytes wrote))

-- ---- Deliveries that pair up

-- The sender's engine has returned: to the receiver there comes what arrives of its last words, and
-- what it replies is lost.
abbrev pub ReceiverAlone : List ℕ → List Answered → List Round → Type 0
ReceiverAlone last [] [] = Unit {0}
ReceiverAlone last (a ∷ answered) (round ∷ rounds) =
    ArrivesThere round.there last a.heard × (round.back ≡ Lost) × ReceiverAlone last answered rounds
ReceiverAlone last _ _ = ⊥

-- The receiver's engine has returned: what the sender writes is lost, and no reply comes.
abbrev pub SenderAlone : List Spoke → List Round → Type 0
SenderAlone [] [] = Unit {0}
SenderAlone (s ∷ spoke) (round ∷ rounds) =
    (round.there ≡ Lost) × ArrivesBack round.back Silence s.came × SenderAlone spoke rounds
SenderAlone _ _ = ⊥

-- The sender waited in vain, and the receiver heard nothing meanwhile: a round whose deliveries are
-- both lost, in which the receiver takes no step. No control comes to the sender in it.
pub record WaitsInVain (round : Round) (came : List ℕ) : Type 0 where
  pub there : round.there ≡ Lost
  pub back : round.back ≡ Lost
  pub nothing : controls_in came ≡ []

-- The deliveries of two engines pair up as these rounds. In a round there comes to the receiver
-- what arrives of what the sender wrote last; and then to the sender what arrives of the receiver's
-- reply, or, where that reply is lost, the sender still waits. Or the sender waits in vain. Where
-- one engine has returned, the other is alone.
abbrev pub PairUp : List Spoke → List ℕ → List Answered → List Round → Type 0
PairUp [] last answered rounds = ReceiverAlone last answered rounds
PairUp (s ∷ spoke) last [] rounds = SenderAlone (s ∷ spoke) rounds
PairUp (s ∷ spoke) last (a ∷ answered) [] = ⊥
PairUp (s ∷ spoke) last (a ∷ answered) (round ∷ rounds) =
    (ArrivesThere round.there s.wrote a.heard
    × ((ArrivesBack round.back a.wrote s.came × PairUp spoke last answered rounds)
    ⊎ ((round.back ≡ Lost) × PairUp (s ∷ spoke) last answered rounds)))
    ⊎ (WaitsInVain round s.came × PairUp spoke last (a ∷ answered) rounds)

-- so do those of two calls
abbrev pub RunsPairUp : (s : SenderParts) (t : Tape) (out : sending.Outcome) →
    sending.Sends s t out →
    (r : ReceiverParts) (u : Tape) (end : receiving.Outcome) →
    receiving.Receives r u end → List Round → Type 0
RunsPairUp s t out sends r u end receives rounds =
    PairUp (spoke_in s t out sends) (last_words s t out sends) (answered_in r u end receives) rounds

-- ---- The same on any two ports

-- the courses of two calls: what each end heard while it ran, delivery by delivery
pub record AreCalls (s new : SenderParts) (r end : ReceiverParts) : Type 0 where
  pub deliveries : List (List ℕ)
  pub progress : ℕ
  pub speaks : SenderHears s deliveries progress new
  pub heard : List Heard
  pub steps : ℕ
  pub hears : ReceiverHears r heard steps end

-- Their deliveries pair up, where each end wrote what it had to say; what it had to say and could
-- not write is lost.
abbrev pub CallsPairUp : (s new : SenderParts) (r end : ReceiverParts) →
    AreCalls s new r end → List Round → Type 0
CallsPairUp s new r end calls rounds =
    PairUp (spoke_along s calls.deliveries calls.progress new calls.speaks)
    (written_for (spoken new)) (answered_along r calls.heard calls.steps end calls.hears) rounds

-- ---- What is promised of them

-- the two ends as a pair, with a line that tells nothing
abbrev pub ends : SenderParts → ReceiverParts → Pair
ends s r = record { sender = s; receiver = r; told = None; failures = 0 }

-- both ends have finished, and the whole batch is committed and reported
pub record HaveBothFinished (batch : List FileParts) (pair : Pair) : Type 0 where
  pub send : pair.sender.standing.state ≡ sender.Finished
  pub recv : pair.receiver.receiver.state ≡ receiver.Finished
  pub done : done_at (length pair.sender.files) pair.sender.standing.position ≡ length batch
  pub files : pair.receiver.receiver.files ≡ length batch
  pub headers : pair.receiver.kept.headers ≡ map (λ (f : FileParts). f.header) batch
  pub bytes : (told : Told) →
      pair.receiver.kept.told ≡ Some told →
      map (λ (bytes : List ℕ). Some bytes) told.files ≡ map (λ (f : FileParts). f.bytes) batch
