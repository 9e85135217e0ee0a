-- What an engine wrote in a call, and what came to it, delivery by delivery: read off its run (this
-- profile).
use Rattle.std.specs.Prelude.{◌≡◌, ℕ, Bool, Ok, List, [], ◌∷◌, ◌++◌, map}
use Rattle.std.specs.List.{concat}
use Rattle.ym_frame.specs.Control.{reply_bytes}
use Rattle.ym_frame.specs.declared.control.Reply.{Reply}
use Rattle.ym_frame.specs.declared.control.Reply.TheVariants.{Silence}
use Rattle.ym_core.specs.declared.delivery.Heard.{Heard}
use Rattle.ym_link.specs.History.{SenderHears, sender_none, sender_more, ReceiverHears, receiver_none, receiver_more}
use Rattle.ym_link.specs.Delivery.{taken}
use Rattle.ym_link.specs.Port.{Tape}
use Rattle.ym_link.specs.ReceiveOver.{has_item}
use Rattle.ym_link.specs.ReceiveOver as receiving
use Rattle.ym_link.specs.ReceiverInto.{ReceiverParts}
use Rattle.ym_link.specs.Sender.{SenderParts, spoken}
use Rattle.ym_link.specs.SendOver.{written_for}
use Rattle.ym_link.specs.SendOver as sending
use Rattle.ym_link.specs.declared.event.Event.{Event}

-- ---- A sender

-- what it wrote, and the delivery that came then
pub record Spoke : Type 0 where
  pub wrote : List ℕ
  pub came : List ℕ

abbrev pub spoke_in : (s : SenderParts) (t : Tape) (out : sending.Outcome) →
    sending.Sends s t out → List Spoke
spoke_in s t out (sending.ended _ _ over) = []
spoke_in s t out (sending.unwritten _ _ is some) = []
spoke_in s t out (sending.unread _ _ f is on none) = []
spoke_in s t out (sending.heard _ _ bytes new _ is on some gives later) =
    record { wrote = written_for (spoken s); came = bytes } ∷ spoke_in new _ out later

-- what it wrote last, and no delivery came behind it: the CAN CAN that it owed, or a frame behind
-- which its port was closed or failed
abbrev pub last_words : (s : SenderParts) (t : Tape) (out : sending.Outcome) →
    sending.Sends s t out → List ℕ
last_words s t out (sending.ended _ _ over) = written_for (spoken s)
last_words s t out (sending.unwritten _ _ is some) = []
last_words s t out (sending.unread _ _ f is on none) = written_for (spoken s)
last_words s t out (sending.heard _ _ bytes new _ is on some gives later) =
    last_words new _ out later

-- The same along a history, which is known of every port: at each delivery the sender had this to
-- say.
abbrev pub spoke_along : (s : SenderParts) (deliveries : List (List ℕ)) (progress : ℕ)
    (new : SenderParts) →
    SenderHears s deliveries progress new → List Spoke
spoke_along s deliveries progress new (sender_none _) = []
spoke_along s deliveries progress new
    (sender_more _ before steps between bytes _ hears is on short gives) =
    spoke_along s before steps between hears ++
    record { wrote = written_for (spoken between); came = bytes } ∷ []

-- ---- A receiver

-- what it heard in a delivery, and the reply that it then wrote: none where its port failed
pub record Answered : Type 0 where
  pub heard : Heard
  pub wrote : Reply

-- a delivery for which the receiver wanted memory is left out: it changed nothing
abbrev pub answered_in : (r : ReceiverParts) (t : Tape) (out : receiving.Outcome) →
    receiving.Receives r t out → List Answered
answered_in r t out (receiving.ended _ _ over) = []
answered_in r t out (receiving.unread _ _ f is on none) = []
answered_in r t out (receiving.unheard _ _ h e is on some gives) = []
answered_in r t out (receiving.unwritten _ _ h reply new is on some gives spoken) =
    record { heard = h; wrote = Silence } ∷ []
answered_in r t out (receiving.heard _ _ h reply new _ is on some gives later) =
    record { heard = h; wrote = reply } ∷ answered_in new _ out later

-- The same along a history, which is known of every port: at each delivery the receiver had this to
-- reply.
abbrev pub answered_along : (r : ReceiverParts) (deliveries : List Heard) (progress : ℕ)
    (new : ReceiverParts) →
    ReceiverHears r deliveries progress new → List Answered
answered_along r deliveries progress new (receiver_none _) = []
answered_along r deliveries progress new
    (receiver_more _ before steps between h reply _ hears is on large gives) =
    answered_along r before steps between hears ++ record { heard = h; wrote = reply } ∷ []

-- what it heard, delivery by delivery
abbrev pub heard_in : (r : ReceiverParts) (t : Tape) (out : receiving.Outcome) →
    receiving.Receives r t out → List Heard
heard_in r t out run = map (λ (one : Answered). one.heard) (answered_in r t out run)

-- ---- What came

-- These deliveries are made up by the events, each of what the one before it left.
abbrev pub AreTaken : List Event → List (List ℕ) → Type 0
AreTaken events [] = Unit {0}
AreTaken events (bytes ∷ more) =
    (ends : List ℕ → Bool) × ((taken ends [] events).delivery ≡ Ok bytes) ×
    AreTaken (taken ends [] events).rest more

-- So are those in which these were heard.
abbrev pub AreHeard : List Event → List Heard → Type 0
AreHeard events [] = Unit {0}
AreHeard events (h ∷ more) =
    (receiving.heard_in (taken has_item [] events).delivery ≡ Ok h) ×
    AreHeard (taken has_item [] events).rest more

-- ---- The bytes written

abbrev pub words_of : List Spoke → List ℕ
words_of spoke = concat (map (λ (one : Spoke). one.wrote) spoke)

abbrev pub replies_of : List Answered → List ℕ
replies_of answered = concat (map (λ (one : Answered). reply_bytes one.wrote) answered)
