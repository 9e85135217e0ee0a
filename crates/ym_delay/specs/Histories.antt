-- Calls of `send_batch` and `receive_batch`, by the histories that their contracts tell of.
use Rattle.std.specs.Prelude.{◌+◌, ◌*◌, ℕ, List}
use Rattle.ym_core.specs.declared.delivery.Heard.{Heard}
use Rattle.ym_link.specs.Bound.{accepted, steps_of}
use Rattle.ym_link.specs.History.{ReceiverHistory, SenderHistory}
use Rattle.ym_link.specs.Deliveries.{frames_from}
use Rattle.ym_link.specs.ReceiverInto.{ReceiverParts}
use Rattle.ym_link.specs.Sender.{SenderParts, counts}
use Rattle.ym_machine.specs.declared.limits.TheConstants.{GIVE_UP}
use Rattle.ym_pair.specs.Logs.{Spoke, spoke_along}
use Rattle.ym_pair.specs.Pairing.{AreCalls}
use Rattle.ym_delay.specs.TimedLine.{CallsAreTimed, Times}

-- clause `history` of either, each over a port of its own
pub record AreHistories (s new : SenderParts) (r end : ReceiverParts) : Type 0 where
  pub deliveries : List (List ℕ)
  pub sent : SenderHistory s deliveries new
  pub heard : List Heard
  pub received : ReceiverHistory r heard end

abbrev pub calls_of : (s new : SenderParts) (r end : ReceiverParts) → AreHistories s new r end →
    AreCalls s new r end
calls_of s new r end histories = record {
  deliveries = histories.deliveries;
  progress = histories.sent.progress;
  speaks = histories.sent.hears;
  heard = histories.heard;
  steps = histories.received.progress;
  hears = histories.received.hears;
}

-- what the sender wrote, and what came to it then
abbrev pub said : (s new : SenderParts) (r end : ReceiverParts) → AreHistories s new r end →
    List Spoke
said s new r end histories =
    spoke_along s histories.deliveries histories.sent.progress new histories.sent.hears

-- both, with moments
abbrev pub HistoriesAreTimed : Times → (s new : SenderParts) (r end : ReceiverParts) →
    AreHistories s new r end → Type 0
HistoriesAreTimed times s new r end histories =
    CallsAreTimed times s new r end (calls_of s new r end histories)

-- ---- How many deliveries there are at most

-- to a sender: ten for each step of progress and ten more, and two steps for each frame
abbrev pub most_of_sender : SenderParts → ℕ
most_of_sender s = GIVE_UP * (2 * frames_from (counts s) s.standing.position + 1)

-- to a receiver: ten and ten more, and the steps of the files whose headers it accepted
abbrev pub most_of_receiver : ReceiverParts → ℕ
most_of_receiver end = GIVE_UP * (steps_of (accepted end) + 1)
