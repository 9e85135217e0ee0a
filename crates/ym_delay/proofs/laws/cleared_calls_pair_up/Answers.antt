use Rattle.std.proofs.Common.{◌≡◌, ℕ, List, sym, subst}
use Rattle.ym_link.specs.Sender as sender
use Rattle.ym_link.specs.SendOver.{written_for}
use Rattle.ym_pair.specs.Logs.{Spoke, answered_along, spoke_along}
use Rattle.ym_delay.specs.Cleared.{AnswersAlike, SaysAgain}
use Rattle.ym_delay.specs.TimedLine.{answers_of, spoken}
use Rattle.ym_delay.proofs.Cleared.{moved}
use Rattle.ym_delay.proofs.laws.cleared_calls_pair_up.Goals as goal

says : (a b : List Spoke) (x y : List ℕ) → a ≡ b → x ≡ y → SaysAgain a x → SaysAgain b y
says a b x y e f again = subst (λ l. SaysAgain l y) e (subst (SaysAgain a) f again)

pub returns : goal.returns
returns c times s new r end calls timed well some clears =
    let along = spoke_along s calls.deliveries calls.progress new calls.speaks in
    let replies = answered_along r calls.heard calls.steps end calls.hears in
    let again = says along (spoken timed.spoke) (written_for (sender.spoken new)) timed.last.bytes (sym timed.spoke_is) (sym timed.last_is) (c.a_sender_says_again.ensures s new calls.deliveries calls.progress calls.speaks well) in
    let alike = subst AnswersAlike (sym timed.answered_is) (c.a_receiver_answers_alike.ensures r end calls.heard calls.steps calls.hears some) in
    let pairs = c.cleared_deliveries_pair_up.ensures times timed.start timed.begun timed.spoke timed.last timed.answered timed.timed again alike clears in
    (pairs.0, moved (spoken timed.spoke) along timed.last.bytes (written_for (sender.spoken new)) (answers_of timed.answered) replies pairs.0 timed.spoke_is timed.last_is timed.answered_is pairs.1)
