-- However the call may end from here, it may end so from the start.
use Rattle.std.proofs.Common.{◌≡◌, ℕ, List, length}
use Rattle.ym_link.proofs.Names.{Running, Asks, SenderHears, Tape, Wait, Sends, sender_deliveries}
use Rattle.ym_link.specs.SendOver.{Outcome}
use Rattle.ym_link.proofs.send_engine.send_over.Given as goal

abbrev pub invariant-loop-buf : goal.invariant-loop-buf
invariant-loop-buf g l = record {
  ran : l.fn.sender.standing.state ≡ Running;
  told : (u : Tape) → g.P.Port.tells l.port u
      → (t : Tape) × g.P.Port.tells l.fn.port t
      × ((out : Outcome) → Sends l.sender u out → Sends l.fn.sender t out);
  history : (deliveries : List (List ℕ)) × (progress : ℕ) × SenderHears l.fn.sender deliveries progress l.sender
      × ((w : List Wait) → g.P.Port.asked l.port w → (v : List Wait) × g.P.Port.asked l.fn.port v × Asks (length deliveries) v w);
  calm : g.P.Port.failures l.port ≡ g.P.Port.failures l.fn.port;
}

abbrev pub decreases-loop-buf : goal.decreases-loop-buf
decreases-loop-buf g l = sender_deliveries l.sender
