-- However the call may end from here, it may end so from the start.
use Rattle.std.proofs.Common.{◌≡◌, ◌≢◌, ℕ, List, length}
use Rattle.ym_core.specs.declared.state.RecvState.TheVariants as state
use Rattle.ym_link.proofs.Names.{Heard, Asks, ReceiverHears, Tape, Wait, Receives, Outcome, receiver_deliveries}
use Rattle.ym_link.proofs.receive_engine.receive_over.Given as goal

abbrev pub invariant-loop-buf : goal.invariant-loop-buf
invariant-loop-buf g l = record {
  told : (u : Tape) → g.P.Port.tells l.port u
      → (t : Tape) × g.P.Port.tells l.fn.port t
      × ((out : Outcome) → Receives l.receiver u out → Receives l.fn.receiver t out);
  history : (deliveries : List Heard) × (progress : ℕ) × ReceiverHears l.fn.receiver deliveries progress l.receiver
      × ((w : List Wait) → g.P.Port.asked l.port w → (v : List Wait) × g.P.Port.asked l.fn.port v × Asks (length deliveries) v w);
  calm : g.P.Port.failures l.port ≡ g.P.Port.failures l.fn.port;
  left : l.fn.receiver.receiver.state ≢ state.Running → (l.receiver ≡ l.fn.receiver) × (l.port ≡ l.fn.port);
}

abbrev pub decreases-loop-buf : goal.decreases-loop-buf
decreases-loop-buf g l = receiver_deliveries l.receiver.receiver
