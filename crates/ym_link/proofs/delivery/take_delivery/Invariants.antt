-- What was taken so far is what the delivery begins with, and does not end it.
use Rattle.std.proofs.Common.{◌-◌, ◌≡◌, ◌≤◌, ◌⊎◌, List, [], take, length, false}
use Rattle.ym_link.proofs.Names.{Tape, taken, Wait, DELIVERY_LIMIT}
use Rattle.ym_link.proofs.Histories.{Scan}
use Rattle.ym_link.proofs.Taking.{onward}
use Rattle.ym_link.proofs.delivery.take_delivery.Given as goal

abbrev pub invariant-loop-len : goal.invariant-loop-len
invariant-loop-len g l = record {
  within : l.len ≤ DELIVERY_LIMIT;
  sized : length l.buf ≡ DELIVERY_LIMIT;
  goes_on : (l.len ≡ 0) ⊎ (g.L.Listener.ends l.listener (take l.len l.buf) ≡ false);
  told : (u : Tape) → g.P.Port.tells l.port u
      → (t : Tape) × g.P.Port.tells l.fn.port t × (u.written ≡ t.written)
      × (taken (g.L.Listener.ends l.listener) [] t.coming ≡ onward (g.L.Listener.ends l.listener) (take l.len l.buf) u.coming);
  asked : (w : List Wait) → g.P.Port.asked l.port w → (v : List Wait) × g.P.Port.asked l.fn.port v × Scan l.len l.wait v w;
  calm : g.P.Port.failures l.port ≡ g.P.Port.failures l.fn.port;
}

abbrev pub decreases-loop-len : goal.decreases-loop-len
decreases-loop-len g l = DELIVERY_LIMIT - l.len
