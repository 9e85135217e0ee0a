-- What was gathered so far is what the delivery begins with, and does not end it.
use Rattle.std.proofs.Common.{◌-◌, ◌≡◌, ◌≤◌, [], take, length}
use Rattle.ym_link.specs.Delivery.{taken}
use Rattle.ym_link.specs.Port.{Tape}
use Rattle.ym_link.specs.ReceiveOver.{has_item}
use Rattle.ym_link.specs.declared.port.TheConstants.{DELIVERY_LIMIT}
use Rattle.ym_port.proofs.Gathering.{onward}
use Rattle.ym_port.proofs.in_step.gather.Given as goal

abbrev pub invariant-loop-len : goal.invariant-loop-len
invariant-loop-len g l = record {
  within : l.len ≤ DELIVERY_LIMIT;
  sized : length l.buf ≡ DELIVERY_LIMIT;
  told : (u : Tape) → g.P.Port.tells l.port u
      → (t : Tape) × g.P.Port.tells l.fn.port t × (u.written ≡ t.written)
      × (taken has_item [] t.coming ≡ onward has_item (take l.len l.buf) u.coming);
  calm : g.P.Port.failures l.port ≡ g.P.Port.failures l.fn.port;
}

abbrev pub decreases-loop-len : goal.decreases-loop-len
decreases-loop-len g l = DELIVERY_LIMIT - l.len
