-- What passes a port that keeps a receiver in step, read by read and reply by reply.
use Rattle.std.proofs.Common.{◌≡◌, ℕ, Bool, true, false, List, ◌∷◌, sym, ◌∙◌, ap}
use Rattle.ym_link.specs.Port.{Tape, Seen, read_gives, read_leaves, after_write, event_of}
use Rattle.ym_link.specs.declared.event.Event.{Event}
use Rattle.ym_link.specs.declared.port.Wait.{Wait as Asked}
use Rattle.ym_port.proofs.Passing.{FitsIn, gives-event, tape_of}
use Rattle.ym_port.specs.InStep.{Read, Passes, gives, read_of}
use Rattle.ym_port.specs.InStep.{reads as passes-read, writes as passes-reply}
use Rattle.ym_port.specs.Turn.{replied}
use Rattle.ym_port.specs.declared.turn.Turn.{Turn}

-- a read
pub read-passes : (w : Asked) (room : ℕ) (old new : Turn) (seen : Seen)
    (coming left heard : List Event)
    → FitsIn room seen → read_of w room old coming ≡ gives seen new left → Passes new left heard
    → Passes old coming (event_of seen ∷ heard)
    × (seen ≡ read_gives room (event_of seen ∷ heard))
    × (heard ≡ read_leaves room (event_of seen ∷ heard))
read-passes w room old new seen coming left heard fits is passes =
    let one = gives-event room seen heard fits in
    let e : (read_of w room old coming).seen ≡ seen = ap (λ (r : Read). r.seen) is in (
      rw (← e) (passes-read old coming heard w room (rw is passes)),
      sym one.0,
      sym one.1,
    )

-- a reply that was written, or failed
pub reply-passes : (made : Bool) (bytes : List ℕ) (old new : Turn) (u p t : Tape)
    → p ≡ after_write made t bytes → new ≡ replied bytes old → u.written ≡ p.written
    → Passes new p.coming u.coming
    → Passes old t.coming u.coming
    × (u ≡ after_write made (tape_of u.coming t.written) bytes)
reply-passes true bytes old new u p t is turn wrote passes = (
  passes-reply old t.coming u.coming bytes (rw (turn, is) at passes),
  ap (λ (x : List ℕ). tape_of u.coming x) (wrote ∙ ap (λ (x : Tape). x.written) is),
)
reply-passes false bytes old new u p t is turn wrote passes = (
  passes-reply old t.coming u.coming bytes (rw (turn, is) at passes),
  ap (λ (x : List ℕ). tape_of u.coming x) (wrote ∙ ap (λ (x : Tape). x.written) is),
)
