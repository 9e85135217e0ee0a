-- An ACK that was held is heard before the line is closed.
use Rattle.std.proofs.Common.{◌∙◌, sym, ap, List, [], ◌∷◌, ℕ, Bool, if◌then◌else◌}
use Rattle.ym_link.specs.Port.{Data, End}
use Rattle.ym_port.proofs.Hearing.{ack-put}
use Rattle.ym_port.proofs.reads.take_closed.Goals as goal

pub returns-then-close-clause-answer : goal.returns-then-close-clause-answer
returns-then-close-clause-answer c =
    ap (λ (x : List ℕ). Data x) (ack-put c.args.buf.now c.requires)
    ∙ ap (λ (b : Bool). if b then Data (6 ∷ []) else End)
    (sym c.if-close.true ∙ c.close.ensures.last)
