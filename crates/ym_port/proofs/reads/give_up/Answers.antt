-- An ACK that was held is heard.
use Rattle.std.proofs.Common.{◌∙◌, sym, ap, List, ℕ, Some}
use Rattle.ym_link.specs.Port.{Data}
use Rattle.ym_port.proofs.Hearing.{ack-put}
use Rattle.ym_port.specs.TimedPort.{vain_answers}
use Rattle.ym_timing.specs.declared.timing.Vain.{Vain}
use Rattle.ym_port.proofs.reads.give_up.Goals as goal

pub returns-in-Ack-clause-answer : goal.returns-in-Ack-clause-answer
returns-in-Ack-clause-answer c =
    ap (λ (x : List ℕ). Some (Data x)) (ack-put c.args.buf.now c.requires)
    ∙ ap (λ (v : Vain). vain_answers v) (sym c.in-Ack.is ∙ c.give_up.ensures.vain)
