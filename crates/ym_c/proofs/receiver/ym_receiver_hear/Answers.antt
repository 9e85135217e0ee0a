use Rattle.std.proofs.Common.{◌≡◌, ◌∙◌}
use Rattle.ym_c.proofs.Positions.{placed}
use Rattle.ym_c.proofs.receiver.ym_receiver_hear.Goals as goal

pub returns-clause-hears : goal.returns-clause-hears
returns-clause-hears c core held h =
    let ask = c.hear_into-receiver.new.ask in
    let is : c.hearer-core.result ≡ core = c.hearer-core.ensures.kept core held h in
    let bytes : c.delivery-bytes.result.now ≡ held = c.delivery-bytes.ensures h.room ∙ h.bytes in
    let here = rw (is, bytes) at c.hear_into-receiver.ensures.heard in
    (here.0, here.1, record { stand = h.stand; next = here.2; reply = here.3; room = h.room }, record { stand = h.stand; room = h.room; bytes = h.bytes }, here.4, placed c.a_body_stands_behind_three_bytes.ensures core here.0 held ask here.1 c.hear_into-receiver.ensures.at here.4, here.5)

pub returns-clause-rubbish : goal.returns-clause-rubbish
returns-clause-rubbish c rubbish =
    let here = rw (c.hearer-core.ensures.rubbish rubbish) at c.hear_into-receiver.ensures.heard in
    record { asks = here.4; says = here.3; next = here.2 }
