use Rattle.std.specs.Prelude.{◌≡◌, take}
use Rattle.std.proofs.Common.{◌∙◌, ap, sym}
use Rattle.std.proofs.lemmas.List.{take_at}
use Rattle.ym_header.specs.Text.{text}
use Rattle.ym_c.proofs.sender.seal_header.Goals as goal

pub returns-clause-frame : goal.returns-clause-frame
returns-clause-frame c =
    let size = c.write_body-size.result in
    let body = c.write_body-size.new.body in
    let whole : take size body ≡ text c.args.header.now = ap (take size) c.write_body-size.ensures.written ∙ take_at (text c.args.header.now) _ size (sym c.write_body-size.ensures.size) in
    rw whole at c.seal_body.ensures.frame
