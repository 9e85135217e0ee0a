use Rattle.std.proofs.Common.{◌∙◌, ap₂}
use Rattle.ym_file.specs.Plan.{padded}
use Rattle.ym_file.proofs.Pieces.{on_both, take-filled}
use Rattle.ym_file.proofs.block.read_body.Goals as goal

pub returns-clause-body : goal.returns-clause-body
returns-clause-body g c =
    on_both (g.S.Source.bytes c.args.source.now) (λ all told body.
    body ∙ ap₂ padded c.requires.size
    (take-filled c.args.position.size c.args.position.start c.length-length.result c.min-filled.result all told c.min-filled.ensures))
    c.length-length.ensures.told c.in_ok-read_padded.ensures.body
