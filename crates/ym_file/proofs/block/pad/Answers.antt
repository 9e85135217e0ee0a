use Rattle.ym_file.proofs.Pieces.{padded-fill}
use Rattle.ym_file.proofs.block.pad.Goals as goal

pub returns : goal.returns
returns c = padded-fill c.args.filled c.args.body.now c.fill.new.self c.requires (c.fill.ensures.after (λ y e. e))
