use Rattle.std.proofs.Common.{arith, ◌∙◌, ap}
use Rattle.std.specs.Int.{from_le_bytes, w128}
use Rattle.ym_check.proofs.Words.{read_as, written}
use Rattle.ym_check.proofs.fold.word_of.Goals as goal

pub returns : goal.returns
returns c =
    written c.args.bytes.now c.from_le_bytes.result c.requires (λ i. omega (arith, c.type_inv.bytes i))
    (c.from_le_bytes.ensures ∙ ap (from_le_bytes w128) c.copy_from_slice.ensures.after ∙ read_as c.args.bytes.now c.requires)
