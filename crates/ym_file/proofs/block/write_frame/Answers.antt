use Rattle.std.specs.Prelude.{ℕ, ◌+◌, ◌-◌, ◌%◌, List}
use Rattle.std.proofs.Common.{◌∙◌, subst, arith}
use Rattle.ym_frame.specs.Seal.{IsBlockFrame}
use Rattle.ym_file.proofs.Pieces.{on_both, body-put}
use Rattle.ym_file.proofs.block.write_frame.Goals as goal

pub returns-clause-body : goal.returns-clause-body
returns-clause-body g c =
    let there = body-put (3 + c.args.position.size - 3) c.args.frame.now c.read_body.new.body (omega arith) (omega arith) in
    let P : List ℕ → Type 0 = λ body. IsBlockFrame (c.args.k % 256) body c.seal_block.new.frame in
    on_both (g.S.Source.bytes c.args.source.now) (λ all read _. subst P (there ∙ read) c.seal_block.ensures)
    c.in_ok-read_body.ensures.body c.in_ok-read_body.ensures.body
