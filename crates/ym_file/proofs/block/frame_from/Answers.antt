use Rattle.std.specs.Prelude.{ℕ, ◌%◌, List, IfSome}
use Rattle.std.proofs.Common.{arith, sym, subst}
use Rattle.std.proofs.lemmas.Grind.{common_steps}
use Rattle.ym_frame.specs.Seal.{IsBlockFrame}
use Rattle.ym_file.specs.Plan.{piece_at}
use Rattle.ym_file.proofs.Pieces.{on_both}
use Rattle.ym_file.proofs.block.frame_from.Goals as goal

pub returns-clause-body : goal.returns-clause-body
returns-clause-body g c =
    let P : List ℕ → Type 0 = λ body. IsBlockFrame (c.args.k % 256) body c.write_frame.new.frame in
    let made : IfSome (g.S.Source.bytes c.args.source.now) (λ all. P (piece_at c.args.shape all c.args.k)) =
    on_both (g.S.Source.bytes c.args.source.now) (λ all told made. subst P (sym (c.position_of-position.ensures.piece all told)) made)
    c.length.ensures.told c.in_ok-write_frame.ensures.body in
    grind (arith, common_steps)
