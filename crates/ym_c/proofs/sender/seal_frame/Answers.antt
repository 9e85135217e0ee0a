use Rattle.std.specs.Prelude.{◌≡◌, ◌+◌, ◌-◌, length}
use Rattle.std.proofs.Common.{rules, arith}
use Rattle.ym_c.proofs.Bodies.{body_put}
use Rattle.ym_c.proofs.sender.seal_frame.Goals as goal

pub returns : goal.returns
returns c =
    let there = body_put (3 + length c.args.body.now - 3) c.args.frame.now c.copy_from_slice.new.self (omega arith) (search rules) in
    let same : c.copy_from_slice.new.self ≡ c.args.body.now = search rules in
    rw (there, same) at c.seal_block.ensures
