use Rattle.std.specs.Prelude.{◌≡◌, ℕ, Result, Ok, take}
use Rattle.std.proofs.Common.{rules}
use Rattle.ym_frame.specs.Frame.{verdict_of}
use Rattle.ym_frame.specs.declared.frame.Item.TheVariants.{Block}
use Rattle.ym_frame.specs.declared.frame.Item.{Item}
use Rattle.ym_frame.specs.declared.frame.Broken.{Broken}
use Rattle.ym_c.proofs.Fronts.{found_block}
use Rattle.ym_c.proofs.reader.tell.Goals as goal

pub returns-in-Block-clause-found : goal.returns-in-Block-clause-found
returns-in-Block-clause-found c =
    let found : Result (Item × ℕ) Broken = Ok (Block c.in-Block.block, c.in-Ok.found.1) in
    let is : verdict_of (take c.args.reader.now.len c.args.reader.now.held) ≡ found = search rules in
    found_block c.a_body_stands_behind_three_bytes.ensures c.args.reader.now.len c.args.reader.now.held c.in-Block.block c.in-Ok.found.1 _ is (search rules)
