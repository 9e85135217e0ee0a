use Rattle.std.proofs.Common.{subst}
use Rattle.std.specs.Prelude.{All}
use Rattle.std.proofs.lemmas.List.{take_all}
use Rattle.std.proofs.lemmas.List.Elements.{All-more}
use Rattle.ym_link.proofs.Names.{IsFile}
use Rattle.ym_link.proofs.sender.look_at.Goals as goal

pub loop-file-preserved : goal.loop-file-preserved
loop-file-preserved g c =
    All-more IsFile c.args.files.now c.loop-file.file-index c.file-item.result c.loop-file-test.true c.loop-file.invariant (subst IsFile c.file-item.is c.header.ensures.within)

pub returns : goal.returns
returns g c = subst (All IsFile) (take_all c.loop-file.file-index c.args.files.now c.loop-file-test.false) c.loop-file.invariant
