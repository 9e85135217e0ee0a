use Rattle.std.specs.Prelude.{All, take}
use Rattle.ym_link.proofs.Names.{IsFile}
use Rattle.ym_link.proofs.sender.look_at.Given as goal

abbrev pub invariant-loop-file : goal.invariant-loop-file
invariant-loop-file g l = All IsFile (take l.file-index l.files)
