use Rattle.std.proofs.Common.{ap, refl, rules}
use Rattle.ym_core.specs.Step.{open_in}
use Rattle.ym_core.proofs.receiver.ReceiverCore.hear_eot.Goals as goal

pub returns-clause-moves : goal.returns-clause-moves
returns-clause-moves c = record {
  file = ((c.args.file.length, c.args.file.taken), ap open_in c.requires.in_file, c.if-file.false, refl);
  files = search rules;
}
