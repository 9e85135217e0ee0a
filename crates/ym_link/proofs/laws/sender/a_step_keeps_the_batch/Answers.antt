use Rattle.std.proofs.Common.{◌∙◌, ap}
use Rattle.ym_link.proofs.Names.{counts_of}
use Rattle.ym_link.proofs.Files.{filled_counts, filled_files}
use Rattle.ym_link.proofs.laws.sender.a_step_keeps_the_batch.Goals as goal

pub returns : goal.returns
returns c = record {
  counts = λ s step failed new is. ap (λ shape. counts_of shape new.files) is.shape ∙ filled_counts s.shape failed step.fills s.files new.files is.files;
  files = λ s step failed new is all. filled_files failed step.fills s.files new.files is.files all;
}
