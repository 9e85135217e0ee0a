use Rattle.ym_header.proofs.MeaningLemmas.{read_fits}
use Rattle.ym_header.proofs.laws.read_is_within.Goals as goal

pub returns : goal.returns
returns c = read_fits
