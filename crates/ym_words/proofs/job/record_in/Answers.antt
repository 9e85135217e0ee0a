use Rattle.std.proofs.Common.{sym, codes, refl}
use Rattle.clap.specs.Words.{found_of}
use Rattle.ym_words.proofs.JobLemmas.{first_found}
use Rattle.ym_words.proofs.job.record_in.Goals as goal

pub returns : goal.returns
returns c = rw (first_found (found_of c.args.matches.now) (codes "record") _ (sym c.get_str.ensures)) refl
