use Rattle.std.proofs.Common.{sym, refl}
use Rattle.clap.specs.Words.{found_of}
use Rattle.ym_words.proofs.JobLemmas.{first_found}
use Rattle.ym_words.proofs.job.flag_in.Goals as goal

pub returns-in-Some : goal.returns-in-Some
returns-in-Some c = rw (first_found (found_of c.args.matches.now) c.args.name.now _ (sym (rw c.in-Some.is at c.get_str.ensures))) c.eq.ensures

pub returns-in-None : goal.returns-in-None
returns-in-None c = rw (first_found (found_of c.args.matches.now) c.args.name.now _ (sym (rw c.in-None.is at c.get_str.ensures))) refl
