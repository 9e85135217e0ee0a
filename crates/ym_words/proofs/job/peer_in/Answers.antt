use Rattle.std.proofs.Common.{sym, codes, refl}
use Rattle.clap.specs.Words.{found_of}
use Rattle.ym_words.proofs.JobLemmas.{first_found}
use Rattle.ym_words.proofs.job.peer_in.Goals as goal

pub returns-in-Some : goal.returns-in-Some
returns-in-Some c =
    let matches = found_of c.args.matches.now in
    rw (first_found matches (codes "peer") _ (sym (rw c.in-Some.is at c.get_str.ensures))) refl

pub returns-in-None : goal.returns-in-None
returns-in-None c =
    let matches = found_of c.args.matches.now in
    rw (first_found matches (codes "peer") _ (sym (rw c.in-None.is at c.get_str.ensures))) refl
