use Rattle.std.proofs.Common.{sym, codes, refl}
use Rattle.clap.specs.Words.{found_of}
use Rattle.ym_words.proofs.JobLemmas.{port_is, first_found}
use Rattle.ym_words.proofs.job.port_in.Goals as goal

pub returns-in-Some : goal.returns-in-Some
returns-in-Some c =
    let first = first_found (found_of c.args.matches.now) (codes "port") _ (sym (rw c.in-Some.is at c.get_str.ensures)) in
    rw first (port_is c.in-Some.text.now c.port_number.result c.port_number.ensures)

pub returns-in-None : goal.returns-in-None
returns-in-None c = rw (first_found (found_of c.args.matches.now) (codes "port") _ (sym (rw c.in-None.is at c.get_str.ensures))) refl
