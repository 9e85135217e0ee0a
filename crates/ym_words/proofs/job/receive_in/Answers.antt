-- The parts of the matches.
use Rattle.std.proofs.Common.{sym, codes, refl}
use Rattle.clap.specs.Words.{found_of}
use Rattle.ym_words.proofs.JobLemmas.{first_found}
use Rattle.ym_words.proofs.job.receive_in.Goals as goal

pub returns-in-Some-clause-ok : goal.returns-in-Some-clause-ok
returns-in-Some-clause-ok c =
    let dir = first_found (found_of c.args.matches.now) (codes "dir") _ (sym (rw c.in-Some.is at c.get_str.ensures)) in
    rw (sym c.receive_flags_in.ensures, dir, sym c.record_in.ensures, sym c.tell_flags_in.ensures) refl

pub returns-in-None-clause-err : goal.returns-in-None-clause-err
returns-in-None-clause-err c =
    let dir = first_found (found_of c.args.matches.now) (codes "dir") _ (sym (rw c.in-None.is at c.get_str.ensures)) in
    rw dir refl
