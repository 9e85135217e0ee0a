-- The parts of the matches.
use Rattle.std.proofs.Common.{sym, codes, refl}
use Rattle.clap.specs.Words.{found_of}
use Rattle.ym_words.proofs.JobLemmas.{first_found}
use Rattle.ym_words.proofs.job.receive_line_in.Goals as goal

pub returns : goal.returns
returns c =
    let line = first_found (found_of c.args.matches.now) (codes "line") _ (sym c.get_str.ensures) in
    rw (
      line,
      sym c.folder_in.ensures,
      sym c.store_flags_in.ensures,
      sym c.record_in.ensures,
      sym c.tell_flags_in.ensures,
    ) refl
