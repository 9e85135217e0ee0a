-- The parts of the matches.
use Rattle.std.proofs.Common.{sym, codes, refl}
use Rattle.clap.specs.Words.{found_of}
use Rattle.ym_words.proofs.JobLemmas.{first_found}
use Rattle.ym_words.proofs.job.explain_in.Goals as goal

pub returns : goal.returns
returns c =
    let matches = found_of c.args.matches.now in
    rw (
      first_found matches (codes "there") _ (sym c.get_str.ensures),
      first_found matches (codes "back") _ (sym c.get_str-2.ensures),
      first_found matches (codes "record") _ (sym c.get_str-3.ensures),
      sym c.flag_in.ensures,
      first_found matches (codes "chart") _ (sym c.get_str-4.ensures),
    ) refl
