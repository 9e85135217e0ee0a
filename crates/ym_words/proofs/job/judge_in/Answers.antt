-- The parts of the matches.
use Rattle.std.proofs.Common.{sym, codes, refl}
use Rattle.clap.specs.Words.{found_of}
use Rattle.ym_words.proofs.JobLemmas.{first_found}
use Rattle.ym_words.proofs.job.judge_in.Goals as goal

pub returns : goal.returns
returns c =
    let matches = found_of c.args.matches.now in
    rw (
      sym c.peer_in.ensures,
      first_found matches (codes "port") _ (sym c.get_str.ensures),
      first_found matches (codes "line") _ (sym c.get_str-2.ensures),
      first_found matches (codes "only") _ (sym c.get_str-3.ensures),
      first_found matches (codes "stored") _ (sym c.get_str-4.ensures),
      sym c.flag_in.ensures,
      sym c.flag_in-2.ensures,
    ) refl
