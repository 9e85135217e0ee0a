-- The parts of the matches.
use Rattle.std.proofs.Common.{◌≡◌, ◌∙◌, sym, codes, Some, refl, map}
use Rattle.clap.specs.Words.{found_of, rows_of, all_of}
use Rattle.clap.proofs.WalkLemmas.{raw_values-rows}
use Rattle.ym_words.proofs.job.send_in.Goals as goal

pub returns-in_default-clause-err : goal.returns-in_default-clause-err
returns-in_default-clause-err c =
    let matches = found_of c.args.matches.now in
    let files = sym (raw_values-rows matches (codes "files"))
    ∙ sym (rw c.in_default.is at c.get_strs.ensures) in rw files refl

pub returns-in-Ok-clause-ok : goal.returns-in-Ok-clause-ok
returns-in-Ok-clause-ok c =
    let matches = found_of c.args.matches.now in
    let files : all_of (codes "files") (rows_of matches) ≡ Some (map (λ f. f.now) c.in-Ok.files.items)
    = sym (raw_values-rows matches (codes "files"))
    ∙ (sym (rw c.in-Some.is at c.get_strs.ensures) ∙ rw c.in-Ok.ensures.items refl) in
    rw (sym c.flag_in.ensures, files, sym c.record_in.ensures, sym c.tell_flags_in.ensures) refl
