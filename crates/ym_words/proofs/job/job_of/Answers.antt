use Rattle.std.proofs.Common.{◌≡◌, ◌∙◌, [], sym, ap, ap₂, Some, None, refl, map, string_bytes, true, inl, inr, true≢false}
use Rattle.std.proofs.lemmas.Result.{IfErr-weaker, IfOk-weaker}
use Rattle.std.proofs.lemmas.Bool.{cases_Bool}
use Rattle.clap.specs.Words.{found_of, rows_of, subcommand_of, subcommand_rows_of, is_simple, is_simple_and_free, app_of, takes, fault_of}
use Rattle.ym_words.specs.CommandLine.{the_app}
use Rattle.ym_words.proofs.JobLemmas.{both_halves, no_half, says_any, is_simple_app, is_free_app, first_half, kind_of_value, same_rule}
use Rattle.ym_words.proofs.job.job_of.Goals as goal

pub returns-clause-ok : goal.returns-clause-ok
returns-clause-ok c =
    let shape : app_of c.in-Ok.command ≡ the_app = c.in-Ok.ensures.app_is in
    let exact = (c.in-Ok-try_get_matches_from.ensures.matches (ap is_simple shape ∙ is_simple_app)).1 in
    let none = no_half (subcommand_rows_of c.in-Ok-try_get_matches_from.matches) (sym (rw c.in-None.is at c.subcommand.ensures.rows)) in
    let whole : subcommand_of the_app (map string_bytes c.args.words.now) ≡ None = ap₂ subcommand_of (sym shape) refl ∙ (sym exact ∙ none) in
    rw whole refl

pub returns-in-Some-clause-ok : goal.returns-in-Some-clause-ok
returns-in-Some-clause-ok c =
    let shape : app_of c.in-Ok.command ≡ the_app = c.in-Ok.ensures.app_is in
    let exact = (c.in-Ok-try_get_matches_from.ensures.matches (ap is_simple shape ∙ is_simple_app)).1 in
    let some = both_halves (subcommand_rows_of c.in-Ok-try_get_matches_from.matches) c.in-Some.name.now (rows_of (found_of c.in-Some.inner.now))
    (first_half _ _ _ ∙ sym (rw c.in-Some.is at c.subcommand.ensures.name)) (sym (rw c.in-Some.is at c.subcommand.ensures.rows)) in
    let whole : subcommand_of the_app (map string_bytes c.args.words.now) ≡ Some (c.in-Some.name.now, rows_of (found_of c.in-Some.inner.now)) = ap₂ subcommand_of (sym shape) refl ∙ (sym exact ∙ some) in
    rw whole c.job_for.ensures.ok

pub returns-in-Some-clause-err : goal.returns-in-Some-clause-err
returns-in-Some-clause-err c =
    let shape : app_of c.in-Ok.command ≡ the_app = c.in-Ok.ensures.app_is in
    let exact = (c.in-Ok-try_get_matches_from.ensures.matches (ap is_simple shape ∙ is_simple_app)).1 in
    let some = both_halves (subcommand_rows_of c.in-Ok-try_get_matches_from.matches) c.in-Some.name.now (rows_of (found_of c.in-Some.inner.now))
    (first_half _ _ _ ∙ sym (rw c.in-Some.is at c.subcommand.ensures.name)) (sym (rw c.in-Some.is at c.subcommand.ensures.rows)) in
    let whole : subcommand_of the_app (map string_bytes c.args.words.now) ≡ Some (c.in-Some.name.now, rows_of (found_of c.in-Some.inner.now)) = ap₂ subcommand_of (sym shape) refl ∙ (sym exact ∙ some) in
    rw whole (IfErr-weaker c.job_for.result _ _ (λ e h. says_any e _ _ h) c.job_for.ensures.err)

pub returns-in-Err-clause-err : goal.returns-in-Err-clause-err
returns-in-Err-clause-err c =
    let shape : app_of c.in-Ok.command ≡ the_app = c.in-Ok.ensures.app_is in
    elim (cases_Bool (takes the_app (map string_bytes c.args.words.now))) [
      | inl taken ↦ let full = c.in-Err.ensures.passes (ap₂ takes shape refl ∙ taken) in let is_full : true ≡ c.eq.result = sym (c.eq.ensures ∙ rw (c.kind.ensures ∙ full) refl) in absurd (true≢false (is_full ∙ c.if-eq.false))
      | inr not_taken ↦ not_taken
    ]

pub returns-clause-took : goal.returns-clause-took
returns-clause-took c =
    let shape : app_of c.in-Ok.command ≡ the_app = c.in-Ok.ensures.app_is in
    ap₂ fault_of (sym shape) refl ∙ c.in-Ok-try_get_matches_from.ensures.kinds (ap is_simple_and_free shape ∙ is_free_app)

pub returns-in-Some-clause-took : goal.returns-in-Some-clause-took
returns-in-Some-clause-took c =
    let shape : app_of c.in-Ok.command ≡ the_app = c.in-Ok.ensures.app_is in
    let none : fault_of the_app (map string_bytes c.args.words.now) ≡ [] = ap₂ fault_of (sym shape) refl ∙ c.in-Ok-try_get_matches_from.ensures.kinds (ap is_simple_and_free shape ∙ is_free_app) in
    IfOk-weaker c.job_for.result _ _ (λ job h. none) c.job_for.ensures.ok

pub returns-in-Some-clause-kinds : goal.returns-in-Some-clause-kinds
returns-in-Some-clause-kinds c =
    let shape : app_of c.in-Ok.command ≡ the_app = c.in-Ok.ensures.app_is in
    let none : fault_of the_app (map string_bytes c.args.words.now) ≡ [] = ap₂ fault_of (sym shape) refl ∙ c.in-Ok-try_get_matches_from.ensures.kinds (ap is_simple_and_free shape ∙ is_free_app) in
    IfErr-weaker c.job_for.result _ _ (λ e h. kind_of_value e _ _ none h) c.job_for.ensures.err

pub returns-in-Err-clause-kinds : goal.returns-in-Err-clause-kinds
returns-in-Err-clause-kinds c =
    let shape : app_of c.in-Ok.command ≡ the_app = c.in-Ok.ensures.app_is in
    elim (c.in-Err.ensures.kinds (ap is_simple_and_free shape ∙ is_free_app)) [
      | inl full ↦ let is_full : true ≡ c.eq.result = sym (c.eq.ensures ∙ rw (c.kind.ensures ∙ full) refl) in absurd (true≢false (is_full ∙ c.if-eq.false))
      | inr among ↦ same_rule _ (app_of c.in-Ok.command) the_app (map string_bytes c.args.words.now) shape among
    ]
