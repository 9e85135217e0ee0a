-- Cases that were tried, one after another.
use Rattle.std.proofs.Common.{◌≡◌, ◌∙◌, ◌++◌, ◌+◌, ◌<◌, ◌≤◌, ℕ, Bool, List, [], ◌∷◌, length, take, get_or, inl, inr, sym, ap, refl, Result, Ok, Err}
use Rattle.std.proofs.KnownBytes.{Appends-nil, Appends-trans}
use Rattle.std.proofs.lemmas.List.{flat_map_more, map_push, take_all, take_more}
use Rattle.std.proofs.lemmas.List.Elements.{filter-append}
use Rattle.std.proofs.lemmas.List.Sums.{fold_push}
use Rattle.std.specs.List.{AllZip}
use Rattle.std.specs.Result.{IsErrAnd}
use Rattle.ym_judge.specs.Reporting.{counted, no_sums}
use Rattle.ym_judge.specs.declared.case.Case.{Case}
use Rattle.ym_judge.specs.declared.report.Sums.{Sums}
use Rattle.ym_judge.specs.declared.report.Tried.{Tried}
use Rattle.ym_judging.specs.declared.outcome.Outcome.{Outcome}
use Rattle.ym_answer.specs.Lines.{line}
use Rattle.ym_answer.specs.Page.{Page, Prints}
use Rattle.ym_answer.specs.declared.command_fault.CommandFault.{CommandFault}
use Rattle.ym_judged.specs.Judged.{AreTried, IsMidway, IsShown, TriesCases, case_lines, case_words, is_harm, report_end, status_of_avoided, sums_of, to_avoid}
use Rattle.ym_judged.specs.declared.judging.Report.{Report}

pub shown-push : (outcomes : List Outcome) (tried : List Tried) (one : Outcome) (it : Tried) → AllZip IsShown outcomes tried → IsShown one it → AllZip IsShown (outcomes ++ one ∷ []) (tried ++ it ∷ [])
shown-push [] [] one it are is = (is, tt)
shown-push [] (x ∷ tried) one it are is = absurd are
shown-push (o ∷ outcomes) [] one it are is = absurd are
shown-push (o ∷ outcomes) (x ∷ tried) one it are is = (are.0, shown-push outcomes tried one it are.1 is)

-- so far: these cases were tried, what was found is in the report, and their lines were printed
pub record SoFar (cases : List Case) (json : Bool) (old : Page) (report : Report) (new : Page) : Type 0 where
  pub outcomes : List Outcome
  pub tried : List Tried
  pub are : AreTried cases outcomes tried
  pub sums : report.sums ≡ sums_of tried
  pub avoided : report.avoided.items ≡ to_avoid tried
  pub prints : Prints old (case_lines json tried) (Ok tt) new

pub none_so_far : (json : Bool) (page : Page) (report : Report) → report.sums ≡ no_sums → report.avoided.items ≡ [] → SoFar [] json page report page
none_so_far json page report s a =
    record { outcomes = []; tried = []; are = record { are = refl; shown = tt }; sums = s; avoided = a; prints = (Appends-nil page.holds, refl) }

pub one_more : (all : List Case) (index : ℕ) (d : Case) (json : Bool) (old between new : Page) (before after : Report) (one : Outcome) (it : Tried)
    → index < length all → it.case ≡ get_or all index d → IsShown one it → after.sums ≡ counted it.finding before.sums
    → after.avoided.items ≡ before.avoided.items ++ to_avoid (it ∷ [])
    → Prints between (line (case_words json it)) (Ok tt) new → SoFar (take index all) json old before between → SoFar (take (index + 1) all) json old after new
one_more all index d json old between new before after one it within of shows s a prints far =
    let cases = ap (λ (xs : List Case). xs ++ it.case ∷ []) far.are.are ∙ ap (λ (x : Case). take index all ++ x ∷ []) of in
    record {
      outcomes = far.outcomes ++ one ∷ [];
      tried = far.tried ++ it ∷ [];
      are = record {
        are = map_push (λ (x : Tried). x.case) far.tried it ∙ (cases ∙ sym (take_more all index d within));
        shown = shown-push far.outcomes far.tried one it far.are.shown shows;
      };
      sums = s ∙ (ap (counted it.finding) far.sums ∙ sym (fold_push (λ (n : Sums) (x : Tried). counted x.finding n) no_sums far.tried it));
      avoided = a ∙ (ap (λ (xs : List Tried). xs ++ to_avoid (it ∷ [])) far.avoided ∙ sym (filter-append (λ (x : Tried). is_harm x.finding x.finished) far.tried (it ∷ [])));
      prints = (
        rw (sym (flat_map_more (λ (x : Tried). line (case_words json x)) [] far.tried it)) (Appends-trans old.holds between.holds new.holds _ _ far.prints.0 prints.0),
        prints.1 ∙ far.prints.1,
      );
    }

-- a fault at the case behind them
pub cut_off : (cases : List Case) (count : ℕ) (json : Bool) (old new : Page) (report : Report) (why : CommandFault) (answer : Result ℕ CommandFault)
    → count < length cases → IsMidway why → IsErrAnd answer (λ e. e ≡ why) → SoFar (take count cases) json old report new → TriesCases cases json old answer new
cut_off cases count json old new report why (Ok status) few midway is far = absurd is
cut_off cases count json old new report why (Err e) few midway is far =
    inr (inl (record { outcomes = far.outcomes; tried = far.tried; count = count; few = few; are = far.are; prints = far.prints; why = why; midway = midway; answer_is = ap Err is }))

-- behind the last case
pub reported : (all : List Case) (count : ℕ) (json : Bool) (old between new : Page) (report : Report) (answer : Result ℕ CommandFault)
    → length all ≤ count → SoFar (take count all) json old report between → Prints between (report_end json report.avoided.items report.sums) (Ok tt) new
    → answer ≡ Ok (status_of_avoided report.avoided.items) → TriesCases all json old answer new
reported all count json old between new report answer every far ends is =
    let found = ap (λ (xs : List Tried). report_end json xs report.sums) far.avoided ∙ ap (report_end json (to_avoid far.tried)) far.sums in
    inl (record {
      outcomes = far.outcomes;
      tried = far.tried;
      are = record { are = far.are.are ∙ take_all count all every; shown = far.are.shown };
      prints = (rw (sym found) (Appends-trans old.holds between.holds new.holds _ _ far.prints.0 ends.0), ends.1 ∙ far.prints.1);
      answer_is = is ∙ ap (λ (xs : List Tried). Ok (status_of_avoided xs)) far.avoided;
    })
