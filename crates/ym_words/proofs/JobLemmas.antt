-- The number of a text of digits.
use Rattle.std.proofs.Common.{◌≡◌, ◌≤◌, ◌<◌, length, arith, nat_le, option_map, Option, Some, None, ◌&&◌, ℕ, List, [], ◌∷◌, true, rules, refl, sym, ◌∙◌, true≢false, ap, Bool}
use Rattle.std.specs.Str.{all_ascii_digits}
use Rattle.std.specs.Bool.{Decides}
use Rattle.std.proofs.lemmas.Str.Parse.{IsNumeralModel, numerals_by_fold}
use Rattle.std.proofs.lemmas.Bool.{le-leb, leb-true, false_from_ne_true}
use Rattle.std.proofs.lemmas.Bool.Decides.{Decides-and}
use Rattle.std.proofs.lemmas.Option.{none-some, same_Some}
use Rattle.clap.specs.Words.{first_of, first_value, rows_of, is_simple, is_simple_and_free, fault_of, App, IsAmong, Kinds, Text}
use Rattle.clap.specs.declared.error.kind.ErrorKind.{ErrorKind}
use Rattle.clap.specs.declared.parser.matches.Found.{Found}
use Rattle.clap.proofs.WalkLemmas.{first_value-rows}
use Rattle.clap.proofs.OnLiterals.{clap_on_literals}
use Rattle.ym_words.specs.declared.job.JobFault.{JobFault}
use Rattle.ym_words.specs.declared.job.JobFault.TheVariants as fault
use Rattle.ym_words.specs.PortNumber.{read_on, IsPort, port_value}
use Rattle.ym_words.specs.CommandLine.{the_app}
use Rattle.ym_words.specs.Job.{FaultSays, IsKind, Asked}

pub own : IsNumeralModel (λ ds. all_ascii_digits ds ≡ true) (read_on 0)
own = numerals_by_fold _ (search rules) read_on (search rules)

pub not_empty : (text : List ℕ) → 1 ≤ read_on 0 text → 0 < length text
not_empty [] h = absurd (omega arith)
not_empty (c ∷ rest) h = omega arith

-- what the test of a port decides
fits : (text : List ℕ) → Decides (all_ascii_digits text && (nat_le 1 (read_on 0 text) && nat_le (read_on 0 text) 65535))
    ((all_ascii_digits text ≡ true) × ((1 ≤ read_on 0 text) × (read_on 0 text ≤ 65535)))
fits text = Decides-and _ _ (λ e. e, λ e. e) (Decides-and _ _ (leb-true 1 _, le-leb 1 _) (leb-true _ 65535, le-leb _ 65535))

-- the contract of `port_number` as an equation
pub port_is : (text : List ℕ) (p : Option ℕ) → IsPort text p → p ≡ port_value (Some text)
port_is text (Some p) h = rw ((fits text).1 (h.0, (rw h.1 at h.2, rw h.1 at h.3))) (ap Some h.1)
port_is text None h =
    let never = false_from_ne_true _ (λ e. let w = (fits text).0 e in let more = h w.0 w.1.0 in let few = w.1.1 in omega (arith, more, few)) in rw never refl

-- what `get_str` answers is what the rows hold
pub first_found : (f : Found) (id : List ℕ) (t : Option (List ℕ)) → first_value f id ≡ t → first_of id (rows_of f) ≡ t
first_found f id t e = sym (first_value-rows f id) ∙ e

-- a fault that does not speak of the parse is one of any parse
pub says_any : (e : JobFault) (job : Option Asked) (taken : Bool) → FaultSays e job true → FaultSays e job taken
says_any (fault.Words e) job taken h = absurd (true≢false h)
says_any e job taken h = h

pub is_simple_app : is_simple the_app ≡ true
unfolding the_app clap_on_literals
is_simple_app = refl

pub is_free_app : is_simple_and_free the_app ≡ true
unfolding the_app clap_on_literals
is_free_app = refl

-- the rule of the same command line
pub same_rule : (kind : ErrorKind) (a b : App) (words : List Text) → a ≡ b → IsAmong kind (fault_of a words) → IsAmong kind (fault_of b words)
same_rule kind a b words e h = rw e at h

-- where the words are clap's, a fault is that of a value
pub kind_of_value : (e : JobFault) (job : Option Asked) (kinds : Kinds) → kinds ≡ [] → FaultSays e job true → IsKind e kinds
kind_of_value (fault.Words e) job kinds none h = absurd (true≢false h)
kind_of_value fault.Value job kinds none h = none
kind_of_value fault.Memory job kinds none h = tt

-- an option of a pair by its two halves
pub both_halves : {A B : Type 0} (o : Option (A × B)) (a : A) (b : B) → option_map (λ (p : A × B). p.0) o ≡ Some a
    → option_map (λ (p : A × B). p.1) o ≡ Some b → o ≡ Some (a, b)
both_halves None a b e f = absurd (none-some a e)
both_halves (Some p) a b e f = λ i. Some (same_Some p.0 a e i, same_Some p.1 b f i)

pub no_half : {A B : Type 0} (o : Option (A × B)) → option_map (λ (p : A × B). p.1) o ≡ None → o ≡ None
no_half None e = refl
no_half (Some p) e = absurd (none-some p.1 (sym e))

pub first_half : {X A B : Type 0} (f : X → A) (g : X → B) (o : Option X) → option_map (λ (p : A × B). p.0) (option_map (λ (x : X). (f x, g x)) o) ≡ option_map f o
first_half f g None = refl
first_half f g (Some x) = refl
