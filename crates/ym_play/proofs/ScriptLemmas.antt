-- One line of a script after the other.
use Rattle.std.proofs.Common.{◌≡◌, ◌<◌, ◌≤◌, ◌+◌, ℕ, List, length, get_or, drop, Ok, refl, sym, ◌∙◌, ap, false}
use Rattle.std.proofs.lemmas.Bool.{false_from_ne_true}
use Rattle.std.proofs.lemmas.List.{at_drop_more, drop_all}
use Rattle.std.specs.Str.{IsUtf8, is_utf8}
use Rattle.std.proofs.lemmas.Str.{IsUtf8-from_is_utf8}
use Rattle.ym_play.specs.PlayFault.{IsFault, IsRefusal, fault_at}
use Rattle.ym_play.specs.Script.{ScriptParts, line_read, lines_read, numbered, ◌>>>◌}
use Rattle.ym_play.specs.declared.fault.Refusal.{Refusal}
use Rattle.ym_play.specs.declared.fault.Refusal.TheVariants as refusal

at_drop : (n : ℕ) (s : ScriptParts) (all : List (List ℕ)) (k : ℕ) (text : List ℕ) → k < length all → text ≡ get_or all k text
    → lines_read n s (drop k all) ≡ (numbered n (line_read s text) >>> (λ t. lines_read (n + 1) t (drop (k + 1) all)))
unfolding lines_read
at_drop n s all k text below e =
    at_drop_more (λ (rest : List (List ℕ)). lines_read n s rest) all k text below
    ∙ ap (λ (x : List ℕ). numbered n (line_read s x) >>> (λ t. lines_read (n + 1) t (drop (k + 1) all))) (sym e)

pub line_taken : (n : ℕ) (s t : ScriptParts) (all : List (List ℕ)) (k : ℕ) (text : List ℕ) → k < length all → text ≡ get_or all k text → line_read s text ≡ Ok t
    → lines_read n s (drop k all) ≡ lines_read (n + 1) t (drop (k + 1) all)
line_taken n s t all k text below e taken = rw (at_drop n s all k text below e, taken) refl

pub line_refused : (n : ℕ) (s : ScriptParts) (r : Refusal) (all : List (List ℕ)) (k : ℕ) (text : List ℕ) → k < length all → text ≡ get_or all k text
    → IsRefusal r (line_read s text) → IsFault (fault_at n r) (lines_read n s (drop k all))
line_refused n s (refusal.Why why) all k text below e h = rw (at_drop n s all k text below e, h) refl
line_refused n s refusal.Memory all k text below e h = tt

pub none_left : (n : ℕ) (s : ScriptParts) (all : List (List ℕ)) (k : ℕ) → length all ≤ k → lines_read n s (drop k all) ≡ Ok s
unfolding lines_read
none_left n s all k h = ap (λ (rest : List (List ℕ)). lines_read n s rest) (drop_all k all h)

pub no_text : (bytes : List ℕ) → (IsUtf8 bytes → ⊥) → is_utf8 bytes ≡ false
no_text bytes h = false_from_ne_true (is_utf8 bytes) (λ e. h (IsUtf8-from_is_utf8 bytes e))
