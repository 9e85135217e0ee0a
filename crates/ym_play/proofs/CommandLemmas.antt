-- Words that say no command.
use Rattle.std.proofs.Common.{◌≡◌, ℕ, List, [], ◌∷◌, false, refl, None, codes}
use Rattle.std.specs.Str.{bytes_eq}
use Rattle.std.proofs.lemmas.Bool.{cond_both}
use Rattle.ym_play.specs.Command.{command_at}

-- behind another first word, or one of those that stand alone
pub no_command : (word : List ℕ) (others : List (List ℕ)) → (others ≡ [] → ⊥) → bytes_eq word (codes "file") ≡ false → bytes_eq word (codes "ok") ≡ false
    → bytes_eq word (codes "round") ≡ false → command_at (word ∷ others) ≡ None
no_command word [] some file ok round = absurd (some refl)
no_command word (more ∷ others) some file ok round =
    cond_both (bytes_eq word (codes "short")) None _ (λ r. r ≡ None) (λ e. refl)
    (λ e. cond_both (bytes_eq word (codes "single")) None _ (λ r. r ≡ None) (λ e. refl) (λ e. rw (file, ok, round) refl))
