-- The positions before the next one are those before this one, and this one.
use Rattle.std.proofs.Common.{◌≡◌, ◌∙◌, ◌+◌, ◌-◌, ◌≤◌, ℕ, zero, suc, nat_lt, List, [], ◌∷◌, ◌++◌, length, refl, sym, ap, arith, add-one, append_assoc}
use Rattle.std.proofs.lemmas.Bool.{cond_both, ltb-false}
use Rattle.ym_pair.proofs.Names.{block_positions, files_positions, positions_before, IsPosition, count_at, next_of, Position, Header, Block, Eot, End}
use Rattle.ym_link.specs.Moves.{IsBefore}

before-block : (counts : List ℕ) (file k n : ℕ) → 1 ≤ k → k ≡ n → positions_before counts (Block file k) ++ Block file k ∷ [] ≡ files_positions counts file ++ (Header file ∷ block_positions file n)
before-block counts file zero n least last = absurd (omega arith)
before-block counts file (suc j) n least last =
    let less : suc j - 1 ≡ j = omega arith in
    rw (append_assoc, less) (ap (λ n. files_positions counts file ++ (Header file ∷ block_positions file n)) last)

before-file : (counts : List ℕ) (file : ℕ) → positions_before counts (Eot file) ++ Eot file ∷ [] ≡ files_positions counts (file + 1)
before-file counts file =
    append_assoc (files_positions counts file) (Header file ∷ block_positions file (count_at counts file)) (Eot file ∷ [])
    ∙ ap (files_positions counts) (sym (add-one file))

pub before-next : (counts : List ℕ) (position : Position) → IsPosition counts position → IsBefore position → positions_before counts position ++ position ∷ [] ≡ positions_before counts (next_of counts position)
before-next counts (Header file) within before =
    cond_both (nat_lt 0 (count_at counts file)) (Block file 1) (Eot file) (λ p. positions_before counts (Header file) ++ Header file ∷ [] ≡ positions_before counts p)
    (λ e. refl)
    (λ e. let none = ltb-false 0 (count_at counts file) e in let zero_is : 0 ≡ count_at counts file = omega (arith, none) in ap (λ n. files_positions counts file ++ (Header file ∷ block_positions file n)) zero_is)
before-next counts (Block file k) within before =
    cond_both (nat_lt k (count_at counts file)) (Block file (k + 1)) (Eot file) (λ p. positions_before counts (Block file k) ++ Block file k ∷ [] ≡ positions_before counts p)
    (λ e. before-block counts file k (k + 1 - 1) within.1 (omega arith))
    (λ e. let most = ltb-false k (count_at counts file) e in let last = within.2 in before-block counts file k (count_at counts file) within.1 (omega (arith, most, last)))
before-next counts (Eot file) within before =
    cond_both (nat_lt (file + 1) (length counts)) (Header (file + 1)) End (λ p. positions_before counts (Eot file) ++ Eot file ∷ [] ≡ positions_before counts p)
    (λ e. before-file counts file)
    (λ e. let most = ltb-false (file + 1) (length counts) e in let all : file + 1 ≡ length counts = omega (arith, most, within) in before-file counts file ∙ ap (files_positions counts) all)
before-next counts End within before = absurd before
