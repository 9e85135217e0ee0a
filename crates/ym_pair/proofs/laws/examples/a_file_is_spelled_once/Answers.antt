use Rattle.std.proofs.Common.{◌≡◌, ◌++◌, ℕ, List, [], ◌∷◌, codes, inl, inr, refl, ap, arith}
use Rattle.ym_pair.proofs.Names.{Item, Heard, AreAmong, block}
use Rattle.ym_frame.specs.declared.frame.Item.TheVariants as item
use Rattle.ym_core.specs.declared.delivery.Heard.TheVariants as heard
use Rattle.ym_pair.specs.PairingExamples.{block_again, block_skipped}
use Rattle.ym_pair.proofs.laws.examples.a_file_is_spelled_once.Goals as goal

-- none of these was heard as the item
abbrev AreOther : Item → List Heard → Type 0
AreOther i [] = Unit {0}
AreOther i (h ∷ all) = (h ≡ heard.Item i → ⊥) × AreOther i all

never-heard : (prefix more : List Item) (i : Item) (all : List Heard) → AreOther i all → AreAmong (prefix ++ i ∷ more) all → ⊥
never-heard [] more i [] other among = among
never-heard (x ∷ prefix) more i [] other among = among
never-heard [] more i (h ∷ all) other (inl here) = other.0 here.0
never-heard [] more i (h ∷ all) other (inr later) = never-heard [] more i all other.1 later
never-heard (x ∷ prefix) more i (h ∷ all) other (inl here) = never-heard prefix more i all other.1 here.1
never-heard (x ∷ prefix) more i (h ∷ all) other (inr later) = never-heard (x ∷ prefix) more i all other.1 later

-- the number of a block, and one that no block of the examples has
abbrev number_of : Heard → ℕ
number_of (heard.Item (item.Block b)) = b.number
number_of _ = 9

no-second : AreOther (block 2 (codes "hello...")) block_again
no-second = (λ e. let n = ap number_of e in omega (arith, n), (λ e. let n = ap number_of e in omega (arith, n), (λ e. let n = ap number_of e in omega (arith, n), (λ e. let n = ap number_of e in omega (arith, n), (λ e. let n = ap number_of e in omega (arith, n), (λ e. let n = ap number_of e in omega (arith, n), tt))))))

no-first : AreOther (block 1 (codes "hello...")) block_skipped
no-first = (λ e. let n = ap number_of e in omega (arith, n), (λ e. let n = ap number_of e in omega (arith, n), (λ e. let n = ap number_of e in omega (arith, n), (λ e. let n = ap number_of e in omega (arith, n), tt))))

pub returns-clause-again : goal.returns-clause-again
returns-clause-again c = inl (refl, inl (refl, inr (inr (inl (refl, inl (refl, tt))))))

pub returns-clause-once : goal.returns-clause-once
returns-clause-once c = λ among. never-heard (block 0 (codes "a") ∷ block 1 (codes "hello...") ∷ []) (item.Eot ∷ item.Eot ∷ []) (block 2 (codes "hello...")) block_again no-second among

pub returns-clause-skipped : goal.returns-clause-skipped
returns-clause-skipped c = λ among. never-heard (block 0 (codes "a") ∷ []) (item.Eot ∷ item.Eot ∷ []) (block 1 (codes "hello...")) block_skipped no-first among

pub returns-clause-bytes : goal.returns-clause-bytes
returns-clause-bytes c = refl
