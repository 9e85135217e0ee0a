-- Where nothing was found, no prefix is a frame.
use Rattle.std.proofs.Common.{◌≡◌, ◌⊎◌, ℕ, false, List, [], ◌∷◌, length, is_ok, Option, None, Result, Ok, Err, inl, inr, refl, sym}
use Rattle.std.specs.Option.{MatchOption}
use Rattle.ym_link.proofs.Names.{verdict_of, Broken, Item, heard_at, heard_of}
use Rattle.ym_frame.specs.declared.frame.Whole.{Whole}
use Rattle.ym_core.specs.declared.delivery.Heard.TheVariants as heard
use Rattle.ym_link.specs.ReceiveOver.{has_item, IsFound}
use Rattle.ym_link.proofs.receive_engine.heard_by.Goals as goal

bad : (v : Result (Item × ℕ) Broken) → is_ok v ≡ false → heard_at v ≡ heard.Bad
bad (Ok found) h = absurd cc
bad (Err broken) h = refl

nothing : (bytes : List ℕ) → (length bytes ≡ 0) ⊎ (has_item bytes ≡ false) → heard_of bytes ≡ heard.Bad
unfolding verdict_of
nothing [] (inl none) = refl
nothing (b ∷ bytes) (inl none) = absurd cc
nothing bytes (inr still) = bad (verdict_of bytes) still

of_none : (found : Option Whole) (bytes : List ℕ) → found ≡ None → MatchOption found ((length bytes ≡ 0) ⊎ (has_item bytes ≡ false)) (IsFound bytes) → heard_of bytes ≡ heard.Bad
of_none found bytes is told = nothing bytes (rw is at told)

pub returns-in-None-clause-heard : goal.returns-in-None-clause-heard
returns-in-None-clause-heard c = sym (of_none c.args.found c.args.bytes.now c.in-None.is c.requires)

pub returns-in-None-clause-large : goal.returns-in-None-clause-large
returns-in-None-clause-large c block is = let none = of_none c.args.found c.args.bytes.now c.in-None.is c.requires in absurd cc
