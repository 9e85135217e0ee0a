-- a block 0 means one thing, and a delivery has one step
use Rattle.std.proofs.Common.{ℕ, ◌≡◌, ◌⊎◌, ◌==◌, inl, inr, suc, zero, List, false, refl, ap, subst, arith, cond, Result, Ok, Err}
use Rattle.std.proofs.lemmas.Bool.Decides.{nat_tests}
use Rattle.ym_link.proofs.Names.{BlockParts, Cancel, length_limit, HeaderFault, Zero, Heard, Stage, AwaitHeader, RecvState, Receiver, hears_at, running_hears, zero_heard, ends, ReadsAs, Means}
use Rattle.ym_frame.specs.declared.frame.Item.TheVariants as item
use Rattle.ym_header.specs.HeaderReading.{Reads, IsFault}
use Rattle.ym_header.specs.declared.reading.Zero.TheVariants.{End}
use Rattle.ym_core.specs.declared.delivery.Heard.TheVariants as heard
use Rattle.ym_core.specs.declared.state.RecvState.TheVariants as state
use Rattle.ym_core.specs.Receiver.{hears}

pub some_meaning : (body : List ℕ) → ((z : Zero) × Reads length_limit body z) ⊎ ((f : HeaderFault) × IsFault length_limit body f) → (zero : Result Zero HeaderFault) × ReadsAs body zero
some_meaning body (inl found) = (Ok found.0, found.1)
some_meaning body (inr found) = (Err found.0, found.1)

pub one_meaning : ((limit : ℕ) (body : List ℕ) (y z : Zero) → Reads limit body y → Reads limit body z → y ≡ z)
    → ((limit : ℕ) (body : List ℕ) (f g : HeaderFault) → IsFault limit body f → IsFault limit body g → f ≡ g)
    → ((limit : ℕ) (body : List ℕ) (z : Zero) (f : HeaderFault) → Reads limit body z → IsFault limit body f → ⊥)
    → (body : List ℕ) (x y : Result Zero HeaderFault) → ReadsAs body x → ReadsAs body y → x ≡ y
one_meaning value fault both body (Ok x) (Ok y) a b = ap Ok (value length_limit body x y a b)
one_meaning value fault both body (Ok x) (Err y) a b = absurd (both length_limit body x y a b)
one_meaning value fault both body (Err x) (Ok y) a b = absurd (both length_limit body y x b a)
one_meaning value fault both body (Err x) (Err y) a b = ap Err (fault length_limit body x y a b)

module _ (some : (body : List ℕ) → (zero : Result Zero HeaderFault) × ReadsAs body zero) (one : (body : List ℕ) (x y : Result Zero HeaderFault) → ReadsAs body x → ReadsAs body y → x ≡ y) where
  pub some_step : (r : Receiver) (h : Heard) → (zero : Result Zero HeaderFault) × Means r h zero
  some_step r (heard.Item (item.Block block)) =
      ((some block.body).0, λ other _ _ is _. let same : block.body ≡ other.body = cc in subst (λ b. ReadsAs b (some block.body).0) same (some block.body).1)
  some_step r _ = (Ok End, λ _ _ _ is _. cc)

  pub one_step : (r : Receiver) (h : Heard) (x y : Result Zero HeaderFault) → Means r h x → Means r h y → hears r x h ≡ hears r y h
  one_step r h x y a b = at r.state refl
    where
      zero-case : (n : ℕ) → (n ≡ 0 → x ≡ y) → cond (n == 0) (zero_heard r x) (ends r state.OutOfStep Cancel) ≡ cond (n == 0) (zero_heard r y) (ends r state.OutOfStep Cancel)
      zero-case zero same = ap (zero_heard r) (same refl)
      zero-case (suc n) same = let other : (suc n == 0) ≡ false = grind (arith, nat_tests) in rw other refl

      running : (s : Stage) (g : Heard) → ((block : BlockParts) → s ≡ AwaitHeader → g ≡ heard.Item (item.Block block) → block.number ≡ 0 → x ≡ y) → running_hears r s x g ≡ running_hears r s y g
      running AwaitHeader (heard.Item (item.Block block)) same = zero-case block.number (same block refl refl)
      running _ _ same = refl

      at : (s : RecvState) → r.state ≡ s → hears_at s r x h ≡ hears_at s r y h
      at state.Running e = running r.stage h (λ block stage is number. one block.body x y (a block e stage is number) (b block e stage is number))
      at _ e = refl
