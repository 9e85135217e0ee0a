-- what can come back of a reply
use Rattle.std.proofs.Common.{◌≡◌, ◌⊎◌, inl, inr, List, [], ◌∷◌, Bool, true, false, refl, sym, ap, subst, map, cond, arith}
use Rattle.ym_machine.proofs.Names.{Control, Reply, Silence, Start, Ack, AckStart, Nak, Cancel, controls, is_within}
use Rattle.ym_frame.specs.declared.control.Control.TheVariants as control
use Rattle.ym_frame.specs.Control.{reply_bytes, IsSubsequence}
use Rattle.ym_machine.proofs.ReceiverSteps.{on_cond}
use Rattle.ym_machine.specs.Steps.{IsRemnant, control_byte, same_control}

-- of one control byte
one-of : (c : Control) (came : List Control) → is_within came (c ∷ []) ≡ true → (came ≡ []) ⊎ (came ≡ c ∷ [])
one-of c [] w = inl refl
one-of control.Ack (control.Ack ∷ []) w = inr refl
one-of control.Nak (control.Nak ∷ []) w = inr refl
one-of control.Start (control.Start ∷ []) w = inr refl
one-of control.Can (control.Can ∷ []) w = inr refl
one-of _ _ w = cc

pub remnants : (reply : Reply) (came : List Control) → is_within came (controls reply) ≡ true → IsRemnant came
remnants Silence [] w = inl refl
remnants Silence (c ∷ came) w = cc
remnants Start came w = elim (one-of control.Start came w) [ inl e ↦ inl e | inr e ↦ inr (inl e) ]
remnants Ack came w = elim (one-of control.Ack came w) [ inl e ↦ inl e | inr e ↦ inr (inr (inl e)) ]
remnants Nak came w = elim (one-of control.Nak came w) [ inl e ↦ inl e | inr e ↦ inr (inr (inr (inr (inl e)))) ]
remnants AckStart [] w = inl refl
remnants AckStart (control.Ack ∷ came) w = elim (one-of control.Start came w) [ inl e ↦ inr (inr (inl (ap (λ x. control.Ack ∷ x) e))) | inr e ↦ inr (inr (inr (inl (ap (λ x. control.Ack ∷ x) e)))) ]
remnants AckStart (control.Start ∷ came) w = elim (one-of control.Start (control.Start ∷ came) w) [ inl e ↦ inl e | inr e ↦ inr (inl e) ]
remnants Cancel [] w = inl refl
remnants Cancel (control.Can ∷ came) w = elim (one-of control.Can came w) [ inl e ↦ inr (inr (inr (inr (inr (inl (ap (λ x. control.Can ∷ x) e)))))) | inr e ↦ inr (inr (inr (inr (inr (inr (ap (λ x. control.Can ∷ x) e)))))) ]
remnants _ _ w = cc

-- a list that leaves out more is within too
less : (c : Control) (came reply : List Control) → is_within (c ∷ came) reply ≡ true → is_within came reply ≡ true
less c [] reply w = refl
less c (d ∷ came) [] w = cc
less c (d ∷ came) (r ∷ reply) w = go (λ v. less d came reply v) (λ v. less c (d ∷ came) reply v) (same_control c r) (same_control d r) w
  where
    go : (is_within (d ∷ came) reply ≡ true → is_within came reply ≡ true) → (is_within (c ∷ d ∷ came) reply ≡ true → is_within (d ∷ came) reply ≡ true)
        → (p q : Bool) → cond p (is_within (d ∷ came) reply) (is_within (c ∷ d ∷ came) reply) ≡ true → cond q (is_within came reply) (is_within (d ∷ came) reply) ≡ true
    go one two true true w = one w
    go one two true false w = w
    go one two false true w = one (two w)
    go one two false false w = two w

same-byte : (c r : Control) → control_byte c ≡ control_byte r → same_control c r ≡ true
same-byte c r e = grind arith

-- a subsequence of bytes is one of controls
controls-within : (came reply : List Control) → IsSubsequence (map control_byte came) (map control_byte reply) → is_within came reply ≡ true
controls-within [] reply s = refl
controls-within (c ∷ came) [] s = absurd s
controls-within (c ∷ came) (r ∷ reply) (inl s) = let e = same-byte c r s.0 in rw e (controls-within came reply s.1)
controls-within (c ∷ came) (r ∷ reply) (inr s) =
    let rest = controls-within (c ∷ came) reply s in let fewer = less c came reply rest in
    on_cond (λ b. b ≡ true) (same_control c r) _ _ (λ _. fewer) (λ _. rest)

pub bytes-of : (reply : Reply) → map control_byte (controls reply) ≡ reply_bytes reply
bytes-of Silence = refl
bytes-of _ = refl

pub subsequence : (reply : Reply) (came : List Control) → IsSubsequence (map control_byte came) (reply_bytes reply) → is_within came (controls reply) ≡ true
subsequence reply came s = controls-within came (controls reply) (subst (IsSubsequence (map control_byte came)) (sym (bytes-of reply)) s)
