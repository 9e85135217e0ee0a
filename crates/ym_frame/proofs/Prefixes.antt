-- Where the body of a block stands that was found at the front of some bytes; and which bytes may go on to a frame.
use Rattle.std.specs.Prelude.{◌≡◌, ◌≤◌, ◌<◌, ℕ, ◌+◌, ◌==◌, List, [], ◌∷◌, ◌++◌, length, take, drop, slice_index, Option, None, Some, Result, Ok, Err, refl}
use Rattle.std.proofs.Common.{sym, ◌∙◌, ap, arith, length-drop}
use Rattle.std.proofs.lemmas.Bool.{cond_both}
use Rattle.std.proofs.lemmas.List.{length-take-le}
use Rattle.std.proofs.lemmas.Option.{none-some, same_Some}
use Rattle.ym_frame.proofs.Names.{verdict_of, block_verdict, cancel_verdict, body_of, fault_at, IsOpen, Block, FirstByte, Cut}
use Rattle.ym_frame.proofs.Verdicts.{wrong, cut, good, bad, block_case, FirstCase, nothing, eot, can, soh, stx, other, first_case, body_of-more}
use Rattle.ym_frame.specs.Block.{BlockParts}
use Rattle.ym_frame.specs.declared.frame.Item.{Item}
use Rattle.ym_frame.specs.declared.frame.Item.TheVariants.{Cancel}
use Rattle.ym_frame.specs.declared.frame.Broken.{Broken}
use Rattle.ym_frame.specs.declared.frame.Why.TheVariants.{SecondCan}

abbrev Verdict : Type 0
Verdict = Result (Item × ℕ) Broken

abbrev a_block : BlockParts → ℕ → Verdict
a_block b len = Ok (Block b, len)

abbrev block_in : Verdict → Option BlockParts
block_in (Ok (Block b, len)) = Some b
block_in v = None

-- a block that was found: its body, and that all of its frame is there
record Found (bytes : List ℕ) (b : BlockParts) : Type 0 where
  size : ℕ
  body : b.body ≡ body_of size bytes
  whole : size + 5 ≤ length bytes

in_block : (size : ℕ) (bytes : List ℕ) (b : BlockParts) (len : ℕ) → block_verdict size bytes ≡ a_block b len → Found bytes b
in_block size bytes b len h =
    elim (block_case size bytes) [
      | wrong w e ↦ absurd (none-some b (ap block_in (sym e ∙ h)))
      | cut w l e ↦ absurd (none-some b (ap block_in (sym e ∙ h)))
      | good w l m e ↦ record { size = size; body = ap (λ b. b.body) (sym (same_Some _ b (ap block_in (sym e ∙ h)))); whole = l }
      | bad w l m e ↦ absurd (none-some b (ap block_in (sym e ∙ h)))
    ]

behind_can : (more : List ℕ) (b : BlockParts) (len : ℕ) → cancel_verdict more ≡ a_block b len → ⊥
behind_can [] b len h = none-some b (ap block_in h)
behind_can (second ∷ more) b len h =
    cond_both (second == 0x18) _ _ (λ v. v ≡ a_block b len → ⊥) (λ e w. none-some b (ap block_in w)) (λ e w. none-some b (ap block_in w)) h

by_first : (bytes : List ℕ) (b : BlockParts) (len : ℕ) → FirstCase bytes → verdict_of bytes ≡ a_block b len → Found bytes b
unfolding verdict_of
by_first bytes b len (nothing e) h = absurd (none-some b (ap block_in (rw e at h)))
by_first bytes b len (eot more e) h = absurd (none-some b (ap block_in (rw e at h)))
by_first bytes b len (can more e) h = absurd (behind_can more b len (rw e at h))
by_first bytes b len (soh more e) h = rw e (in_block 128 (0x01 ∷ more) b len (rw e at h))
by_first bytes b len (stx more e) h = rw e (in_block 1024 (0x02 ∷ more) b len (rw e at h))
by_first bytes b len (other first more e ne nc ns nl) h = absurd (none-some b (ap block_in (rw (e, ne, nc, ns, nl) at h)))

-- whatever follows the frame
pub body-there : (bytes more : List ℕ) (b : BlockParts) (len : ℕ) → verdict_of bytes ≡ a_block b len → take (length b.body) (drop 3 (bytes ++ more)) ≡ b.body
body-there bytes more b len e =
    let f = by_first bytes b len (first_case bytes) e in
    let behind = length-drop 3 bytes in
    let l = f.whole in
    let size : length (body_of f.size bytes) ≡ f.size = length-take-le f.size (drop 3 bytes) (omega (arith, behind, l)) in
    rw (f.body, size) (body_of-more f.size bytes more (omega (arith, l)))

-- ---- Which bytes are decided

-- two bytes behind a CAN are decided
can_decided : (second : ℕ) (rest : List ℕ) → IsOpen (cancel_verdict (second ∷ rest)) → ⊥
can_decided second rest =
    cond_both (second == 0x18) (Ok (Cancel, 2)) (Err (fault_at 1 SecondCan)) (λ v. IsOpen v → ⊥) (λ e h. h) (λ e h. let no : SecondCan ≡ Cut = h in cc)

-- any other first byte is decided
decided_by : (bytes : List ℕ) → FirstCase bytes → 0 < length bytes → (slice_index bytes 0 ≡ 0x01 → ⊥) → (slice_index bytes 0 ≡ 0x02 → ⊥)
    → (slice_index bytes 0 ≡ 0x18 → length bytes ≡ 1 → ⊥) → IsOpen (verdict_of bytes) → ⊥
unfolding verdict_of
decided_by bytes (nothing e) some a b c h = let none = ap length e in omega arith
decided_by bytes (eot more e) some a b c h = rw e at h
decided_by bytes (can [] e) some a b c h = c (rw e refl) (rw e refl)
decided_by bytes (can (second ∷ more) e) some a b c h = can_decided second more (rw e at h)
decided_by bytes (soh more e) some a b c h = a (rw e refl)
decided_by bytes (stx more e) some a b c h = b (rw e refl)
decided_by bytes (other first more e ne nc ns nl) some a b c h = let no : FirstByte ≡ Cut = rw (e, ne, nc, ns, nl) at h in cc

pub decided : (bytes : List ℕ) → 0 < length bytes → (slice_index bytes 0 ≡ 0x01 → ⊥) → (slice_index bytes 0 ≡ 0x02 → ⊥) → (slice_index bytes 0 ≡ 0x18 → length bytes ≡ 1 → ⊥) → IsOpen (verdict_of bytes) → ⊥
decided bytes = decided_by bytes (first_case bytes)
