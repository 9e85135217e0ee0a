-- Which bytes may go on to a frame, by their first byte.
use Rattle.std.proofs.Common.{◌≡◌, ◌<◌, ◌++◌, ◌∷◌, [], ℕ, List, arith, length, refl}
use Rattle.std.specs.Prelude.{slice_index}
use Rattle.std.proofs.lemmas.List.{nil_from_length}
use Rattle.ym_frame.specs.Frame.{verdict_of, block_verdict, IsOpen}

-- behind a first byte, each by its number
pub soh_verdict : (bytes more : List ℕ) → 0 < length bytes → slice_index bytes 0 ≡ 0x01 → verdict_of (bytes ++ more) ≡ block_verdict 128 (bytes ++ more)
unfolding verdict_of
soh_verdict [] more some is = absurd (omega arith)
soh_verdict (first ∷ rest) more some is = rw is refl

pub stx_verdict : (bytes more : List ℕ) → 0 < length bytes → slice_index bytes 0 ≡ 0x02 → verdict_of (bytes ++ more) ≡ block_verdict 1024 (bytes ++ more)
unfolding verdict_of
stx_verdict [] more some is = absurd (omega arith)
stx_verdict (first ∷ rest) more some is = rw is refl

-- nothing, and one CAN, may go on
pub empty_open : (bytes more : List ℕ) → length bytes ≡ 0 → length more < 1 → IsOpen (verdict_of (bytes ++ more))
unfolding verdict_of
empty_open bytes more none few = rw (nil_from_length bytes none, nil_from_length more (omega arith)) refl

pub can_open : (bytes more : List ℕ) → length bytes ≡ 1 → slice_index bytes 0 ≡ 0x18 → length more < 1 → IsOpen (verdict_of (bytes ++ more))
unfolding verdict_of
can_open (first ∷ []) [] one is few = rw is refl
can_open bytes more one is few = absurd (omega arith)
