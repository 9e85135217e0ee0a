-- A delivery has 2048 bytes at most, and takes that many reads at most.
use Rattle.std.proofs.Common.{◌≡◌, ◌<◌, ◌≤◌, ◌-◌, ℕ, Bool, nat_lt, nat_le, List, [], ◌∷◌, ◌++◌, length, take, Result, Ok, arith}
use Rattle.std.proofs.lemmas.Bool.{cond_both, leb-false, ltb-true, ltb-false}
use Rattle.std.proofs.lemmas.List.{length-append, length-take-le}
use Rattle.ym_link.proofs.Names.{Taken, taken, Event, EndFault, DELIVERY_LIMIT}
use Rattle.ym_link.specs.Delivery.{reads_in}
use Rattle.ym_link.specs.declared.event.Event.TheVariants as event

abbrev IsShort : Result (List ℕ) EndFault → Type 0
IsShort delivery = (bytes : List ℕ) → delivery ≡ Ok bytes → length bytes ≤ DELIVERY_LIMIT

all : (had : List ℕ) → length had ≤ DELIVERY_LIMIT → IsShort (Ok had)
all had short bytes h = let same : had ≡ bytes = cc in rw (← same) short

module _ (ends : List ℕ → Bool) where
  short-from : (had : List ℕ) (es : List Event) → length had ≤ DELIVERY_LIMIT → IsShort (taken ends had es).delivery
  unfolding taken
  short-from had [] short = λ bytes h. cc
  short-from had (event.Closed ∷ rest) short = λ bytes h. cc
  short-from had (event.Fault ∷ rest) short = λ bytes h. cc
  short-from had (event.Piece (b ∷ bs) ∷ rest) short =
      let whole : List ℕ = had ++ b ∷ bs in
      let size = length-append had (b ∷ bs) in
      let room : ℕ = DELIVERY_LIMIT - length had in
      cond_both (nat_lt room (length (b ∷ bs))) _ _ (λ (t : Taken). IsShort t.delivery)
      (λ e. let prefix = length-take-le room (b ∷ bs) (omega (arith, ltb-true room (length (b ∷ bs)) e)) in
      all (had ++ take room (b ∷ bs)) (omega (arith, length-append had (take room (b ∷ bs)), prefix, short)))
      (λ e. let within : length whole ≤ DELIVERY_LIMIT = omega (arith, size, ltb-false room (length (b ∷ bs)) e, short) in
      cond_both (ends whole) _ _ (λ (t : Taken). IsShort t.delivery) (λ e. all whole within)
      (λ e. cond_both (nat_le DELIVERY_LIMIT (length whole)) _ _ (λ (t : Taken). IsShort t.delivery) (λ e. all whole within) (λ e. short-from whole rest within)))
  short-from had _ short = all had short

  reads-from : (had : List ℕ) (es : List Event) → length had < DELIVERY_LIMIT → reads_in ends had es ≤ DELIVERY_LIMIT - length had
  unfolding reads_in
  reads-from had (event.Piece (b ∷ bs) ∷ rest) less =
      let whole : List ℕ = had ++ b ∷ bs in
      let size = length-append had (b ∷ bs) in
      let room : ℕ = DELIVERY_LIMIT - length had in
      let one : 1 ≤ room = omega (arith, less) in
      cond_both (nat_lt room (length (b ∷ bs))) _ _ (λ n. n ≤ room) (λ e. one)
      (λ e. cond_both (ends whole) _ _ (λ n. n ≤ room) (λ e. one)
      (λ e. cond_both (nat_le DELIVERY_LIMIT (length whole)) _ _ (λ n. n ≤ room) (λ e. one)
      (λ e. let few = leb-false DELIVERY_LIMIT (length whole) e in let later = reads-from whole rest few in omega (arith, later, size))))
  reads-from had _ less = omega (arith, less)

  pub short : (es : List Event) (bytes : List ℕ) → (taken ends [] es).delivery ≡ Ok bytes → length bytes ≤ DELIVERY_LIMIT
  short es = short-from [] es (omega arith)

  pub few-reads : (es : List Event) → reads_in ends [] es ≤ DELIVERY_LIMIT
  few-reads es = reads-from [] es (omega arith)
