-- A whole delivery that is read before it is handed on, by one read after another.
use Rattle.std.proofs.Common.{◌≡◌, ◌<◌, ◌≤◌, ◌+◌, ◌-◌, ℕ, Bool, true, false, nat_lt, nat_le, List, [], ◌∷◌, ◌++◌, length, take, drop, Result, Ok, Err, if◌then◌else◌, refl, sym, ◌∙◌, ap, arith}
use Rattle.std.proofs.lemmas.Bool.{cond_both, le-leb, lt-leb}
use Rattle.std.proofs.lemmas.List.{length-append, length-drop, length-take-le, take-append-le}
use Rattle.std.proofs.Math.Seq.{take-append-add}
use borrow.Author.Tests.{ltb-true}
use borrow.Rule.Slice.PartMut.{mid_of, put_mid, post_of}
use Rattle.ym_link.specs.Delivery.{Taken}
unfoldable use Rattle.ym_link.specs.Delivery.{taken}
use Rattle.ym_link.specs.Port.{Tape, Seen, Data, Silence, End, Failed, read_gives, read_leaves}
use Rattle.ym_link.specs.declared.end_fault.EndFault.{EndFault}
use Rattle.ym_link.specs.declared.end_fault.EndFault.TheVariants as fault
use Rattle.ym_link.specs.declared.event.Event.{Event}
use Rattle.ym_link.specs.declared.event.Event.TheVariants as event
use Rattle.ym_link.specs.declared.port.TheConstants.{DELIVERY_LIMIT}

abbrev pub done : List ℕ → List Event → Taken
done had rest = record { delivery = Ok had; rest = rest }

-- a delivery, and the port behind it
pub way-out : (t new : Tape) (whole : Taken) (delivery : Result (List ℕ) EndFault) (rest : List Event) (written : List ℕ)
    → whole ≡ record { delivery = delivery; rest = rest } → written ≡ t.written
    → new ≡ record { coming = rest; written = written }
    → (delivery ≡ whole.delivery) × (new ≡ record { coming = whole.rest; written = t.written })
way-out t new whole delivery rest written is wrote leaves = (rw is refl, rw (is, ← wrote) leaves)

module _ (ends : List ℕ → Bool) where
  -- what a delivery is behind bytes that do not end it but by being many
  abbrev pub onward : List ℕ → List Event → Taken
  onward had rest = if nat_le DELIVERY_LIMIT (length had) then done had rest else taken ends had rest

  -- what it is behind a read
  abbrev pub next : List ℕ → Seen → List Event → Taken
  next had (Data bytes) rest = if ends (had ++ bytes) then done (had ++ bytes) rest else onward (had ++ bytes) rest
  next had Silence rest = done had rest
  next had End rest = record { delivery = Err fault.Closed; rest = rest }
  next had Failed rest = record { delivery = Err fault.Device; rest = rest }

  pub onward-full : (had : List ℕ) (rest : List Event) → DELIVERY_LIMIT ≤ length had → onward had rest ≡ done had rest
  onward-full had rest h = rw (le-leb DELIVERY_LIMIT (length had) h) refl

  -- a piece that fills the buffer, or one that fits
  choose : (fills : Bool) (had piece : List ℕ) (room : ℕ) (left rest : List Event)
      → (fills ≡ true → DELIVERY_LIMIT ≤ length (had ++ take room piece))
      → (if fills then done (had ++ take room piece) left else (if ends (had ++ piece) then done (had ++ piece) rest else onward (had ++ piece) rest))
      ≡ next had (if fills then Data (take room piece) else Data piece) (if fills then left else rest)
  choose true had piece room left rest full =
      let all = had ++ take room piece in
      sym (cond_both (ends all) (done all left) (onward all left) (λ x. x ≡ done all left) (λ e. refl) (λ e. onward-full all left (full refl)))
  choose false had piece room left rest full = refl

  filled : (had piece : List ℕ) → length had < DELIVERY_LIMIT → DELIVERY_LIMIT - length had < length piece
      → DELIVERY_LIMIT ≤ length (had ++ take (DELIVERY_LIMIT - length had) piece)
  filled had piece h more = omega (arith, length-append had (take (DELIVERY_LIMIT - length had) piece), length-take-le (DELIVERY_LIMIT - length had) piece (omega arith))

  taken-step : (had : List ℕ) (es : List Event) → length had < DELIVERY_LIMIT
      → taken ends had es ≡ next had (read_gives (DELIVERY_LIMIT - length had) es) (read_leaves (DELIVERY_LIMIT - length had) es)
  unfolding taken
  taken-step had (event.Piece (b ∷ bs) ∷ rest) h =
      choose (nat_lt (DELIVERY_LIMIT - length had) (length (b ∷ bs))) had (b ∷ bs) (DELIVERY_LIMIT - length had)
      (event.Piece (drop (DELIVERY_LIMIT - length had) (b ∷ bs)) ∷ rest) rest
      (λ e. filled had (b ∷ bs) h (ltb-true (DELIVERY_LIMIT - length had) (length (b ∷ bs)) e))
  taken-step had _ h = refl

  -- a read of at most k bytes into the buffer from len on, behind bytes that do not end a delivery
  module _ (len k : ℕ) (buf : List ℕ) (less : len < DELIVERY_LIMIT) (sized : length buf ≡ DELIVERY_LIMIT)
      (rest_is : k ≡ DELIVERY_LIMIT - len) where
    -- what it brings
    pub after-read : (seen : Seen) (whole : Taken) (coming : List Event) → whole ≡ onward (take len buf) coming
        → seen ≡ read_gives (length (mid_of len k buf)) coming
        → whole ≡ next (take len buf) seen (read_leaves (length (mid_of len k buf)) coming)
    after-read seen whole coming before brings =
        let had : length (take len buf) ≡ len = length-take-le len buf (omega (arith, less, sized)) in
        let few : length (take len buf) < DELIVERY_LIMIT = omega (arith, had, less) in
        let fits : nat_le DELIVERY_LIMIT (length (take len buf)) ≡ false = lt-leb DELIVERY_LIMIT (length (take len buf)) few in
        let mid : length (mid_of len k buf) ≡ k = length-take-le k (drop len buf) (omega (arith, length-drop len buf, sized, rest_is)) in
        let room : length (mid_of len k buf) ≡ DELIVERY_LIMIT - length (take len buf) = omega (arith, mid, had, rest_is) in
        rw (brings, room) (before ∙ (rw fits refl ∙ taken-step (take len buf) coming few))

    -- the delivery that ends with it, and the port behind it
    pub read-out : {A : Tape → Type 0} (seen : Seen) (p new : Tape) (delivery : Result (List ℕ) EndFault)
        → (t : Tape) × A t × (p.written ≡ t.written) × (taken ends [] t.coming ≡ onward (take len buf) p.coming)
        → seen ≡ read_gives (length (mid_of len k buf)) p.coming
        → ((rest : List Event) → next (take len buf) seen rest ≡ record { delivery = delivery; rest = rest })
        → new ≡ record { coming = read_leaves (length (mid_of len k buf)) p.coming; written = p.written }
        → (t : Tape) × A t × (delivery ≡ (taken ends [] t.coming).delivery) × (new ≡ record { coming = (taken ends [] t.coming).rest; written = t.written })
    read-out seen p new delivery so_far brings ends_it leaves =
        let whole = taken ends [] so_far.0.coming in
        let out = way-out so_far.0 new whole delivery _ p.written (after-read seen whole p.coming so_far.3 brings ∙ ends_it _) so_far.2 leaves in
        (so_far.0, so_far.1, out.0, out.1)

-- what stands in the buffer behind a read of n bytes into its part from len on
pub read-into : (len n k : ℕ) (buf new : List ℕ) → len ≤ length buf → n ≤ length new
    → take (len + n) (put_mid len k buf new) ≡ take len buf ++ take n new
read-into len n k buf new within fits =
    let had : length (take len buf) ≡ len = length-take-le len buf within in
    let more = rw had at (take-append-add (take len buf) (new ++ post_of len k buf) n) in
    more ∙ ap (λ ys. take len buf ++ ys) (take-append-le n new (post_of len k buf) fits)
