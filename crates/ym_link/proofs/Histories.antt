-- The waits of reads, read by read and delivery by delivery.
use Rattle.std.proofs.Common.{◌≡◌, ◌<◌, ◌≤◌, ◌+◌, ℕ, zero, suc, List, [], ◌∷◌, ◌++◌, length, replicate, refl, sym, ap, ◌∙◌, arith, append_assoc}
use Rattle.std.proofs.lemmas.List.{append-nil, length-append}
use Rattle.std.proofs.lemmas.List.Elements.{All-nil, All-cons, All-append}
use Rattle.ym_link.proofs.Names.{Asks, Wait, Within, DELIVERY_LIMIT}
use Rattle.ym_link.specs.History.{waits_of, waits_in, AreReads, ReadOnce}
use Rattle.ym_link.specs.declared.port.Wait.TheVariants.{Reply}

-- the wait of the next read of a delivery
abbrev pub next_wait : ℕ → Wait
next_wait zero = Reply
next_wait (suc reads) = Within

-- so far the reads of one delivery were given these waits, behind those before
pub record Scan (len : ℕ) (wait : Wait) (old new : List Wait) : Type 0 where
  pub reads : ℕ
  pub short : reads ≤ len
  pub none : reads ≡ 0 → len ≡ 0
  pub next : wait ≡ next_wait reads
  pub waits : new ≡ old ++ waits_of reads

one-more : (n : ℕ) → replicate n Within ++ Within ∷ [] ≡ Within ∷ replicate n Within
one-more zero = refl
one-more (suc n) = ap (λ ws. Within ∷ ws) (one-more n)

waits-next : (n : ℕ) → waits_of n ++ next_wait n ∷ [] ≡ waits_of (suc n)
waits-next zero = refl
waits-next (suc n) = ap (λ ws. Reply ∷ ws) (one-more n)

waits-read : (n : ℕ) (old mid new : List Wait) (wait : Wait) → wait ≡ next_wait n → mid ≡ old ++ waits_of n → new ≡ mid ++ wait ∷ [] → new ≡ old ++ waits_of (suc n)
waits-read n old mid new wait next before now = rw (now, before, next, append_assoc, waits-next n)

pub scan-none : (old : List Wait) → Scan 0 Reply old old
scan-none old = record { reads = 0; short = omega arith; none = λ h. refl; next = refl; waits = sym (append-nil old) }

-- one more read, of some bytes
pub scan-more : (len n : ℕ) (wait : Wait) (old mid new : List Wait) → Scan len wait old mid → 0 < n → new ≡ mid ++ wait ∷ [] → Scan (len + n) Within old new
scan-more len n wait old mid new so_far some now = let short = so_far.short in record {
  reads = suc so_far.reads;
  short = omega (arith, short, some);
  none = λ h. absurd (omega (arith, h));
  next = refl;
  waits = waits-read so_far.reads old mid new wait so_far.next so_far.waits now;
}

-- the read with which a delivery ends, or finds that there is none
pub scan-last : {A B : List Wait → Type 0} (len : ℕ) (wait : Wait) (new : List Wait) → ((mid : List Wait) → B mid → (old : List Wait) × A old × Scan len wait old mid)
    → (mid : List Wait) × B mid × (new ≡ mid ++ wait ∷ []) → len < DELIVERY_LIMIT → (old : List Wait) × A old × ReadOnce old new
scan-last len wait new asked got less =
    let before = asked got.0 got.1 in
    let r = before.2 in
    let short = r.short in
    (before.0, before.1, record { reads = suc r.reads; are = (omega arith, omega (arith, short, less)); waits = waits-read r.reads before.0 got.0 new wait r.next r.waits got.2 })

-- a delivery of 2048 bytes
pub scan-full : (len : ℕ) (wait : Wait) (old new : List Wait) → Scan len wait old new → DELIVERY_LIMIT ≤ len → len ≤ DELIVERY_LIMIT → ReadOnce old new
scan-full len wait old new so_far full within = let short = so_far.short in let none = so_far.none in
    record { reads = so_far.reads; are = (grind (arith, none, full), omega (arith, short, within)); waits = so_far.waits }

-- ---- Deliveries

waits-append : (reads : List ℕ) (n : ℕ) → waits_in (reads ++ n ∷ []) ≡ waits_in reads ++ waits_of n
waits-append [] n = append-nil (waits_of n)
waits-append (k ∷ reads) n = ap (λ (ws : List Wait). waits_of k ++ ws) (waits-append reads n) ∙ sym (append_assoc (waits_of k) (waits_in reads) (waits_of n))

pub asks-none : (old : List Wait) → Asks 0 old old
asks-none old = record { reads = []; few = All-nil AreReads; count = refl; waits = sym (append-nil old) }

pub asks-more : (n : ℕ) (old mid new : List Wait) → Asks n old mid → ReadOnce mid new → Asks (n + 1) old new
asks-more n old mid new before once = record {
  reads = before.reads ++ once.reads ∷ [];
  few = All-append AreReads before.reads (once.reads ∷ []) before.few (All-cons AreReads once.reads [] once.are (All-nil AreReads));
  count = let long = length-append before.reads (once.reads ∷ []) in let count = before.count in omega (arith, long, count);
  waits = cc (append_assoc old (waits_in before.reads) (waits_of once.reads), waits-append before.reads once.reads);
}

-- one more delivery, of any kind
pub asks-behind : {A : Type 0} (ds : List A) (d : A) (old mid new : List Wait) → Asks (length ds) old mid → ReadOnce mid new → Asks (length (ds ++ d ∷ [])) old new
asks-behind ds d old mid new before once = rw (length-append ds (d ∷ [])) (asks-more (length ds) old mid new before once)
