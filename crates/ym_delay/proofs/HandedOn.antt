-- Writes that are handed on to reads, in order: a lost one may stand in front, or be left out.
use Rattle.std.proofs.Common.{◌⊎◌, inl, inr, List, [], ◌∷◌, subst}
use Rattle.ym_delay.specs.TimedLine.{HandsOn}

-- none of these reads brought it
abbrev pub Unread : {W R : Type 0} → (W → R → Type 0) → W → List R → Type 0
Unread Brings one [] = Unit {0}
Unread Brings one (r ∷ reads) = (Brings one r → ⊥) × Unread Brings one reads

-- one of them did
abbrev pub IsRead : {W R : Type 0} → (W → R → Type 0) → W → List R → Type 0
IsRead Brings one [] = ⊥
IsRead Brings one (r ∷ reads) = Brings one r ⊎ IsRead Brings one reads

module _ {W R : Type 0} (Brings : W → R → Type 0) (InVain : R → Type 0) where
  pub lost-first : (w : W) (writes : List W) (reads : List R) → HandsOn Brings InVain writes reads → HandsOn Brings InVain (w ∷ writes) reads
  lost-first w writes [] hands = tt
  lost-first w writes (r ∷ reads) (inl (vain, later)) = inl (vain, lost-first w writes reads later)
  lost-first w writes (r ∷ reads) (inr (one, behind, takes, brings, later)) = inr (one, behind, inr takes, brings, later)

  pub unread-first : (w : W) (writes : List W) (reads : List R) → Unread Brings w reads → HandsOn Brings InVain (w ∷ writes) reads → HandsOn Brings InVain writes reads
  unread-first w writes [] none hands = tt
  unread-first w writes (r ∷ reads) none (inl (vain, later)) = inl (vain, unread-first w writes reads none.1 later)
  unread-first w writes (r ∷ reads) none (inr (one, behind, inl (same, rest), brings, later)) = absurd (none.0 (subst (λ x. Brings x r) same brings))
  unread-first w writes (r ∷ reads) none (inr (one, behind, inr takes, brings, later)) = inr (one, behind, takes, brings, later)

  -- the first write is read, or may be left out
  pub first-read : (w : W) (writes : List W) (reads : List R) → HandsOn Brings InVain (w ∷ writes) reads → HandsOn Brings InVain writes reads ⊎ IsRead Brings w reads
  first-read w writes [] hands = inl tt
  first-read w writes (r ∷ reads) (inl (vain, later)) = elim (first-read w writes reads later) [ inl hands ↦ inl (inl (vain, hands)) | inr read ↦ inr (inr read) ]
  first-read w writes (r ∷ reads) (inr (one, behind, inl (same, rest), brings, later)) = inr (inl (subst (λ x. Brings x r) same brings))
  first-read w writes (r ∷ reads) (inr (one, behind, inr takes, brings, later)) = inl (inr (one, behind, takes, brings, later))
