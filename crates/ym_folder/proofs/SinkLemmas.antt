-- What a call of a sink keeps in its folder, and what it adds there.
use Rattle.std.proofs.Common.{◌≡◌, ◌⊎◌, ℕ, List, [], ◌∷◌, true, false, None, Some, IfSome, sym, ◌∙◌, subst, inl, inr, ap, take}
use Rattle.ym_header.specs.Header.{HeaderParts}
use Rattle.ym_folder.specs.DirSink.{DirSinkParts, stands, put, IsOwn, IsSafe, IsSafeNow, Keeps, Adds}
use Rattle.ym_folder.specs.Folder.{under, has_links, OthersStay}
use Rattle.ym_folder.specs.OneName.{may_be_one, SomeMayBe, NoneMayBe}
use Rattle.ym_folder.specs.Part.{IsPartName, EndsInPart}
use Rattle.ym_folder.specs.SinkCalls.{AreCalls, last_of, IsAsPromised}
use Rattle.ym_folder.specs.Storing.{Stores}
use Rattle.ym_folder.specs.declared.dir_sink.Leftover.{Leftover}
use Rattle.ym_folder.specs.declared.dir_sink.Leftover.TheVariants.{Discarded}
use Rattle.ym_folder.proofs.FolderLemmas.{some_none, other_keeps}

pub ends_in_part : (name part : List ℕ) → IsPartName name part → EndsInPart part
ends_in_part name part is = (take is.0 name, is.4)

-- where leftovers are discarded, what is safe is no part
not_a_part : (leftover : Leftover) (name : List ℕ) → leftover ≡ Discarded → IsSafe leftover name → ¬ EndsInPart name
not_a_part leftover name is safe = subst (λ (l : Leftover). IsSafe l name) is safe

-- none of the files that were stored may be one that may
none_some : (files : List HeaderParts) (name part : List ℕ) → name ≡ part → NoneMayBe files part → SomeMayBe files name → ⊥
none_some files name part is none (k, x, inside, at, may) =
    let named : may_be_one x.name part ≡ false = subst (λ (h : HeaderParts). may_be_one h.name part ≡ false) at (none k x inside) in
    let cannot : may_be_one x.name name ≡ false = subst (λ (p : List ℕ). may_be_one x.name p ≡ false) (sym is) named in
    let clash : true ≡ false = sym may ∙ cannot in cc

-- a part that may be removed is not safe
not_safe : (s : DirSinkParts) (name part : List ℕ) → name ≡ part → EndsInPart part → s.leftover ≡ Discarded → NoneMayBe s.headers part → IsSafeNow s name → ⊥
not_safe s name part is ends discarded none safe = elim safe [
  | inl safe ↦ not_a_part s.leftover name discarded safe (subst EndsInPart (sym is) ends)
  | inr some ↦ none_some s.headers name part is none some
]

some_same : (a b : List ℕ) → Some a ≡ Some b → a ≡ b
some_same a b is = cc

-- ---- What is kept

-- nothing was done in the folder
pub keeps_here : (old new : DirSinkParts) → new.leftover ≡ old.leftover → new.folder ≡ old.folder → ((name : List ℕ) → IsOwn new name → IsOwn old name) → Keeps old new
keeps_here old new leftover folder owns = record {
  leftover = leftover;
  kept = λ name bytes other safe there. (ap (λ f. under f name) folder ∙ there, λ own. other (owns name own));
}

-- all but the part that is open is kept
pub keeps_others : (old new : DirSinkParts) (part : List ℕ) → new.leftover ≡ old.leftover → IsOwn old part → ((name : List ℕ) → IsOwn new name → IsOwn old name)
    → ((other bytes : List ℕ) → (other ≡ part → ⊥) → stands old other ≡ Some bytes → stands new other ≡ Some bytes) → Keeps old new
keeps_others old new part leftover own owns keeps = record {
  leftover = leftover;
  kept = λ name bytes other safe there. (keeps name bytes (λ is. other (own ∙ ap Some (sym is))) there, λ is. other (owns name is));
}

-- a part was made, or none
pub keeps_free : (old new : DirSinkParts) (part : List ℕ) (stored : List HeaderParts) → stored ≡ old.headers → new.leftover ≡ old.leftover → new.part ≡ old.part → EndsInPart part → OthersStay part old.folder new.folder
    → (stands new part ≡ stands old part) ⊎ (stands old part ≡ None) ⊎ ((old.leftover ≡ Discarded) × NoneMayBe stored part) → Keeps old new
keeps_free old new part stored are leftover same ends others free = record {
  leftover = leftover;
  kept = λ name bytes other safe there. (
    elim (others.stays name) [
      | inl is ↦ elim free [
        | inl stays ↦ ap (stands new) is ∙ (stays ∙ (ap (stands old) (sym is) ∙ there))
        | inr rest ↦ elim rest [
          | inl none ↦ absurd (some_none (stands old name) bytes there (ap (stands old) is ∙ none))
          | inr may ↦ absurd (not_safe old name part is ends may.0 (subst (λ files. NoneMayBe files part) are may.1) safe)
        ]
      ]
      | inr stays ↦ stays ∙ there
    ],
    λ own. other (sym same ∙ own),
  );
}

pub keeps_made : (old new : DirSinkParts) (part : List ℕ) (stored : List HeaderParts) → stored ≡ old.headers → new.leftover ≡ old.leftover → IsOwn new part → EndsInPart part → OthersStay part old.folder new.folder
    → (stands old part ≡ None) ⊎ ((old.leftover ≡ Discarded) × NoneMayBe stored part) → Keeps old new
keeps_made old new part stored are leftover own ends others free = record {
  leftover = leftover;
  kept = λ name bytes other safe there.
      let differs : name ≡ part → ⊥ = λ is. elim free [
        | inl none ↦ some_none (stands old name) bytes there (ap (stands old) is ∙ none)
        | inr may ↦ not_safe old name part is ends may.0 (subst (λ files. NoneMayBe files part) are may.1) safe
      ] in (
        other_keeps part old.folder new.folder others name bytes differs there,
        λ is. differs (some_same name part (sym is ∙ own)),
      );
}

-- ---- What is added

pub adds_none : (old new : DirSinkParts) → new.folder ≡ old.folder → Adds old new
adds_none old new folder = record {
  links = ap has_links folder;
  added = λ name bytes there. inl (ap (λ f. under f name) (sym folder) ∙ there);
}

pub adds_part : (old new : DirSinkParts) (part : List ℕ) → EndsInPart part → OthersStay part old.folder new.folder → Adds old new
adds_part old new part ends others = record {
  links = others.links;
  added = λ name bytes there. elim (others.stays name) [
    | inl is ↦ inr (inl (subst EndsInPart (sym is) ends))
    | inr same ↦ inl (sym same ∙ there)
  ];
}

-- the open file may have its name
pub adds_file : (old new : DirSinkParts) (part : List ℕ) (header : HeaderParts) → EndsInPart part → old.opened ≡ Some header
    → Stores part header.name (put old) old.folder new.folder → Adds old new
adds_file old new part header ends opened stores = record {
  links = stores.links;
  added = λ name bytes there. elim (stores.adds name bytes there) [
    | inl before ↦ inl before
    | inr rest ↦ elim rest [
      | inl is ↦ inr (inl (subst EndsInPart (sym is) ends))
      | inr more ↦ elim more [
        | inl whole ↦ inr (inr (inl (subst (λ o. IfSome o (λ (h : HeaderParts). (name ≡ h.name) × (put old ≡ Some bytes))) (sym opened) whole)))
        | inr empty ↦ inr (inr (inr empty))
      ]
    ]
  ];
}

-- ---- Any calls

kept_by_all : (sink : DirSinkParts) (calls : List DirSinkParts) → AreCalls sink calls → (name bytes : List ℕ) → ¬ IsOwn sink name → IsSafe sink.leftover name
    → stands sink name ≡ Some bytes → stands (last_of sink calls) name ≡ Some bytes
kept_by_all sink [] are name bytes other safe there = there
kept_by_all sink (next ∷ more) are name bytes other safe there =
    let kept = are.0.kept name bytes other (inl safe) there in
    kept_by_all next more are.2 name bytes kept.1 (subst (λ (l : Leftover). IsSafe l name) (sym are.0.leftover) safe) kept.0

pub nothing_overwritten : (sink : DirSinkParts) (calls : List DirSinkParts) → AreCalls sink calls → sink.part ≡ None → (name bytes : List ℕ) → IsSafe sink.leftover name
    → stands sink name ≡ Some bytes → stands (last_of sink calls) name ≡ Some bytes
nothing_overwritten sink calls are none name bytes safe there =
    kept_by_all sink calls are name bytes (λ own. some_none sink.part name own none) safe there

-- one more moment before
earlier : (sink next : DirSinkParts) (more : List DirSinkParts) (name bytes : List ℕ) → Adds sink next → IsAsPromised next more name bytes → IsAsPromised sink (next ∷ more) name bytes
earlier sink next more name bytes adds promised = elim promised [
  | inl there ↦ elim (adds.added name bytes there) [
    | inl before ↦ inl before
    | inr rest ↦ elim rest [
      | inl ends ↦ inr (inl ends)
      | inr other ↦ elim other [ inl whole ↦ inr (inr (inl (inl whole))) | inr empty ↦ inr (inr (inr empty)) ]
    ]
  ]
  | inr rest ↦ elim rest [
    | inl ends ↦ inr (inl ends)
    | inr other ↦ elim other [
      | inl whole ↦ inr (inr (inl (inr whole)))
      | inr empty ↦ inr (inr (inr (sym adds.links ∙ empty.0, empty.1)))
    ]
  ]
]

pub appear_whole : (sink : DirSinkParts) (calls : List DirSinkParts) → AreCalls sink calls → (name bytes : List ℕ) → stands (last_of sink calls) name ≡ Some bytes
    → IsAsPromised sink calls name bytes
appear_whole sink [] are name bytes there = inl there
appear_whole sink (next ∷ more) are name bytes there =
    earlier sink next more name bytes are.1 (appear_whole next more are.2 name bytes there)
