-- What stands in a folder after one call and another.
use Rattle.std.proofs.Common.{◌≡◌, ℕ, List, [], true, false, Option, None, Some, IfSome, sym, ◌∙◌, subst, inl, inr, refl}
use Rattle.ym_folder.specs.Folder.{FolderParts, under, empty_in, has_links, has_refused, AllStay, OthersStay, Made, Renamed, Removed, Linked}
use Rattle.ym_folder.specs.Part.{MayAdd, NameGiven, NameNotGiven}

-- a file that is there is not nothing
pub some_none : {A : Type 0} (o : Option A) (x : A) → o ≡ Some x → o ≡ None → ⊥
some_none o x e f = let k : None ≡ Some x = sym f ∙ e in cc

pub others_of_all : (name : List ℕ) (a b : Option FolderParts) → AllStay a b → OthersStay name a b
others_of_all name a b all = record { stays = λ other. inr (all.stays other); links = all.links }

pub others_here : (name : List ℕ) (a : Option FolderParts) → OthersStay name a a
others_here name a = record { stays = λ other. inr refl; links = refl }

pub all_here : (a : Option FolderParts) → AllStay a a
all_here a = record { stays = λ other. refl; links = refl }

pub others_then : (name : List ℕ) (a b c : Option FolderParts) → OthersStay name a b → OthersStay name b c → OthersStay name a c
others_then name a b c first second = record {
  stays = λ other. elim (first.stays other) [
    | inl is ↦ inl is
    | inr same ↦ elim (second.stays other) [ inl is ↦ inl is | inr next ↦ inr (next ∙ same) ]
  ];
  links = second.links ∙ first.links;
}

-- what was there under another name is there, with its bytes
pub other_keeps : (name : List ℕ) (a b : Option FolderParts) → OthersStay name a b → (other bytes : List ℕ) → (other ≡ name → ⊥) → under a other ≡ Some bytes → under b other ≡ Some bytes
other_keeps name a b others other bytes differs there =
    elim (others.stays other) [ inl is ↦ absurd (differs is) | inr same ↦ same ∙ there ]

-- a part that was made, and may have been removed again
pub may_add : (name : List ℕ) (a b c : Option FolderParts) → Made name a b → OthersStay name b c → MayAdd name a c
may_add name a b c made others =
    record { others = others_then name a b c made.others others; free = inr made.was_free }

pub may_add_none : (name : List ℕ) (a b : Option FolderParts) → AllStay a b → MayAdd name a b
may_add_none name a b all = record { others = others_of_all name a b all; free = inl (all.stays name) }

pub not_given : (name : List ℕ) (a b : Option FolderParts) → AllStay a b → NameNotGiven name a b
not_given name a b all = record { others = others_of_all name a b all; half = inl (all.stays name) }

pub all_then : (a b c : Option FolderParts) → AllStay a b → AllStay b c → AllStay a c
all_then a b c first second =
    record { stays = λ name. second.stays name ∙ first.stays name; links = second.links ∙ first.links }

-- ---- By a link

-- the link was made, and the part was removed
pub given_by_link : (part name : List ℕ) (a b c : Option FolderParts) → Linked part name a b → Removed part b c → NameGiven part name a c
given_by_link part name a b c linked removed = record {
  was_free = linked.was_free;
  gets = elim (removed.others.stays name) [ inl is ↦ inl (sym is) | inr same ↦ inr (same ∙ linked.same) ];
  gone = inr (inl removed.gone);
  links = removed.others.links ∙ linked.others.links;
  others = λ other. elim (linked.others.stays other) [
    | inl is ↦ inr (inl is)
    | inr same ↦ elim (removed.others.stays other) [ inl is ↦ inl is | inr next ↦ inr (inr (next ∙ same)) ]
  ];
}

-- the link was made, and the removal of the part was refused
pub given_and_left : (part name : List ℕ) (a b c : Option FolderParts) → Linked part name a b → AllStay b c → has_refused c ≡ true → NameGiven part name a c
given_and_left part name a b c linked all refused = record {
  was_free = linked.was_free;
  gets = inr (all.stays name ∙ linked.same);
  gone = inr (inr refused);
  links = all.links ∙ linked.others.links;
  others = λ other. elim (linked.others.stays other) [
    | inl is ↦ inr (inl is)
    | inr same ↦ inr (inr (all.stays other ∙ same))
  ];
}

-- ---- By a name that is made first

-- a file of no bytes has none
pub IfSome-empty : (a : Option FolderParts) → IfSome (empty_in a) (λ bytes. bytes ≡ [])
unfolding empty_in
IfSome-empty None = tt
IfSome-empty (Some a) = refl

pub given_by_rename : (part name : List ℕ) (a b c : Option FolderParts) → Made name a b → Renamed part name b c → NameGiven part name a c
given_by_rename part name a b c made renamed = record {
  was_free = made.was_free;
  gets = elim (made.others.stays part) [ inl is ↦ inl is | inr same ↦ inr (renamed.same ∙ same) ];
  gone = elim renamed.gone [ inl is ↦ inl is | inr gone ↦ inr (inl gone) ];
  links = renamed.links ∙ made.others.links;
  others = λ other. elim (renamed.others other) [
    | inl is ↦ inl is
    | inr rest ↦ elim rest [
      | inl is ↦ inr (inl is)
      | inr same ↦ elim (made.others.stays other) [ inl is ↦ inr (inl is) | inr next ↦ inr (inr (same ∙ next)) ]
    ]
  ];
}

-- the name was made, and the rename failed
pub half_given : (name : List ℕ) (a b c : Option FolderParts) → has_links a ≡ false → Made name a b → AllStay b c → NameNotGiven name a c
half_given name a b c none made all = record {
  others = others_then name a b c made.others (others_of_all name b c all);
  half = inr (made.was_free, none, subst (λ o. IfSome o (λ (bytes : List ℕ). bytes ≡ [])) (sym (all.stays name ∙ made.is_empty)) (IfSome-empty b));
}

-- and the name was taken away again
pub taken_again : (name : List ℕ) (a b c d : Option FolderParts) → Made name a b → AllStay b c → Removed name c d → NameNotGiven name a d
taken_again name a b c d made all removed = record {
  others = others_then name a b d made.others (others_then name b c d (others_of_all name b c all) removed.others);
  half = inl (removed.gone ∙ sym made.was_free);
}
