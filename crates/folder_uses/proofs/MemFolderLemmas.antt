-- A folder in memory after a name was taken away, or a file was put there.
use Rattle.std.proofs.Common.{◌≡◌, ◌⊎◌, ℕ, List, [], ◌∷◌, ◌++◌, Bool, true, false, not, cond, Option, None, Some, sym, ◌∙◌, inl, inr, ap, refl}
use Rattle.std.proofs.lemmas.Bool.{cases_Bool}
use Rattle.std.proofs.lemmas.Slice.Eq.{bytes_eq-Decides}
use Rattle.std.specs.Str.{bytes_eq}
use Rattle.std.specs.Io.KnownBytes.{append_known}
use Rattle.ym_folder.specs.Folder.{Entry, entry, bytes_in, under, empty_in, has_links, OthersStay, Made, Grown, Linked, Renamed, Removed}
use Rattle.folder_uses.specs.MemFolder.{parts, without, with_file, Adds, Copies}

-- two names are one, or their test says that they are not
same_or_not : (a b : List ℕ) → (a ≡ b) ⊎ (bytes_eq a b ≡ false)
same_or_not a b = elim (cases_Bool (bytes_eq a b)) [
  | inl is ↦ inl ((bytes_eq-Decides a b).0 is)
  | inr not ↦ inr not
]

test_true : (a b : List ℕ) → a ≡ b → bytes_eq a b ≡ true
test_true a b is = (bytes_eq-Decides a b).1 is

test_false : (a b : List ℕ) → (a ≡ b → ⊥) → bytes_eq a b ≡ false
test_false a b differ = elim (same_or_not a b) [ inl is ↦ absurd (differ is) | inr not ↦ not ]

same_or_differ : (a b : List ℕ) → (a ≡ b) ⊎ (a ≡ b → ⊥)
same_or_differ a b = elim (same_or_not a b) [
  | inl is ↦ inl is
  | inr not ↦ inr (λ is. let k : true ≡ false = sym (test_true a b is) ∙ not in cc)
]

-- ---- A name that was taken away

without_step : (b : Bool) (file : Entry) (name : List ℕ) (rest : List Entry) → bytes_eq file.name name ≡ b → bytes_in rest name ≡ None
    → bytes_in (cond (not b) (file ∷ rest) rest) name ≡ None
without_step true file name rest is none = none
without_step false file name rest is none = ap (λ b. cond b (Some file.bytes) (bytes_in rest name)) is ∙ none

without_same : (name : List ℕ) (entries : List Entry) → bytes_in (without name entries) name ≡ None
without_same name [] = refl
without_same name (file ∷ entries) =
    without_step (bytes_eq file.name name) file name (without name entries) refl (without_same name entries)

others_step : (b : Bool) (file : Entry) (name other : List ℕ) (rest entries : List Entry) → bytes_eq file.name name ≡ b → (other ≡ name → ⊥)
    → bytes_in rest other ≡ bytes_in entries other → bytes_in (cond (not b) (file ∷ rest) rest) other ≡ bytes_in (file ∷ entries) other
others_step true file name other rest entries is differ same =
    same ∙ sym (ap (λ b. cond b (Some file.bytes) (bytes_in entries other))
    (test_false file.name other (λ alike. differ (sym alike ∙ (bytes_eq-Decides file.name name).0 is))))
others_step false file name other rest entries is differ same =
    ap (λ o. cond (bytes_eq file.name other) (Some file.bytes) o) same

without_other : (name : List ℕ) (entries : List Entry) (other : List ℕ) → (other ≡ name → ⊥) → bytes_in (without name entries) other ≡ bytes_in entries other
without_other name [] other differ = refl
without_other name (file ∷ entries) other differ =
    others_step (bytes_eq file.name name) file name other (without name entries) entries refl differ (without_other name entries other differ)

-- ---- A file behind the others

pushed_step : (b : Bool) (file : Entry) (name bytes : List ℕ) (entries all : List Entry) → bytes_eq file.name name ≡ b
    → (bytes_in entries name ≡ None → bytes_in all name ≡ Some bytes) → cond b (Some file.bytes) (bytes_in entries name) ≡ None
    → bytes_in (file ∷ all) name ≡ Some bytes
pushed_step true file name bytes entries all is there none = cc
pushed_step false file name bytes entries all is there none =
    ap (λ b. cond b (Some file.bytes) (bytes_in all name)) is ∙ there none

pushed_same : (name bytes : List ℕ) (entries : List Entry) → bytes_in entries name ≡ None
    → bytes_in (entries ++ entry name bytes ∷ []) name ≡ Some bytes
pushed_same name bytes [] none = ap (λ b. cond b (Some bytes) None) (test_true name name refl)
pushed_same name bytes (file ∷ entries) none =
    pushed_step (bytes_eq file.name name) file name bytes entries (entries ++ entry name bytes ∷ []) refl
    (pushed_same name bytes entries) none

pushed_other : (name bytes : List ℕ) (entries : List Entry) (other : List ℕ) → (other ≡ name → ⊥)
    → bytes_in (entries ++ entry name bytes ∷ []) other ≡ bytes_in entries other
pushed_other name bytes [] other differ = ap (λ b. cond b (Some bytes) None) (test_false name other (λ is. differ (sym is)))
pushed_other name bytes (file ∷ entries) other differ =
    ap (λ o. cond (bytes_eq file.name other) (Some file.bytes) o) (pushed_other name bytes entries other differ)

-- ---- A file that is put in place of another one

put_same : (name bytes : List ℕ) (entries : List Entry)
    → bytes_in (without name entries ++ entry name bytes ∷ []) name ≡ Some bytes
put_same name bytes entries = pushed_same name bytes (without name entries) (without_same name entries)

put_other : (name bytes : List ℕ) (entries : List Entry) (other : List ℕ) → (other ≡ name → ⊥)
    → bytes_in (without name entries ++ entry name bytes ∷ []) other ≡ bytes_in entries other
put_other name bytes entries other differ =
    pushed_other name bytes (without name entries) other differ ∙ without_other name entries other differ

-- ---- What the calls of a folder come to

at : (a b : List Entry) (name : List ℕ) → b ≡ a → bytes_in b name ≡ bytes_in a name
at a b name same = ap (λ l. bytes_in l name) same

others_from : (name bytes : List ℕ) (a b : List Entry) (l k r s : Bool) → b ≡ with_file name bytes a → k ≡ l → OthersStay name (parts a l r) (parts b k s)
unfolding under has_links
others_from name bytes a b l k r s is links = record {
  stays = λ other. elim (same_or_differ other name) [ inl alike ↦ inl alike | inr differ ↦ inr (at _ b other is ∙ put_other name bytes a other differ) ];
  links = links;
}

pub made_from : (name : List ℕ) (a b : List Entry) (l k r s : Bool) → b ≡ with_file name [] a → k ≡ l → bytes_in a name ≡ None → Made name (parts a l r) (parts b k s)
unfolding under empty_in
made_from name a b l k r s is links free =
    record { was_free = free; is_empty = at _ b name is ∙ put_same name [] a; others = others_from name [] a b l k r s is links }

pub grown_from : (name more : List ℕ) (a b : List Entry) (l k r s : Bool) → Adds name more a b → k ≡ l → Grown name more (parts a l r) (parts b k s)
unfolding under
grown_from name more a b l k r s adds links = record {
  grows = at _ b name adds.2 ∙ (put_same name (adds.0 ++ more) a ∙ sym (ap (λ o. append_known o more) adds.1));
  others = others_from name (adds.0 ++ more) a b l k r s adds.2 links;
}

pub linked_from : (from to : List ℕ) (a b : List Entry) (l k r s : Bool) → Copies from to a b → k ≡ l → bytes_in a to ≡ None → Linked from to (parts a l r) (parts b k s)
unfolding under
linked_from from to a b l k r s copies links free = record {
  was_free = free;
  same = at _ b to copies.2 ∙ (put_same to copies.0 a ∙ sym copies.1);
  others = others_from to copies.0 a b l k r s copies.2 links;
}

pub removed_from : (name : List ℕ) (a b : List Entry) (l k r s : Bool) → b ≡ without name a → k ≡ l → Removed name (parts a l r) (parts b k s)
unfolding under has_links
removed_from name a b l k r s is links = record {
  gone = at _ b name is ∙ without_same name a;
  others = record {
    stays = λ other. elim (same_or_differ other name) [ inl alike ↦ inl alike | inr differ ↦ inr (at _ b other is ∙ without_other name a other differ) ];
    links = links;
  };
}

pub renamed_from : (from to : List ℕ) (a b c : List Entry) (l k r s : Bool) → Copies from to a b → c ≡ without from b → (from ≡ to → ⊥) → k ≡ l → Renamed from to (parts a l r) (parts c k s)
unfolding under has_links
renamed_from from to a b c l k r s copies is differ links = record {
  same = at _ c to is ∙ (without_other from b to (λ alike. differ (sym alike)) ∙ (at _ b to copies.2 ∙ (put_same to copies.0 a ∙ sym copies.1)));
  gone = inr (at _ c from is ∙ without_same from b);
  others = λ other. elim (same_or_differ other from) [
    | inl alike ↦ inl alike
    | inr apart ↦ elim (same_or_differ other to) [
      | inl alike ↦ inr (inl alike)
      | inr away ↦ inr (inr (at _ c other is ∙ (without_other from b other apart ∙ (at _ b other copies.2 ∙ put_other to copies.0 a other away))))
    ]
  ];
  links = links;
}

pub renamed_alike : (from to : List ℕ) (a b : List Entry) (l k r s : Bool) → Copies from to a b → from ≡ to → k ≡ l → Renamed from to (parts a l r) (parts b k s)
unfolding under has_links
renamed_alike from to a b l k r s copies alike links = record {
  same = at _ b to copies.2 ∙ (put_same to copies.0 a ∙ sym copies.1);
  gone = inl alike;
  others = λ other. elim (same_or_differ other to) [ inl is ↦ inr (inl is) | inr away ↦ inr (inr (at _ b other copies.2 ∙ put_other to copies.0 a other away)) ];
  links = links;
}
