-- What a record says, character by character, and what is told of it.
use Rattle.std.proofs.Common.{◌≡◌, ◌∙◌, ◌+◌, ◌<◌, ◌≤◌, ◌==◌, ◌++◌, ◌∷◌, [], ℕ, List, length, drop, get_or, Bool, true, false, if◌then◌else◌, Option, Some, None, Result, Ok, Err, refl, sym, subst, ap, append_assoc}
use Rattle.std.specs.Prelude.{option_to_list, IfOk, IfErr, OnOk}
use Rattle.std.proofs.Math.Numerals.{add-one}
use Rattle.std.proofs.Math.Seq.{drop-cons}
use Rattle.std.proofs.lemmas.Bool.{ne_eqb}
use Rattle.std.proofs.lemmas.List.{append-nil, drop_all}
use Rattle.std.specs.Io.KnownBytes.{Consumes, IsAtEnd}
use Rattle.ym_told.specs.declared.way.Direction.{Direction}
use Rattle.ym_inspect.specs.CaptureFaults.{IsOfTelling}
use Rattle.ym_inspect.specs.CaptureTold.{Tells, tagged, nothing}
use Rattle.ym_inspect.specs.Inspecting.{Parts, nothing_buffered}
use Rattle.ym_inspect.specs.Recorded.{after_char, capped}
use Rattle.ym_inspect.specs.RecordRead.{SoMuch, SoFar, GoesOn, SaysLine, EndsCut, IsCut, IsFirstLine, way_in, in_line, so_much, no_line, behind_line, further, behind_char, and_char, and_chars, at_record_end}
use Rattle.ym_inspect.specs.declared.fault.InspectFault.{InspectFault}
use Rattle.ym_inspect.specs.declared.fault.InspectFault.TheVariants.{Cut}
use Rattle.ym_inspect.specs.declared.fault.RecordFault.{RecordFault}
use Rattle.ym_inspect.specs.declared.in_line.InLine.{InLine}
use Rattle.ym_inspect.specs.declared.in_line.InLine.TheVariants as line
use Rattle.ym_inspect.specs.declared.in_line.Stepped.{Stepped}
use Rattle.ym_inspect.proofs.TellLemmas.{consumed, tells_on}

-- a fault stays
pub fault_stays : (fault : InspectFault) (xs : List ℕ) → and_chars (Err fault) xs ≡ Err fault
fault_stays fault [] = refl
fault_stays fault (x ∷ xs) = fault_stays fault xs

pub chars_append :
    (at : Result SoMuch InspectFault) (xs ys : List ℕ) → and_chars at (xs ++ ys) ≡ and_chars (and_chars at xs) ys
chars_append at [] ys = refl
chars_append at (x ∷ xs) ys = chars_append (and_char at x) xs ys

no_end : (c : ℕ) → (c ≡ 10 → ⊥) → (c == 10) ≡ false
no_end c h = ne_eqb c 10 h

is_end : (c : ℕ) → c ≡ 10 → (c == 10) ≡ true
is_end c e = ap (λ (n : ℕ). n == 10) e

in_nothing : (way : Option Direction) → in_line way [] ≡ []
in_nothing None = refl
in_nothing (Some way) = refl

-- ---- What a line says

-- all of it was told
pub line_told :
    (state : InLine) (way : Direction) (buffered : List ℕ) (at : Parts) (out : Option (List ℕ)) (new : Parts) (after : Option (List ℕ)) → way_in state ≡ Some way
    → Tells at out (tagged way buffered) new after → Tells at out (in_line (way_in state) buffered) new after
line_told state way buffered at out new after e t = subst (λ (w : Option Direction). Tells at out (in_line w buffered) new after) (sym e) t

-- it says nothing: it has no way
pub no_way_told : (state : InLine) (buffered : List ℕ) (at : Parts) (out : Option (List ℕ)) → way_in state ≡ None → Tells at out (in_line (way_in state) buffered) at out
no_way_told state buffered at out e = subst (λ (w : Option Direction). Tells at out (in_line w buffered) at out) (sym e) (nothing at out)

-- or no byte
pub no_byte_told : (state : InLine) (buffered : List ℕ) (at : Parts) (out : Option (List ℕ)) → buffered ≡ [] → Tells at out (in_line (way_in state) buffered) at out
no_byte_told state buffered at out e =
    subst (λ (bs : List ℕ). Tells at out (in_line (way_in state) bs) at out) (sym e)
    (subst (λ (zs : List (Direction × ℕ)). Tells at out zs at out) (sym (in_nothing (way_in state))) (nothing at out))

-- ---- One character

-- one that does or does not end its line
by_end :
    (state : InLine) (number : ℕ) (buffered : List ℕ) (read : List (Direction × ℕ)) (c : ℕ) (new : Stepped) (ends : Bool) → after_char state c ≡ Ok new → (c == 10) ≡ ends
    → and_char (Ok (so_much state number buffered read)) c
    ≡ Ok (if ends then behind_line (so_much state number buffered read) new.state else further (so_much state number buffered read) new)
by_end state number buffered read c new ends e f =
    ap (λ (r : Result Stepped RecordFault). behind_char (so_much state number buffered read) c r) e
    ∙ ap (λ (b : Bool). Ok (if b then behind_line (so_much state number buffered read) new.state else further (so_much state number buffered read) new)) f

-- so it goes on in a line
pub goes_on_in_line :
    (before : Option (List ℕ)) (at : Parts) (state : InLine) (number : ℕ) (buffered : List ℕ) (out : Option (List ℕ)) (read : List (Direction × ℕ)) (c : ℕ) (new : Stepped)
    (new_at : Parts) (new_state : InLine) (new_number : ℕ) (new_held : List ℕ) → after_char state c ≡ Ok new → (c ≡ 10 → ⊥)
    → new_at ≡ at → new_state ≡ new.state → new_number ≡ number → new_held ≡ buffered ++ option_to_list new.byte
    → SoFar before at out read → GoesOn before (and_char (Ok (so_much state number buffered read)) c) new_at new_state new_number new_held out
goes_on_in_line before at state number buffered out read c new new_at new_state new_number new_held e goes a s n h so = record {
  read = read;
  much_is = by_end state number buffered read c new false e (no_end c goes)
      ∙ ap (λ (bs : List ℕ). Ok (so_much new.state number bs read)) (sym h)
      ∙ ap (λ (m : ℕ). Ok (so_much new.state m new_held read)) (sym n)
      ∙ ap (λ (l : InLine). Ok (so_much l new_number new_held read)) (sym s);
  so_far = subst (λ (q : Parts). SoFar before q out read) (sym a) so;
}

-- and so behind a line, of which all was told
pub goes_on_behind_line :
    (before : Option (List ℕ)) (at : Parts) (state : InLine) (number : ℕ) (buffered : List ℕ) (out : Option (List ℕ)) (read : List (Direction × ℕ)) (c : ℕ) (new : Stepped)
    (new_at : Parts) (new_state : InLine) (new_number : ℕ) (new_held : List ℕ) (after : Option (List ℕ)) → after_char state c ≡ Ok new → c ≡ 10
    → Tells at out (in_line (way_in state) buffered) new_at after → new_state ≡ new.state → new_number ≡ capped (number + 1) → new_held ≡ []
    → SoFar before at out read → GoesOn before (and_char (Ok (so_much state number buffered read)) c) new_at new_state new_number new_held after
goes_on_behind_line before at state number buffered out read c new new_at new_state new_number new_held after e ends t s n h so =
    let all = read ++ in_line (way_in state) buffered in
    record {
      read = all;
      much_is = by_end state number buffered read c new true e (is_end c ends)
          ∙ ap (λ (bs : List ℕ). Ok (so_much new.state (capped (number + 1)) bs all)) (sym h)
          ∙ ap (λ (m : ℕ). Ok (so_much new.state m new_held all)) (sym n)
          ∙ ap (λ (l : InLine). Ok (so_much l new_number new_held all)) (sym s);
      so_far = tells_on nothing_buffered before read at out (in_line (way_in state) buffered) new_at after so t;
    }

-- what is of telling is no fault of a line
pub no_line_told : {A : Type 0} (told : Result A InspectFault) (fault : InspectFault) (at : Result SoMuch InspectFault) → IsOfTelling told → told ≡ Err fault → SaysLine fault at
no_line_told told fault at h is = λ number why e. absurd (h.1 number why (is ∙ ap (λ (f : InspectFault). Err f) e))

-- ---- Many characters

at_front : (xs : List ℕ) (i : ℕ) → i < length xs → drop i xs ≡ get_or xs i 0 ∷ drop (i + 1) xs
at_front xs i within = rw add-one (drop-cons xs i 0 within)

-- what was read of them, where this is left
pub record Walked (before : Option (List ℕ)) (much : Result SoMuch InspectFault) (rest : List ℕ) (at : Parts) (state : InLine) (number : ℕ) (buffered : List ℕ) (out : Option (List ℕ))
    : Type 0 where
  pub read : List (Direction × ℕ)
  pub much_is : much ≡ and_chars (Ok (so_much state number buffered read)) rest
  pub so_far : SoFar before at out read

pub walked_on :
    (before : Option (List ℕ)) (much : Result SoMuch InspectFault) (xs : List ℕ) (i : ℕ) (at : Parts) (state : InLine) (number : ℕ) (buffered : List ℕ) (out : Option (List ℕ))
    (new : Parts) (new_state : InLine) (new_number : ℕ) (new_held : List ℕ) (after : Option (List ℕ)) → i < length xs
    → (walked : Walked before much (drop i xs) at state number buffered out)
    → GoesOn before (and_char (Ok (so_much state number buffered walked.read)) (get_or xs i 0)) new new_state new_number new_held after
    → Walked before much (drop (i + 1) xs) new new_state new_number new_held after
walked_on before much xs i at state number buffered out new new_state new_number new_held after within walked goes = record {
  read = goes.read;
  much_is = walked.much_is ∙ ap (λ (zs : List ℕ). and_chars (Ok (so_much state number buffered walked.read)) zs) (at_front xs i within)
      ∙ ap (λ (m : Result SoMuch InspectFault). and_chars m (drop (i + 1) xs)) goes.much_is;
  so_far = goes.so_far;
}

pub walked_wrong :
    (before : Option (List ℕ)) (much : Result SoMuch InspectFault) (xs : List ℕ) (i : ℕ) (at : Parts) (state : InLine) (number : ℕ) (buffered : List ℕ) (out : Option (List ℕ))
    (fault : InspectFault) → i < length xs → (walked : Walked before much (drop i xs) at state number buffered out)
    → SaysLine fault (and_char (Ok (so_much state number buffered walked.read)) (get_or xs i 0)) → SaysLine fault much
walked_wrong before much xs i at state number buffered out fault within walked says = λ n why e.
    walked.much_is ∙ ap (λ (zs : List ℕ). and_chars (Ok (so_much state number buffered walked.read)) zs) (at_front xs i within)
    ∙ ap (λ (m : Result SoMuch InspectFault). and_chars m (drop (i + 1) xs)) (says n why e) ∙ fault_stays fault (drop (i + 1) xs)

-- all of them were
pub walked_end :
    (before : Option (List ℕ)) (much : Result SoMuch InspectFault) (xs : List ℕ) (i : ℕ) (at : Parts) (state : InLine) (number : ℕ) (buffered : List ℕ) (out : Option (List ℕ))
    → length xs ≤ i → Walked before much (drop i xs) at state number buffered out → GoesOn before much at state number buffered out
walked_end before much xs i at state number buffered out above walked = record {
  read = walked.read;
  much_is = walked.much_is ∙ ap (λ (zs : List ℕ). and_chars (Ok (so_much state number buffered walked.read)) zs) (drop_all i xs above);
  so_far = walked.so_far;
}

-- ---- A whole record, in pieces

-- what was read of a text, and what is left of it
pub record ReadSome (text : List ℕ) (start : SoMuch) (before remaining : Option (List ℕ)) (at : Parts) (state : InLine) (number : ℕ) (buffered : List ℕ) (out : Option (List ℕ)) : Type 0 where
  pub taken : List ℕ
  pub rest : List ℕ
  pub split : text ≡ taken ++ rest
  pub left : remaining ≡ Some rest
  pub goes : GoesOn before (and_chars (Ok start) taken) at state number buffered out

pub read_none :
    (text : List ℕ) (before remaining : Option (List ℕ)) (at : Parts) (state : InLine) (number : ℕ) (buffered : List ℕ) (out : Option (List ℕ)) (read : List (Direction × ℕ))
    → remaining ≡ Some text → SoFar before at out read → ReadSome text (so_much state number buffered read) before remaining at state number buffered out
read_none text before remaining at state number buffered out read e so = record {
  taken = [];
  rest = text;
  split = refl;
  left = e;
  goes = record { read = read; much_is = refl; so_far = so };
}

pub read_more :
    (text : List ℕ) (start : SoMuch) (before remaining : Option (List ℕ)) (at : Parts) (state : InLine) (number : ℕ) (buffered : List ℕ) (out left : Option (List ℕ)) (more : List ℕ)
    (new : Parts) (new_state : InLine) (new_number : ℕ) (new_held : List ℕ) (after : Option (List ℕ))
    → (some : ReadSome text start before remaining at state number buffered out) → Consumes remaining left more
    → GoesOn before (and_chars (Ok (so_much state number buffered some.goes.read)) more) new new_state new_number new_held after
    → ReadSome text start before left new new_state new_number new_held after
read_more text start before remaining at state number buffered out left more new new_state new_number new_held after some con goes =
    let known : Consumes (Some some.rest) left more = subst (λ (r : Option (List ℕ)). Consumes r left more) some.left con in
    let rests : (ys : List ℕ) × (left ≡ Some ys) × (some.rest ≡ more ++ ys) = consumed left some.rest more known in
    record {
      taken = some.taken ++ more;
      rest = rests.0;
      split = some.split ∙ ap (λ (ys : List ℕ). some.taken ++ ys) rests.2 ∙ sym (append_assoc some.taken more rests.0);
      left = rests.1;
      goes = record {
        read = goes.read;
        much_is = chars_append (Ok start) some.taken more ∙ ap (λ (m : Result SoMuch InspectFault). and_chars m more) some.goes.much_is ∙ goes.much_is;
        so_far = goes.so_far;
      };
    }

pub read_wrong :
    (text : List ℕ) (start : SoMuch) (before remaining : Option (List ℕ)) (at : Parts) (state : InLine) (number : ℕ) (buffered : List ℕ) (out left : Option (List ℕ)) (more : List ℕ)
    (fault : InspectFault) → (some : ReadSome text start before remaining at state number buffered out) → Consumes remaining left more
    → SaysLine fault (and_chars (Ok (so_much state number buffered some.goes.read)) more) → SaysLine fault (and_chars (Ok start) text)
read_wrong text start before remaining at state number buffered out left more fault some con says = λ n why e.
    let known : Consumes (Some some.rest) left more = subst (λ (r : Option (List ℕ)). Consumes r left more) some.left con in
    let rests : (ys : List ℕ) × (left ≡ Some ys) × (some.rest ≡ more ++ ys) = consumed left some.rest more known in
    ap (λ (zs : List ℕ). and_chars (Ok start) zs) (some.split ∙ ap (λ (ys : List ℕ). some.taken ++ ys) rests.2)
    ∙ chars_append (Ok start) some.taken (more ++ rests.0)
    ∙ ap (λ (m : Result SoMuch InspectFault). and_chars m (more ++ rests.0)) some.goes.much_is
    ∙ chars_append (Ok (so_much state number buffered some.goes.read)) more rests.0
    ∙ ap (λ (m : Result SoMuch InspectFault). and_chars m rests.0) (says n why e) ∙ fault_stays fault rests.0

pub read_whole :
    (text : List ℕ) (start : SoMuch) (before remaining : Option (List ℕ)) (at : Parts) (state : InLine) (number : ℕ) (buffered : List ℕ) (out left : Option (List ℕ))
    → ReadSome text start before remaining at state number buffered out → Consumes remaining left [] → IsAtEnd left
    → GoesOn before (and_chars (Ok start) text) at state number buffered out
read_whole text start before remaining at state number buffered out left some con at_end =
    let known : Consumes (Some some.rest) left [] = subst (λ (r : Option (List ℕ)). Consumes r left []) some.left con in
    let rests : (ys : List ℕ) × (left ≡ Some ys) × (some.rest ≡ [] ++ ys) = consumed left some.rest [] known in
    let none : IsAtEnd (Some rests.0) = subst (λ (r : Option (List ℕ)). IsAtEnd r) rests.1 at_end in
    let whole : text ≡ some.taken = some.split ∙ ap (λ (ys : List ℕ). some.taken ++ ys) (rests.2 ∙ none) ∙ append-nil some.taken in
    subst (λ (zs : List ℕ). GoesOn before (and_chars (Ok start) zs) at state number buffered out) (sym whole) some.goes

-- ---- What a call gave

pub if_err : {A : Type 0} (r : Result A InspectFault) (fault : InspectFault) (P : InspectFault → Type 0) → r ≡ Err fault → P fault → IfErr r P
if_err {A} r fault P e p = subst (λ (s : Result A InspectFault). IfErr s P) (sym e) p

pub also_err : {A : Type 0} (r : Result A InspectFault) (P Q : InspectFault → Type 0) → IfErr r P → ((fault : InspectFault) → P fault → Q fault) → IfErr r Q
also_err (Ok a) P Q p f = tt
also_err (Err fault) P Q p f = f fault p

pub also_ok : {A : Type 0} (r : Result A InspectFault) (P Q : A → Type 0) → IfOk r P → ((a : A) → P a → Q a) → IfOk r Q
also_ok (Ok a) P Q p f = f a p
also_ok (Err fault) P Q p f = tt

pub on_ok_four :
    {A : Type 0} (result : Result A InspectFault) (P Q R S T : Type 0) → OnOk result P → OnOk result Q → OnOk result R → OnOk result S → (P → Q → R → S → T) → OnOk result T
on_ok_four (Ok a) P Q R S T p q r s f = f p q r s
on_ok_four (Err fault) P Q R S T p q r s f = tt

pub on_ok_one : {A : Type 0} (r : Result A InspectFault) (P R : Type 0) → OnOk r P → (P → R) → OnOk r R
on_ok_one (Ok a) P R p f = f p
on_ok_one (Err fault) P R p f = tt

-- ---- The beginning and the end

pub none_so_far : (before : Option (List ℕ)) (at : Parts) → at ≡ nothing_buffered → SoFar before at before []
none_so_far before at a = subst (λ (q : Parts). SoFar before q before []) (sym a) (nothing nothing_buffered before)

pub begins :
    (state : InLine) (number : ℕ) (buffered text : List ℕ) → state ≡ line.Start → number ≡ 1 → buffered ≡ []
    → and_chars (Ok no_line) text ≡ and_chars (Ok (so_much state number buffered [])) text
begins state number buffered text s n h =
    sym (ap (λ (l : InLine). and_chars (Ok (so_much l number buffered [])) text) s
    ∙ ap (λ (m : ℕ). and_chars (Ok (so_much line.Start m buffered [])) text) n
    ∙ ap (λ (bs : List ℕ). and_chars (Ok (so_much line.Start 1 bs [])) text) h)

pub first_wrong :
    (state : InLine) (number : ℕ) (buffered : List ℕ) (fault : InspectFault) (text : List ℕ) → state ≡ line.Start → number ≡ 1 → buffered ≡ []
    → SaysLine fault (and_chars (Ok (so_much state number buffered [])) text) → IsFirstLine fault text
first_wrong state number buffered fault text s n h says = λ m why e. ap at_record_end (begins state number buffered text s n h ∙ says m why e)

-- where it is no fault that a line has no end
pub never_cut : (fault : InspectFault) (much : Result SoMuch InspectFault) (before after : Option (List ℕ)) → ((number : ℕ) → fault ≡ Cut number → ⊥) → EndsCut fault much before after
never_cut fault much before after never = λ number e. absurd (never number e)

-- where it is one of the record that was read so
pub cut_of :
    (fault : InspectFault) (text : List ℕ) (much : Result SoMuch InspectFault) (before after : Option (List ℕ)) → and_chars (Ok no_line) text ≡ much
    → EndsCut fault much before after → IsCut fault text before after
cut_of fault text much before after e cut = subst (λ (m : Result SoMuch InspectFault). EndsCut fault m before after) (sym e) cut

-- ---- A text of which the first characters were read before

pub in_two :
    (start : Result SoMuch InspectFault) (prefix rest text : List ℕ) (mid last : Result SoMuch InspectFault) → text ≡ prefix ++ rest → and_chars start prefix ≡ mid
    → and_chars mid rest ≡ last → and_chars start text ≡ last
in_two start prefix rest text mid last split first behind =
    ap (λ (xs : List ℕ). and_chars start xs) split ∙ chars_append start prefix rest ∙ ap (λ (m : Result SoMuch InspectFault). and_chars m rest) first ∙ behind

pub wrong_in_front :
    (start : Result SoMuch InspectFault) (prefix rest text : List ℕ) (fault : InspectFault) → text ≡ prefix ++ rest → SaysLine fault (and_chars start prefix)
    → SaysLine fault (and_chars start text)
wrong_in_front start prefix rest text fault split says = λ n why e.
    in_two start prefix rest text (Err fault) (Err fault) split (says n why e) (fault_stays fault rest)

pub wrong_behind :
    (start : Result SoMuch InspectFault) (prefix rest text : List ℕ) (mid : Result SoMuch InspectFault) (fault : InspectFault) → text ≡ prefix ++ rest
    → and_chars start prefix ≡ mid → SaysLine fault (and_chars mid rest) → SaysLine fault (and_chars start text)
wrong_behind start prefix rest text mid fault split first says = λ n why e.
    in_two start prefix rest text mid (Err fault) split first (says n why e)
