-- Two ways, read one beside the other.
use Rattle.std.proofs.Common.{◌≡◌, ◌∙◌, ◌++◌, ◌∷◌, [], ℕ, Bool, true, false, List, if◌then◌else◌, Option, Some, None, refl, sym, subst, ap, append_assoc}
use Rattle.std.proofs.lemmas.List.{append-nil}
use Rattle.std.specs.Io.KnownBytes.{Consumes, IsAtEnd}
use Rattle.ym_explain.specs.declared.verdict.Verdict.{Verdict}
use Rattle.ym_explain.specs.declared.verdict.Ways.TheVariants as ways
use Rattle.ym_told.specs.RunText.{same_way}
use Rattle.ym_told.specs.declared.prefix.Settle.{Settle}
use Rattle.ym_told.specs.declared.way.Direction.{Direction}
use Rattle.ym_told.specs.declared.way.Direction.TheVariants.{There, Back}
use Rattle.ym_inspect.specs.CaptureTold.{Ends, Tells, nothing, came, tagged}
use Rattle.ym_inspect.specs.Inspecting.{Parts, nothing_buffered, with_piece, IsTold}
use Rattle.ym_inspect.specs.PairTold.{WayOn, PairOn, ExplainsPair, of_way}
use Rattle.ym_inspect.proofs.TellLemmas.{tells_on, one_told, tagged-append}

-- ---- What is left of a file

pub consumes_none : (left : Option (List ℕ)) → Consumes left left []
consumes_none None = tt
consumes_none (Some xs) = refl

pub consumes_more : (a b c : Option (List ℕ)) (p q : List ℕ) → Consumes a b p → Consumes b c q → Consumes a c (p ++ q)
consumes_more None b c p q h k = tt
consumes_more (Some xs) None c p q h k = absurd h
consumes_more (Some xs) (Some ys) None p q h k = absurd k
consumes_more (Some xs) (Some ys) (Some zs) p q h k = h ∙ ap (λ (l : List ℕ). p ++ l) k ∙ sym (append_assoc p q zs)

all_consumed : (text : List ℕ) (left : Option (List ℕ)) (bytes : List ℕ) → Consumes (Some text) left bytes → IsAtEnd left → bytes ≡ text
all_consumed text None bytes h end = absurd h
all_consumed text (Some xs) bytes h end = sym (h ∙ ap (λ (l : List ℕ). bytes ++ l) end ∙ append-nil bytes)

-- ---- The bytes of one way

one_more : (is : Bool) (x : ℕ) (xs ys zs : List ℕ) → zs ≡ xs ++ ys → (if is then x ∷ zs else zs) ≡ (if is then x ∷ xs else xs) ++ ys
one_more true x xs ys zs e = ap (λ (l : List ℕ). x ∷ l) e
one_more false x xs ys zs e = e

of_both : (way : Direction) (xs ys : List (Direction × ℕ)) → of_way way (xs ++ ys) ≡ of_way way xs ++ of_way way ys
of_both way [] ys = refl
of_both way (x ∷ xs) ys = one_more (same_way x.0 way) x.1 (of_way way xs) (of_way way ys) (of_way way (xs ++ ys)) (of_both way xs ys)

of_there : (xs : List ℕ) → of_way There (tagged There xs) ≡ xs
of_there [] = refl
of_there (x ∷ xs) = ap (λ (l : List ℕ). x ∷ l) (of_there xs)

of_back : (xs : List ℕ) → of_way Back (tagged Back xs) ≡ xs
of_back [] = refl
of_back (x ∷ xs) = ap (λ (l : List ℕ). x ∷ l) (of_back xs)

none_of_there : (xs : List ℕ) → of_way There (tagged Back xs) ≡ []
none_of_there [] = refl
none_of_there (x ∷ xs) = none_of_there xs

none_of_back : (xs : List ℕ) → of_way Back (tagged There xs) ≡ []
none_of_back [] = refl
none_of_back (x ∷ xs) = none_of_back xs

-- ---- One way

pub way_none : (way : Direction) (left : Option (List ℕ)) (now : Parts) (out : Option (List ℕ)) → WayOn way left now out left now out
way_none way left now out = record { piece = []; reads = consumes_none left; tells = nothing now out }

-- a piece was read, and is held
pub way_filled :
    (way : Direction) (left : Option (List ℕ)) (old : Parts) (out new_left : Option (List ℕ)) (new : Parts) (piece : List ℕ) → Consumes left new_left piece
    → new ≡ with_piece old way piece → WayOn way left old out new_left new out
way_filled way left old out new_left new piece reads is = record {
  piece = piece;
  reads = reads;
  tells = subst (λ (p : Parts). Tells old out (tagged way piece) p out) (sym is) (came old out [] old out way piece (nothing old out));
}

pub way_on :
    (way : Direction) (left : Option (List ℕ)) (old : Parts) (before mid_left : Option (List ℕ)) (mid : Parts) (between new_left : Option (List ℕ)) (new : Parts)
    (after : Option (List ℕ)) → WayOn way left old before mid_left mid between → WayOn way mid_left mid between new_left new after
    → WayOn way left old before new_left new after
way_on way left old before mid_left mid between new_left new after p q = record {
  piece = p.piece ++ q.piece;
  reads = consumes_more left mid_left new_left p.piece q.piece p.reads q.reads;
  tells = subst (λ (zs : List (Direction × ℕ)). Tells old before zs new after) (sym (tagged-append way p.piece q.piece))
      (tells_on old before (tagged way p.piece) mid between (tagged way q.piece) new after p.tells q.tells);
}

-- a front more was told
pub way_told :
    (way : Direction) (left : Option (List ℕ)) (old : Parts) (before mid_left : Option (List ℕ)) (mid : Parts) (between : Option (List ℕ)) (settle : Settle) (new : Parts)
    (after : Option (List ℕ)) → WayOn way left old before mid_left mid between → IsTold mid way settle true new between after → WayOn way left old before mid_left new after
way_told way left old before mid_left mid between settle new after p t = record {
  piece = p.piece;
  reads = p.reads;
  tells = one_told old before (tagged way p.piece) mid between way settle new after p.tells t;
}

-- nothing was told
pub way_untold :
    (way : Direction) (left : Option (List ℕ)) (old : Parts) (before mid_left : Option (List ℕ)) (mid : Parts) (between : Option (List ℕ)) (settle : Settle) (new : Parts)
    (after : Option (List ℕ)) → WayOn way left old before mid_left mid between → IsTold mid way settle false new between after → WayOn way left old before mid_left new after
way_untold way left old before mid_left mid between settle new after p t =
    subst (λ (u : Parts). WayOn way left old before mid_left u after) (sym t.1)
    (subst (λ (o : Option (List ℕ)). WayOn way left old before mid_left mid o) (sym t.2) p)

-- ---- Both

pub pair_none : (there back : Option (List ℕ)) (now : Parts) (out : Option (List ℕ)) → PairOn there back now out there back now out
pair_none there back now out = record { read = []; from_there = consumes_none there; from_back = consumes_none back; tells = nothing now out }

pub there_on :
    (way : Direction) (there back : Option (List ℕ)) (old : Parts) (before new_there : Option (List ℕ)) (new : Parts) (after : Option (List ℕ)) → way ≡ There
    → WayOn way there old before new_there new after → PairOn there back old before new_there back new after
there_on way there back old before new_there new after is on =
    let known : WayOn There there old before new_there new after = subst (λ (w : Direction). WayOn w there old before new_there new after) is on in
    record {
      read = tagged There known.piece;
      from_there = subst (λ (l : List ℕ). Consumes there new_there l) (sym (of_there known.piece)) known.reads;
      from_back = subst (λ (l : List ℕ). Consumes back back l) (sym (none_of_back known.piece)) (consumes_none back);
      tells = known.tells;
    }

pub back_on :
    (way : Direction) (there back : Option (List ℕ)) (old : Parts) (before new_back : Option (List ℕ)) (new : Parts) (after : Option (List ℕ)) → way ≡ Back
    → WayOn way back old before new_back new after → PairOn there back old before there new_back new after
back_on way there back old before new_back new after is on =
    let known : WayOn Back back old before new_back new after = subst (λ (w : Direction). WayOn w back old before new_back new after) is on in
    record {
      read = tagged Back known.piece;
      from_there = subst (λ (l : List ℕ). Consumes there there l) (sym (none_of_there known.piece)) (consumes_none there);
      from_back = subst (λ (l : List ℕ). Consumes back new_back l) (sym (of_back known.piece)) known.reads;
      tells = known.tells;
    }

pub pair_on :
    (there back : Option (List ℕ)) (old : Parts) (before mid_there mid_back : Option (List ℕ)) (mid : Parts) (between new_there new_back : Option (List ℕ)) (new : Parts)
    (after : Option (List ℕ)) → PairOn there back old before mid_there mid_back mid between → PairOn mid_there mid_back mid between new_there new_back new after
    → PairOn there back old before new_there new_back new after
pair_on there back old before mid_there mid_back mid between new_there new_back new after p q = record {
  read = p.read ++ q.read;
  from_there = subst (λ (l : List ℕ). Consumes there new_there l) (sym (of_both There p.read q.read))
      (consumes_more there mid_there new_there (of_way There p.read) (of_way There q.read) p.from_there q.from_there);
  from_back = subst (λ (l : List ℕ). Consumes back new_back l) (sym (of_both Back p.read q.read))
      (consumes_more back mid_back new_back (of_way Back p.read) (of_way Back q.read) p.from_back q.from_back);
  tells = tells_on old before p.read mid between q.read new after p.tells q.tells;
}

-- nothing is left of either, and the end was told
pub pair_whole :
    (sent answered : List ℕ) (there back new_there new_back : Option (List ℕ)) (now : Parts) (before : Option (List ℕ)) (at_end : Parts) (out : Option (List ℕ))
    (verdict : Verdict) (after : Option (List ℕ)) → there ≡ Some sent → back ≡ Some answered → now ≡ nothing_buffered
    → PairOn there back now before new_there new_back at_end out → IsAtEnd new_there → IsAtEnd new_back → Ends at_end out ways.Both verdict after
    → ExplainsPair sent answered before verdict after
pair_whole sent answered there back new_there new_back now before at_end out verdict after t b n on there_end back_end ends = record {
  read = on.read;
  there_is = all_consumed sent new_there (of_way There on.read) (subst (λ (o : Option (List ℕ)). Consumes o new_there (of_way There on.read)) t on.from_there) there_end;
  back_is = all_consumed answered new_back (of_way Back on.read) (subst (λ (o : Option (List ℕ)). Consumes o new_back (of_way Back on.read)) b on.from_back) back_end;
  explains = record {
    at_end = at_end;
    between = out;
    tells = subst (λ (p : Parts). Tells p before on.read at_end out) n on.tells;
    ends = ends;
  };
}

-- ---- The same, where the way is known to be this

pub told_by :
    (own way : Direction) (left : Option (List ℕ)) (old : Parts) (before mid_left : Option (List ℕ)) (mid : Parts) (between : Option (List ℕ)) (settle : Settle) (new : Parts)
    (after : Option (List ℕ)) → own ≡ way → WayOn way left old before mid_left mid between → IsTold mid own settle true new between after
    → WayOn way left old before mid_left new after
told_by own way left old before mid_left mid between settle new after is p t =
    way_told way left old before mid_left mid between settle new after p (subst (λ (w : Direction). IsTold mid w settle true new between after) is t)

pub untold_by :
    (own way : Direction) (left : Option (List ℕ)) (old : Parts) (before mid_left : Option (List ℕ)) (mid : Parts) (between : Option (List ℕ)) (settle : Settle) (new : Parts)
    (after : Option (List ℕ)) → own ≡ way → WayOn way left old before mid_left mid between → IsTold mid own settle false new between after
    → WayOn way left old before mid_left new after
untold_by own way left old before mid_left mid between settle new after is p t =
    way_untold way left old before mid_left mid between settle new after p (subst (λ (w : Direction). IsTold mid w settle false new between after) is t)

pub filled_by :
    (own way : Direction) (left : Option (List ℕ)) (old : Parts) (before mid_left : Option (List ℕ)) (mid : Parts) (between new_left : Option (List ℕ)) (new : Parts)
    → own ≡ way → WayOn way left old before mid_left mid between → ((out : Option (List ℕ)) → WayOn own mid_left mid out new_left new out)
    → WayOn way left old before new_left new between
filled_by own way left old before mid_left mid between new_left new is p q =
    way_on way left old before mid_left mid between new_left new between p (subst (λ (w : Direction). WayOn w mid_left mid between new_left new between) is (q between))
