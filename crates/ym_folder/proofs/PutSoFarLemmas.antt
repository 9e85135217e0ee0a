-- Bytes that are put behind one another, where it is known what was taken.
use Rattle.std.proofs.Common.{◌≡◌, ℕ, ◌+◌, ◌≤◌, List, ◌++◌, Option, None, Some, Result, Ok, Err, OnErr, length, take, drop, min, refl, sym, ap, ◌∙◌, arith, append_assoc, take_at, take-add, drop_at}
use Rattle.std.proofs.lemmas.List.{take_min, take-append-le}
use Rattle.std.specs.Io.KnownBytes.{append_known}
use Rattle.ym_folder.specs.WriteBehind.{GrowsByPrefix}

-- two pieces, one behind the other
pub append_known-twice : (a : Option (List ℕ)) (x y : List ℕ) → append_known (append_known a x) y ≡ append_known a (x ++ y)
append_known-twice None x y = refl
append_known-twice (Some xs) x y = ap Some (append_assoc xs x y)

-- a front of the first piece
pub GrowsByPrefix-longer : (a b : Option (List ℕ)) (all more : List ℕ) → GrowsByPrefix a b all → GrowsByPrefix a b (all ++ more)
GrowsByPrefix-longer a b all more (n, grown) =
    let short = min n (length all) in
    let fits : short ≤ length all = omega arith in
    (short, grown ∙ ap (append_known a) (sym (take_min n all) ∙ sym (take-append-le short all more fits)))

-- the first piece alone
pub GrowsByPrefix-prefix : (a b : Option (List ℕ)) (prefix rest : List ℕ) → b ≡ append_known a prefix → GrowsByPrefix a b (prefix ++ rest)
GrowsByPrefix-prefix a b prefix rest grown = (length prefix, grown ∙ ap (append_known a) (sym (take_at prefix rest (length prefix) refl)))

-- the first piece, and a front of the second
pub GrowsByPrefix-behind : (a b c : Option (List ℕ)) (prefix rest : List ℕ) → b ≡ append_known a prefix → GrowsByPrefix b c rest → GrowsByPrefix a c (prefix ++ rest)
GrowsByPrefix-behind a b c prefix rest first (n, second) =
    let joined : take (length prefix + n) (prefix ++ rest) ≡ prefix ++ take n rest =
    take-add (length prefix) n (prefix ++ rest)
    ∙ ap (λ l. l ++ take n (drop (length prefix) (prefix ++ rest))) (take_at prefix rest (length prefix) refl)
    ∙ ap (λ l. prefix ++ take n l) (drop_at prefix rest (length prefix) refl) in
    (length prefix + n, second ∙ ap (λ k. append_known k (take n rest)) first ∙ append_known-twice a prefix (take n rest) ∙ ap (append_known a) (sym joined))

-- what holds anyway holds where a call failed
pub OnErr-of : {T E : Type 0} (r : Result T E) (P : Type 0) → P → OnErr r P
OnErr-of (Ok x) P p = tt
OnErr-of (Err e) P p = p
