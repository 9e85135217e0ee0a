-- Bytes that stand in a file.
use Rattle.std.proofs.Common.{◌≡◌, ℕ, ◌+◌, ◌-◌, ◌≤◌, List, Option, None, Some, length, take, drop, sym, ap, ◌∙◌, arith, length-take-le, length-drop, take-take, drop-drop}
use Rattle.std.proofs.lemmas.List.{drop-take}
use Rattle.ym_host.specs.ReadAhead.{StandsIn}

-- what is copied of bytes that stand in a file stands in it too
pub StandsIn-copied : (held : List ℕ) (start at count : ℕ) (copied : List ℕ) (file : Option (List ℕ)) → StandsIn held start file → start ≤ at
    → (at - start) + count ≤ length held → copied ≡ take count (drop (at - start) held) → StandsIn copied at file
StandsIn-copied held start at count copied None stands le fits e = tt
StandsIn-copied held start at count copied (Some all) stands le fits e =
    let skipped = at - start in
    let rest = length held - skipped in
    let all_held : length held ≡ skipped + rest = omega arith in
    let position : start + skipped ≡ at = omega arith in
    let behind : drop skipped held ≡ take rest (drop at all) =
    ap (drop skipped) (stands ∙ ap (λ n. take n (drop start all)) all_held) ∙ drop-take skipped rest (drop start all)
    ∙ ap (take rest) (drop-drop skipped start all ∙ ap (λ n. drop n all) position) in
    let enough : count ≤ rest = omega arith in
    let long : count ≤ length (drop skipped held) = omega (arith, length-drop skipped held) in
    let counted : length copied ≡ count = ap length e ∙ length-take-le count (drop skipped held) long in
    e ∙ ap (take count) behind ∙ take-take count rest (drop at all) enough ∙ ap (λ n. take n (drop at all)) (sym counted)
