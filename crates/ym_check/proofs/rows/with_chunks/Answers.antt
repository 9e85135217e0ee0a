use Rattle.std.proofs.Common.{◌≡◌, ◌++◌, ◌∙◌, sym, ap, append_assoc}
use Rattle.std.proofs.lemmas.List.{take-append-drop}
use Rattle.ym_check.specs.Check.{check_of}
use Rattle.ym_check.proofs.rows.with_chunks.Goals as goal

pub returns : goal.returns
returns c = λ before is.
    let first = c.split_at.result.0.now in
    let others = c.split_at.result.1.now in
    let all : first ++ others ≡ c.args.bytes.now = rw (c.split_at.ensures.front, c.split_at.ensures.back) (take-append-drop 64 c.args.bytes.now) in
    c.check.ensures ∙ sym (c.with_all-rows.ensures (before ++ first) (c.of_first.ensures before is)) ∙
    ap check_of (append_assoc before first others ∙ ap (λ t. before ++ t) all)
