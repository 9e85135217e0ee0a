use Rattle.std.proofs.Common.{◌≡◌, ◌*◌, ◌/◌, ◌++◌, ◌∙◌, ap, append_assoc, length}
use Rattle.std.proofs.lemmas.List.{take-append-drop}
use Rattle.ym_check.specs.Check.{check_of}
use Rattle.ym_check.proofs.check.CheckState.add_rest.Goals as goal

pub returns : goal.returns
returns c bytes is =
    let rest = c.args.rest.now in
    let words = c.split_at.result.0.now in
    let last = c.split_at.result.1.now in
    let all : words ++ last ≡ rest = rw (c.split_at.ensures.front, c.split_at.ensures.back) (take-append-drop (length rest / 16 * 16) rest) in
    c.add_each.ensures (bytes ++ words) (c.with_words-self-inside.ensures bytes (c.self.view_is ∙ is)) ∙
    ap check_of (append_assoc bytes words last ∙ ap (λ t. bytes ++ t) all)
