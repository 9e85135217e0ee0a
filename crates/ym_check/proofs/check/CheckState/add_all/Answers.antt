use Rattle.std.proofs.Common.{◌≡◌, ◌*◌, ◌/◌, ◌++◌, ◌∙◌, ap, append_assoc, length}
use Rattle.std.proofs.lemmas.List.{take-append-drop}
use Rattle.ym_check.specs.Check.{check_of}
use Rattle.ym_check.proofs.check.CheckState.add_all.Goals as goal

pub returns : goal.returns
returns c bytes is =
    let chunks = c.split_at.result.0.now in
    let rest = c.split_at.result.1.now in
    let all : chunks ++ rest ≡ c.args.more.now = rw (c.split_at.ensures.front, c.split_at.ensures.back) (take-append-drop (length c.args.more.now / 64 * 64) c.args.more.now) in
    c.add_rest.ensures (bytes ++ chunks) (c.with_chunks-self-inside.ensures bytes (c.self.view_is ∙ is)) ∙
    ap check_of (append_assoc bytes chunks rest ∙ ap (λ t. bytes ++ t) all)
