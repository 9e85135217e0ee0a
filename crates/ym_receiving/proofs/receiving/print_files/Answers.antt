-- One more line.
use Rattle.std.proofs.Common.{◌≡◌, ◌<◌, ◌∙◌, length, get_or, rules, ap}
use Rattle.std.proofs.KnownBytes.{Appends-trans}
use Rattle.std.proofs.lemmas.List.{take_more}
use Rattle.ym_answer.specs.Lines.{file_lines}
use Rattle.ym_receiving.proofs.LineLemmas.{one_more}
use Rattle.ym_receiving.proofs.receiving.print_files.Goals as goal

pub loop-header-preserved : goal.loop-header-preserved
loop-header-preserved g c =
    let within : c.loop-header.header-index < length c.args.headers.now = search rules in
    let lines = ap file_lines (take_more c.args.headers.now c.loop-header.header-index c.header-item.result within) ∙ one_more _ _ in
    let item : c.header-item.result ≡ get_or c.args.headers.now c.loop-header.header-index c.header-item.result = search rules in
    let put = c.in_ok-put_line.ensures in
    (rw lines (Appends-trans _ _ _ _ _ c.loop-header.invariant.0 (rw (← item) put.bytes)), put.ok ∙ c.loop-header.invariant.1)
