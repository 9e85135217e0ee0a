-- One more file, or the first that is not sent.
use Rattle.std.proofs.Common.{◌≡◌, ◌<◌, ◌++◌, [], ◌∷◌, length, rules, sym, arith}
use Rattle.std.proofs.lemmas.Grind.{common_steps}
use Rattle.std.proofs.lemmas.List.{length-map, get_or-map}
use Rattle.ym_sending.proofs.BatchLemmas.{looked_at_more, refuses}
use Rattle.ym_sending.proofs.sending.open_batch.Goals as goal

pub returns-in_err-file-clause-refused : goal.returns-in_err-file-clause-refused
returns-in_err-file-clause-refused g c =
    let within : c.loop-path.path-index < length c.args.paths.now = search rules in
    let counted = length-map c.args.paths.now (λ path. path.now) in
    let refused = refuses _ _ _ _ _ c.loop-path.invariant (omega (arith, within, counted)) (sym (get_or-map (λ path. path.now) c.args.paths.now c.loop-path.path-index _ [] within)) c.in_err-file.ensures.refused in
    search rules

pub loop-path-preserved : goal.loop-path-preserved
loop-path-preserved g c =
    let within : c.loop-path.path-index < length c.args.paths.now = search rules in
    let counted = length-map c.args.paths.now (λ path. path.now) in
    let more = looked_at_more _ _ _ _ c.in_ok-file.file c.loop-path.invariant (omega (arith, within, counted)) (sym (get_or-map (λ path. path.now) c.args.paths.now c.loop-path.path-index _ [] within))
    c.in_ok-file.ensures.named c.in_ok-file.ensures.stamp c.in_ok-file.ensures.within in
    let pushed : c.push.new.self.items ≡ c.loop-path.batch.items ++ c.in_ok-file.file ∷ [] = grind (arith, common_steps) in
    rw pushed more
