use Rattle.std.proofs.Common.{◌≡◌, [], Some, None, arith, rules}
use Rattle.std.proofs.lemmas.Grind.{common_steps}
use Rattle.ym_inspect.specs.RecordRead.{way_in}
use Rattle.ym_inspect.proofs.RecordLemmas.{line_told, no_byte_told, no_way_told, on_ok_one}
use Rattle.ym_inspect.proofs.record.Recording.tell_line.Goals as goal

pub returns-in_default-clause-tells : goal.returns-in_default-clause-tells
returns-in_default-clause-tells g c =
    let e : way_in c.args.self.now.state ≡ None = search rules in no_way_told _ _ _ _ e

pub returns-then-is_empty-clause-tells : goal.returns-then-is_empty-clause-tells
returns-then-is_empty-clause-tells g c =
    let e : c.args.self.now.buffered.items ≡ [] = grind (arith, common_steps) in no_byte_told _ _ _ _ e

pub returns-clause-tells : goal.returns-clause-tells
returns-clause-tells g c =
    let e : way_in c.args.self.now.state ≡ Some c.in-Some.way = search rules in
    on_ok_one c.take.result _ _ c.take.ensures.tells
    (λ t. line_told _ c.in-Some.way _ _ _ _ _ e (rw c.as_slice.ensures.value at t))
