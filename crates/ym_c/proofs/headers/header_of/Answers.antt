use Rattle.std.proofs.Common.{arith, rules, ◌<◌, length}
use Rattle.std.proofs.lemmas.Str.{IsUtf8-from_is_utf8}
use Rattle.ym_c.proofs.headers.header_of.Goals as goal

pub returns-in-Err-clause-refused : goal.returns-in-Err-clause-refused
returns-in-Err-clause-refused c =
    let some : 0 < length c.args.name.now = search rules in
    (some, omega arith, λ s. c.in-Err.ensures.cases.0 (IsUtf8-from_is_utf8 c.args.name.now s.utf8))
