use Rattle.std.proofs.Common.{◌≡◌, drop}
use Rattle.ym_explain.specs.Evidence.{first_shown}
use Rattle.ym_explain.proofs.verdict.first_of.Given as goal

abbrev pub invariant-loop-verdict : goal.invariant-loop-verdict
invariant-loop-verdict l =
    first_shown l.seen (drop l.verdict-index l.order) ≡ first_shown l.seen l.order
