-- The name is sought in what is left.
use Rattle.std.proofs.Common.{◌≡◌, drop}
use Rattle.ym_judged.specs.Judged.{case_named}
use Rattle.ym_judged.proofs.judging.case_of.Given as goal

abbrev pub invariant-loop-case : goal.invariant-loop-case
invariant-loop-case l = case_named (drop l.case-index l.cases) l.name ≡ case_named l.cases l.name
