use Rattle.std.proofs.Common.{rules, arith}
use Rattle.ym_play.proofs.NumberLemmas.{number_some, number_none}
use Rattle.ym_play.specs.declared.fault.ScriptWhy.TheVariants as why
use Rattle.ym_play.proofs.value.count_of.Goals as goal

pub returns-else-count-eq0 : goal.returns-else-count-eq0
returns-else-count-eq0 c = let h = rw c.in-Some.is at c.decimal_of.ensures in
    number_some why.Number 10 1 65536 c.args.text.now c.in-Some.count h.0.0 h.1 (search rules) (search rules)

pub returns-then-count-eq0 : goal.returns-then-count-eq0
returns-then-count-eq0 c = let h = rw c.in-Some.is at c.decimal_of.ensures in
    number_none why.Number 10 1 65536 c.args.text.now (λ numeral low high. omega (arith, h.1, low))

pub returns-in-None : goal.returns-in-None
returns-in-None c = let h = rw c.in-None.is at c.decimal_of.ensures in
    number_none why.Number 10 1 65536 c.args.text.now (λ numeral low high. h (numeral, high))
