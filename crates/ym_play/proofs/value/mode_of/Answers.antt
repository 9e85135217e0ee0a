use Rattle.std.proofs.Common.{rules, arith, ◌<◌}
use Rattle.ym_play.proofs.NumberLemmas.{number_some, number_none}
use Rattle.ym_play.specs.declared.fault.ScriptWhy.TheVariants as why
use Rattle.ym_play.proofs.value.mode_of.Goals as goal

pub returns-else-mode-gt4294967295 : goal.returns-else-mode-gt4294967295
returns-else-mode-gt4294967295 c = let h = rw c.in-Some.is at c.octal_of.ensures in
    number_some why.Stamp 8 0 4294967296 c.args.text.now c.in-Some.mode h.0.0 h.1 (omega arith) (search rules)

pub returns-then-mode-gt4294967295 : goal.returns-then-mode-gt4294967295
returns-then-mode-gt4294967295 c = let h = rw c.in-Some.is at c.octal_of.ensures in
    number_none why.Stamp 8 0 4294967296 c.args.text.now (λ numeral low high. let v = h.1 in let big : 4294967295 < c.in-Some.mode = search rules in omega (arith, v, high, big))

pub returns-in-None : goal.returns-in-None
returns-in-None c = let h = rw c.in-None.is at c.octal_of.ensures in
    number_none why.Stamp 8 0 4294967296 c.args.text.now (λ numeral low high. h (numeral, omega (arith, high)))
