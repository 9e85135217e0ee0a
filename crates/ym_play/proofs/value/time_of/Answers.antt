use Rattle.std.proofs.Common.{arith}
use Rattle.ym_play.proofs.NumberLemmas.{number_some, number_none}
use Rattle.ym_play.specs.declared.fault.ScriptWhy.TheVariants as why
use Rattle.ym_play.proofs.value.time_of.Goals as goal

pub returns-in-Some : goal.returns-in-Some
returns-in-Some c = let h = rw c.in-Some.is at c.octal_of.ensures in
    number_some why.Stamp 8 0 18446744073709551616 c.args.text.now c.in-Some.time h.0.0 h.1 (omega arith) (rw (← h.1) at h.0.1)

pub returns-in-None : goal.returns-in-None
returns-in-None c = let h = rw c.in-None.is at c.octal_of.ensures in
    number_none why.Stamp 8 0 18446744073709551616 c.args.text.now (λ numeral low high. h (numeral, high))
