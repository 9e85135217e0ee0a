use Rattle.std.proofs.Common.{◌≡◌, ◌∙◌, sym, rules, arith, true, inl, inr}
use Rattle.std.specs.Str.{all_ascii_digits}
use Rattle.std.proofs.lemmas.Str.Parse.{parse_digits}
use Rattle.ym_words.proofs.JobLemmas.{own, not_empty}
use Rattle.std.proofs.lemmas.Bool.{cases_lt}
use Rattle.ym_words.specs.PortNumber.{read_on}
use Rattle.ym_words.proofs.port.port_number.Goals as goal

pub returns-then-port-eq0 : goal.returns-then-port-eq0
returns-then-port-eq0 c = λ digits some.
    let h = rw c.in-Ok.is at (parse_digits own 16 c.args.text.now c.parse.result c.parse.ensures.value.0 digits) in
    omega (arith, h.1, c.if-port-eq0.true, some)

pub returns-else-port-eq0 : goal.returns-else-port-eq0
returns-else-port-eq0 c =
    let digits : all_ascii_digits c.args.text.now ≡ true = sym c.is_digits.ensures ∙ search rules in
    let h = rw c.in-Ok.is at (parse_digits own 16 c.args.text.now c.parse.result c.parse.ensures.value.0 digits) in
    (digits, h.1, omega (arith, c.if-port-eq0.false), let below = h.0.1 in omega (arith, below, h.1))

pub returns-in-Err : goal.returns-in-Err
returns-in-Err c = λ digits some.
    let h = rw c.in-Err.is at (parse_digits own 16 c.args.text.now c.parse.result c.parse.ensures.value.0 digits) in
    elim (cases_lt 65535 (read_on 0 c.args.text.now)) [
      | inl more ↦ more
      | inr fits ↦ absurd (h (not_empty c.args.text.now some, omega (arith, fits)))
    ]
