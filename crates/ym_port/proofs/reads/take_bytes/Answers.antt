-- What came is heard, or the wait goes on or is over.
use Rattle.std.proofs.Common.{ℕ, ◌<◌, ◌≤◌, length, take, sym, subst}
use Rattle.std.proofs.lemmas.List.{length-take-le}
use Rattle.ym_port.proofs.Reading.{brings-by, brings-some, brings-none}
use Rattle.ym_port.proofs.reads.take_bytes.Goals as goal

pub returns-then-heard-gt0-clause-exact : goal.returns-then-heard-gt0-clause-exact
returns-then-heard-gt0-clause-exact g c u e =
    let told = c.moment-now.ensures.told u e in
    let heard = c.hear-heard.ensures in
    let fits : c.hear-heard.result ≤ length c.hear-heard.new.buf = subst (λ (n : ℕ). c.hear-heard.result ≤ n) (sym heard.sized) heard.within in
    let sized = length-take-le c.hear-heard.result c.hear-heard.new.buf fits in
    let some : 0 < length (take c.hear-heard.result c.hear-heard.new.buf) = subst (λ (n : ℕ). 0 < n) (sym sized) c.if-heard-gt0.true in (
      told.0,
      told.1,
      brings-by (take c.args.count c.args.buf.now) (take c.hear-heard.result c.hear-heard.new.buf) c.moment-now.result c.args.began.wait c.args.began.start c.args.line.now c.look.new.self c.hear-heard.new.self told.0 u _ told.2 told.3 c.look.ensures heard.line heard.heard
          (brings-some (take c.hear-heard.result c.hear-heard.new.buf) c.args.began.wait c.args.began.start c.hear-heard.new.self u some),
    )

pub returns-clause-exact : goal.returns-clause-exact
returns-clause-exact g c u e =
    let told = c.moment-now.ensures.told u e in
    let heard = c.hear-heard.ensures in (
      told.0,
      told.1,
      brings-by (take c.args.count c.args.buf.now) (take c.hear-heard.result c.hear-heard.new.buf) c.moment-now.result c.args.began.wait c.args.began.start c.args.line.now c.look.new.self c.hear-heard.new.self told.0 u _ told.2 told.3 c.look.ensures heard.line heard.heard
          (brings-none c.hear-heard.result c.hear-heard.new.buf c.args.began.wait c.args.began.start c.hear-heard.new.self u _ c.if-heard-gt0.false
          (c.take_unheard.ensures.exact u)),
    )
