use Rattle.std.proofs.Common.{List, ℕ, subst, sym}
use Rattle.std.proofs.lemmas.Result.{IfOk-weaker}
use Rattle.ym_chart.specs.ChartText.{StandsFor}
use Rattle.ym_chart.proofs.StandsForLemmas.{spelled_stands}
use Rattle.ym_chart.proofs.text.escaped.Goals as goal

pub returns-clause-means : goal.returns-clause-means
returns-clause-means c =
    IfOk-weaker c.spelled.result _ _ (λ text is.
    subst (λ (t : List ℕ). StandsFor t c.args.bytes.now) (sym is) (spelled_stands c.args.bytes.now))
    c.spelled.ensures
