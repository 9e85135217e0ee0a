-- What the slices have is what the chart keeps.
use Rattle.std.proofs.Common.{◌∙◌, ap, ℕ, List}
use Rattle.std.proofs.lemmas.Result.{IfOk-weaker}
use Rattle.ym_chart.specs.Drawing.{chart_words, picture_words}
use Rattle.ym_chart.specs.declared.row.Row.{Row}
use Rattle.ym_chart.proofs.chart.Chart.drawn.Goals as goal

pub returns : goal.returns
returns c =
    let kept = c.self.inside in
    IfOk-weaker c.picture_of.result _ _ (λ text is. is
    ∙ (ap (λ (rows : List Row). picture_words rows kept.left_out c.as_slice-2.result.now)
    c.as_slice.ensures.value
    ∙ (ap (λ (ends : List (List ℕ)). picture_words kept.rows.items kept.left_out ends)
    c.as_slice-2.ensures.value ∙ ap chart_words c.self.view_is)))
    c.picture_of.ensures
