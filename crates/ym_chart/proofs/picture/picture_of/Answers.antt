use Rattle.ym_chart.proofs.PictureLemmas.{parts_put}
use Rattle.ym_chart.proofs.picture.picture_of.Goals as goal

pub returns : goal.returns
returns c =
    parts_put c.args.rows.now c.args.left_out c.args.ends.now c.row_top-at.result c.end_top.result
    _ _ _ _ _ c.row_top-at.ensures c.end_top.ensures c.in_ok-text.ensures
    c.in_ok-push_rows.ensures c.in_ok-push_left_out.ensures c.in_ok-push_ends.ensures
    c.in_ok-push_str.ensures.bytes
