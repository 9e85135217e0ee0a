use Rattle.std.proofs.Common.{◌∙◌, sym}
use Rattle.ym_capture.proofs.HexText.{all_put, cut, part_put}
use Rattle.ym_capture.proofs.record_text.push_hex.Goals as goal

pub loop-rest-preserved : goal.loop-rest-preserved
loop-rest-preserved c =
    part_put c.loop-rest.text.items c.split_at.result.0.now c.split_at.result.1.now c.loop-rest.rest.now
    c.args.text.now.items c.args.bytes.now c.push_part.new.text.items
    (cut _ c.loop-rest.rest.now _ _ c.split_at.ensures.front c.split_at.ensures.back)
    c.in_ok-push_part.ensures c.loop-rest.invariant

pub returns : goal.returns
returns c =
    all_put c.loop-rest.text.items c.loop-rest.rest.now c.args.text.now.items c.args.bytes.now
    (sym c.is_empty.ensures ∙ c.loop-rest-test.false) c.loop-rest.invariant
