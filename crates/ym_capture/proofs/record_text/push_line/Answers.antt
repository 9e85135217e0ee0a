-- The parts of a line, one behind another.
use Rattle.std.proofs.Common.{◌∙◌, ◌++◌, ℕ, List, ap}
use Rattle.hex.specs.Hex.{encode_lower}
use Rattle.ym_capture.specs.RecordText.{line_of, mark, moment_text}
use Rattle.ym_capture.proofs.HexText.{line_put}
use Rattle.ym_capture.proofs.record_text.push_line.Goals as goal

pub returns : goal.returns
unfolding line_of
returns c =
    line_put c.args.text.now.items (moment_text c.args.micros) (mark c.args.way)
    (encode_lower c.args.bytes.now) c.push_moment.new.text.items c.extend_from_slice.new.self.items
    c.push_hex.new.text.items c.push.new.self.items c.in_ok-push_moment.ensures
    (c.in_ok-extend_from_slice.ensures.items
    ∙ ap (λ (z : List ℕ). c.push_moment.new.text.items ++ z) c.mark.ensures)
    c.in_ok-push_hex.ensures c.in_ok-push.ensures.items
