use Rattle.std.proofs.Common.{arith, refl, sym, ap, ◌≡◌, ◌∙◌, ◌+◌, ◌-◌, get_or, length, length-drop, take, drop, None}
use Rattle.std.proofs.lemmas.List.{take_all}
use Rattle.ym_frame.proofs.Names.{scan_after, item_of}
use Rattle.ym_frame.specs.Reader.{buffered_by}
use Rattle.ym_frame.specs.WholeFrame.{item_in}
use Rattle.ym_frame.proofs.ReaderLemmas.{loop_turn, loop_done}
use Rattle.ym_frame.proofs.reader.FrameReader.advance.Goals as goal

pub loop-used-preserved : goal.loop-used-preserved
loop-used-preserved c =
    let next = c.loop-used.used + 1 in
    let after = c.swallow-used-in-loop-used.new.self in
    let more = c.swallow-used-in-loop-used.result in
    let left = length-drop next c.args.piece.now in
    let rest : take (length c.args.piece.now - next) (drop next c.args.piece.now) ≡ drop next c.args.piece.now =
    take_all (length c.args.piece.now - next) (drop next c.args.piece.now) (omega (arith, left)) in
    let scan : after ≡ scan_after c.step.new.self (take more (drop next c.args.piece.now)) =
    c.swallow-used-in-loop-used.ensures.scan ∙ ap (λ t. scan_after c.step.new.self (take more t)) rest in
    let item : item_of c.step.new.self (take more (drop next c.args.piece.now)) ≡ None =
    ap (λ t. item_of c.step.new.self (take more t)) (sym rest) ∙ c.swallow-used-in-loop-used.ensures.item in
    let turn = loop_turn c.args.self.now c.loop-used.self c.step.new.self after c.args.piece.now c.loop-used.used more
    c.loop-used-test.true c.loop-used.invariant.none_yet c.loop-used.invariant.so_far (c.step.ensures.goes_on c.in_default.is).0 (c.step.ensures.goes_on c.in_default.is).1 scan item in
    record {
      within = omega (arith, left, ap length rest, c.swallow-used-in-loop-used.ensures.within);
      none_yet = turn.1;
      so_far = turn.0;
      between = λ short. c.swallow-used-in-loop-used.ensures.between (omega (arith, left, ap length rest));
    }

pub returns-in-Some : goal.returns-in-Some
returns-in-Some c =
    let now = c.loop-used.self in
    let item = item_in c.in-Some.whole (buffered_by now) in
    let done = loop_done c.args.self.now now c.args.piece.now c.loop-used.used (get_or c.args.piece.now c.loop-used.used 0) item c.loop-used-test.true refl c.loop-used.invariant.none_yet c.loop-used.invariant.so_far c.in-Some.ensures.whole in
    rw c.in-Some.ensures.same (c.in-Some.ensures.buffered, done)
