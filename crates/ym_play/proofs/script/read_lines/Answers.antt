-- Each turn reads one line more of those between the line ends.
use Rattle.std.proofs.Common.{rules, arith, ◌≡◌, ◌+◌, length, lit<, ◌∙◌, Ok}
use Rattle.std.proofs.lemmas.Grind.{common_steps}
use Rattle.std.proofs.lemmas.Iterator.Consumers.{YieldsList-at, YieldsList-turn, YieldsList-end}
use Rattle.std.proofs.lemmas.Iterator.Splits.{YieldsList-from_str_split}
use Rattle.std.proofs.lemmas.List.{length_push}
use Rattle.ym_play.specs.Script.{lines_of, line_read}
use Rattle.ym_play.proofs.ScriptLemmas.{line_taken, line_refused, none_left}
use Rattle.ym_play.proofs.script.read_lines.Goals as goal

pub returns-in-Err : goal.returns-in-Err
unfolding lines_of
returns-in-Err c =
    let turn = YieldsList-turn (YieldsList-at c.into_iter-line-iterator.ensures.into_iter_gives (YieldsList-from_str_split 10 c.args.text.now (lit< tt) c.split-line-items.ensures.text c.split-line-items.ensures.has_more c.split-line-items.ensures.pattern)) c.loop-line.yielded _ c.loop-line.yielded_by _ _ c.in-Some.line c.in-Some.is c.next.ensures.steps in
    let refused = line_refused (length c.loop-line.yielded + 1) c.loop-line.script c.in-Err.refusal (lines_of c.args.text.now) (length c.loop-line.yielded) c.in-Some.line.now turn.0 turn.1 (rw c.in-Err.is at c.read_line.ensures) in
    rw (c.at.ensures, c.loop-line.invariant.number, c.loop-line.invariant.read) refused

pub loop-line-preserved : goal.loop-line-preserved
unfolding lines_of
loop-line-preserved c =
    let turn = YieldsList-turn (YieldsList-at c.into_iter-line-iterator.ensures.into_iter_gives (YieldsList-from_str_split 10 c.args.text.now (lit< tt) c.split-line-items.ensures.text c.split-line-items.ensures.has_more c.split-line-items.ensures.pattern)) c.loop-line.yielded _ c.loop-line.yielded_by _ _ c.in-Some.line c.in-Some.is c.next.ensures.steps in
    let taken : line_read c.loop-line.script c.in-Some.line.now ≡ Ok c.read_line.new.self = search rules in
    let more = length_push c.loop-line.yielded c.in-Some.line in
    record {
      number = grind (arith, common_steps);
      read = rw more (c.loop-line.invariant.read ∙ line_taken (length c.loop-line.yielded + 1) c.loop-line.script c.read_line.new.self (lines_of c.args.text.now) (length c.loop-line.yielded) c.in-Some.line.now turn.0 turn.1 taken);
    }

pub returns : goal.returns
unfolding lines_of
returns c =
    let all = YieldsList-end (YieldsList-at c.into_iter-line-iterator.ensures.into_iter_gives (YieldsList-from_str_split 10 c.args.text.now (lit< tt) c.split-line-items.ensures.text c.split-line-items.ensures.has_more c.split-line-items.ensures.pattern)) c.loop-line.yielded _ c.loop-line.yielded_by _ _ c.in-None.is c.next.ensures.steps in
    c.loop-line.invariant.read ∙ none_left (length c.loop-line.yielded + 1) c.loop-line.script (lines_of c.args.text.now) (length c.loop-line.yielded) (omega (arith, all.1))
