use Rattle.ym_inspect.proofs.RecordLemmas.{goes_on_behind_line, goes_on_in_line, on_ok_four}
use Rattle.ym_inspect.proofs.record.Recording.take_one.Goals as goal

pub returns-then-character-eq10-clause-read : goal.returns-then-character-eq10-clause-read
returns-then-character-eq10-clause-read g c =
    let ended = c.end_line.ensures in
    on_ok_four c.end_line.result _ _ _ _ _ ended.tells ended.state ended.number ended.buffered (λ t s n h. λ before read so.
    goes_on_behind_line _ _ _ _ _ _ _ _ c.in_ok-stepped.stepped _ _ _ _ _ c.in_ok-stepped.ensures.ok
    c.if-character-eq10.true t s n h so)

pub returns-clause-read : goal.returns-clause-read
returns-clause-read g c = λ before read so.
    let went = c.in_ok-go_on.ensures in
    goes_on_in_line _ _ _ _ _ _ _ _ c.in_ok-stepped.stepped _ _ _ _ c.in_ok-stepped.ensures.ok
    c.if-character-eq10.false went.inspection went.state went.number went.buffered so
