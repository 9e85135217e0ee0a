-- The rounds so far have gone, with what was seen of each.
use Rattle.std.proofs.Common.{take}
use Rattle.ym_line.proofs.Names.{GoOn}
use Rattle.ym_line.proofs.rounds.run_by_tables.Given as goal

abbrev pub invariant-loop-i : goal.invariant-loop-i
invariant-loop-i g l =
    GoOn (take l.i l.rounds)
    (record { sender = l.fn.sender; receiver = l.fn.receiver; told = g.C.Carrier.told l.fn.carrier; failures = g.C.Carrier.failures l.fn.carrier })
    l.seen.items
    (record { sender = l.sender; receiver = l.receiver; told = g.C.Carrier.told l.carrier; failures = g.C.Carrier.failures l.carrier })
