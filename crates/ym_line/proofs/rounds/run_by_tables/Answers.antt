use Rattle.std.proofs.Common.{◌≡◌, ◌++◌, ◌∷◌, [], ◌<◌, take, length, inl, inr, refl, ◌+◌, arith, subst}
use Rattle.std.proofs.lemmas.List.{take_more}
use Rattle.std.proofs.lemmas.Result.{err_from_is_err_and}
use Rattle.ym_line.proofs.Names.{Pair, Stops}
use Rattle.ym_line.proofs.Runs.{GoOn-append, StopsIn-at}
use Rattle.ym_line.proofs.rounds.run_by_tables.Goals as goal

pub returns-in_err-reserve : goal.returns-in_err-reserve
returns-in_err-reserve g c =
    let start : Pair = record { sender = c.args.sender.now; receiver = c.args.receiver.now; told = g.C.Carrier.told c.args.carrier.now; failures = g.C.Carrier.failures c.args.carrier.now } in
    let here : Pair = record { sender = c.loop-i.sender; receiver = c.loop-i.receiver; told = g.C.Carrier.told c.loop-i.carrier; failures = g.C.Carrier.failures c.loop-i.carrier } in
    let p = err_from_is_err_and c.from_residual.result c.from_residual.ensures.1 in
    rw p.1 (StopsIn-at c.args.rounds.now 1 c.loop-i.i c.index-rounds-i.result start here here c.loop-i.seen.items p.0 c.loop-i-test.true c.index-rounds-i.is c.loop-i.invariant (inl (p.2, refl)))

pub returns-in_err-go_round : goal.returns-in_err-go_round
returns-in_err-go_round g c =
    let start : Pair = record { sender = c.args.sender.now; receiver = c.args.receiver.now; told = g.C.Carrier.told c.args.carrier.now; failures = g.C.Carrier.failures c.args.carrier.now } in
    let here : Pair = record { sender = c.loop-i.sender; receiver = c.loop-i.receiver; told = g.C.Carrier.told c.loop-i.carrier; failures = g.C.Carrier.failures c.loop-i.carrier } in
    let new : Pair = record { sender = c.go_round.new.sender; receiver = c.go_round.new.receiver; told = g.C.Carrier.told c.go_round.new.carrier; failures = g.C.Carrier.failures c.go_round.new.carrier } in
    let p = err_from_is_err_and c.from_residual-in_err-go_round.result c.from_residual-in_err-go_round.ensures.1 in
    let number : c.loop-i.i + 1 ≡ 1 + c.loop-i.i = omega arith in
    rw (p.1, p.2) (StopsIn-at c.args.rounds.now 1 c.loop-i.i c.index-rounds-i.result start here new c.loop-i.seen.items c.in_err-go_round.field-0.0 c.loop-i-test.true c.index-rounds-i.is c.loop-i.invariant
    (inr (subst (λ n. Stops n c.index-rounds-i.result here c.in_err-go_round.field-0.0 new) number c.in_err-go_round.ensures)))

pub loop-i-preserved : goal.loop-i-preserved
loop-i-preserved g c =
    let start : Pair = record { sender = c.args.sender.now; receiver = c.args.receiver.now; told = g.C.Carrier.told c.args.carrier.now; failures = g.C.Carrier.failures c.args.carrier.now } in
    let here : Pair = record { sender = c.loop-i.sender; receiver = c.loop-i.receiver; told = g.C.Carrier.told c.loop-i.carrier; failures = g.C.Carrier.failures c.loop-i.carrier } in
    let new : Pair = record { sender = c.go_round.new.sender; receiver = c.go_round.new.receiver; told = g.C.Carrier.told c.go_round.new.carrier; failures = g.C.Carrier.failures c.go_round.new.carrier } in
    let longer = GoOn-append (take c.loop-i.i c.args.rounds.now) c.index-rounds-i.result start here new c.loop-i.seen.items c.in_ok-go_round.field-0 c.loop-i.invariant c.in_ok-go_round.ensures in
    let below : c.loop-i.i < length c.args.rounds.now = c.loop-i-test.true in
    let items : c.push_reserved.new.self.items ≡ c.loop-i.seen.items ++ c.in_ok-go_round.field-0 ∷ [] = rw (c.push_reserved.ensures.items, c.reserve.ensures.items) refl in
    rw (take_more c.args.rounds.now c.loop-i.i c.index-rounds-i.result below, ← c.index-rounds-i.is, items) longer
