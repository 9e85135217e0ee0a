-- Each connection so far had its session.
use Rattle.std.proofs.Common.{◌≡◌}
use Rattle.ym_receiving.specs.Keeping.{Sessions}
use Rattle.ym_answer.specs.Page.{page}
use Rattle.ym_receiving.proofs.keeping.receive_each.Given as goal

abbrev pub invariant-loop-session : goal.invariant-loop-session
invariant-loop-session g l = record {
  taken : g.C.Connections.taken l.intake.connections ≡ l._session;
  failed : g.C.Connections.failures l.intake.connections ≡ g.C.Connections.failures l.fn.intake.connections;
  sessions : Sessions l.fn.intake.order.confirm l._session
      (page (g.O.Output.contents l.fn.outputs.out) (g.O.Output.failures l.fn.outputs.out))
      (page (g.F.Output.contents l.fn.outputs.err) (g.F.Output.failures l.fn.outputs.err))
      (page (g.O.Output.contents l.outputs.out) (g.O.Output.failures l.outputs.out))
      (page (g.F.Output.contents l.outputs.err) (g.F.Output.failures l.outputs.err));
}
