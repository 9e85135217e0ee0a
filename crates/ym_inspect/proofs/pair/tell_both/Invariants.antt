-- What was read and told so far, and that no write failed.
use Rattle.std.proofs.Common.{◌≡◌, true}
use Rattle.std.specs.Io.KnownBytes.{IsAtEnd}
use Rattle.ym_told.specs.declared.way.Direction.TheVariants.{There, Back}
use Rattle.ym_inspect.specs.PairTold.{PairOn}
use Rattle.ym_inspect.proofs.pair.tell_both.Given as goal

abbrev pub invariant-loop : goal.invariant-loop
invariant-loop g l = record {
  there : l.there.way ≡ There;
  back : l.back.way ≡ Back;
  reads : PairOn (g.I.Input.remaining l.fn.there.input.now) (g.J.Input.remaining l.fn.back.input.now) l.fn.inspection (g.O.Output.contents l.fn.out)
      (g.I.Input.remaining l.there.input.now) (g.J.Input.remaining l.back.input.now) l.inspection (g.O.Output.contents l.out);
  there_over : l.there.is_over ≡ true → IsAtEnd (g.I.Input.remaining l.there.input.now);
  back_over : l.back.is_over ≡ true → IsAtEnd (g.J.Input.remaining l.back.input.now);
  failures : g.O.Output.failures l.out ≡ g.O.Output.failures l.fn.out;
}
