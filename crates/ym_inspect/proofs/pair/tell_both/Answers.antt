use Rattle.std.proofs.Common.{◌∙◌, sym, refl, arith, rules, true≢false}
use Rattle.std.proofs.lemmas.Grind.{common_steps}
use Rattle.ym_inspect.proofs.PairLemmas.{back_on, pair_none, pair_on}
use Rattle.ym_inspect.proofs.pair.tell_both.Goals as goal

pub loop-init : goal.loop-init
loop-init g c = record {
  there = c.requires.there;
  back = c.requires.back;
  reads = pair_none _ _ _ _;
  there_over = λ e. absurd (true≢false (sym e ∙ c.requires.there_left));
  back_over = λ e. absurd (true≢false (sym e ∙ c.requires.back_left));
  failures = refl;
}

pub loop-preserved : goal.loop-preserved
loop-preserved g c = record {
  there = c.in_ok-tell_next.ensures.there;
  back = c.in_ok-tell_next.ensures.back;
  reads = pair_on _ _ _ _ _ _ _ _ _ _ _ _ c.loop.invariant.reads
      (pair_on _ _ _ _ _ _ _ _ _ _ _ _ (back_on _ _ _ _ _ _ _ _ c.loop.invariant.back (c.in_ok-ready.ensures.reads _)) c.in_ok-tell_next.ensures.reads);
  there_over = c.in_ok-tell_next.ensures.there_over c.loop.invariant.there_over;
  back_over = c.in_ok-tell_next.ensures.back_over (c.in_ok-ready.ensures.over c.loop.invariant.back_over);
  failures = grind (arith, common_steps);
}

pub returns-then-not-branch-clause-reads : goal.returns-then-not-branch-clause-reads
returns-then-not-branch-clause-reads g c =
    pair_on _ _ _ _ _ _ _ _ _ _ _ _ c.loop.invariant.reads
    (pair_on _ _ _ _ _ _ _ _ _ _ _ _ (back_on _ _ _ _ _ _ _ _ c.loop.invariant.back (c.in_ok-ready.ensures.reads _)) c.in_ok-tell_next.ensures.reads)

pub returns-then-not-branch-clause-there_done : goal.returns-then-not-branch-clause-there_done
returns-then-not-branch-clause-there_done g c =
    c.in_ok-tell_next.ensures.there_over c.loop.invariant.there_over (c.in_ok-tell_next.ensures.there_done (search rules))

pub returns-then-not-branch-clause-back_done : goal.returns-then-not-branch-clause-back_done
returns-then-not-branch-clause-back_done g c =
    c.in_ok-tell_next.ensures.back_over (c.in_ok-ready.ensures.over c.loop.invariant.back_over) (c.in_ok-tell_next.ensures.back_done (search rules))
