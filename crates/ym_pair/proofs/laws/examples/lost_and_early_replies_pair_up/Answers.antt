use Rattle.std.proofs.Common.{inl, inr, refl}
use Rattle.ym_pair.proofs.Names.{verdict_of}
use Rattle.ym_pair.proofs.laws.examples.lost_and_early_replies_pair_up.Goals as goal

pub returns-clause-again : goal.returns-clause-again
unfolding verdict_of
returns-clause-again c =
    inl (
      record { bytes = tt; shows = tt; short = tt; heard_is = refl },
      inr (refl, inl (record { bytes = tt; shows = tt; short = tt; heard_is = refl }, inl (record { shows = tt; short = tt; heard_is = refl }, tt))),
    )

pub returns-clause-bad_run : goal.returns-clause-bad_run
returns-clause-bad_run c = refl

pub returns-clause-early : goal.returns-clause-early
unfolding verdict_of
returns-clause-early c =
    inl (
      record { bytes = tt; shows = tt; short = tt; heard_is = refl },
      inr (
        refl,
        inl (
          record { bytes = tt; shows = tt; short = tt; heard_is = refl },
          inr (refl, inl (record { bytes = tt; shows = tt; short = tt; heard_is = refl }, inl (record { shows = tt; short = tt; heard_is = refl }, tt))),
        ),
      ),
    )

pub returns-clause-called_off : goal.returns-clause-called_off
unfolding verdict_of
returns-clause-called_off c = (record { bytes = tt; shows = tt; short = tt; heard_is = refl }, refl, tt)

pub returns-clause-skipped : goal.returns-clause-skipped
unfolding verdict_of
returns-clause-skipped c = λ arrives. let other = arrives.heard_is in cc
