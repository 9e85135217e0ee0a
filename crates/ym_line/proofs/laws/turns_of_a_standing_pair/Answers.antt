use Rattle.std.proofs.Common.{refl}
use Rattle.ym_line.proofs.Names.{turn_of}
use Rattle.ym_line.proofs.HalfSteps.{turns-damage, turns-refine}
use Rattle.ym_line.proofs.Truths.{whole-turn}
use Rattle.ym_line.proofs.laws.turns_of_a_standing_pair.Goals as goal

pub returns : goal.returns
returns c = record {
  stand = λ confirm files st rounds turns old new all went refines. turns-refine confirm files rounds turns st old new all went refines;
  damage = λ confirm files st rounds turns old new all went.
      turns-damage c.what_comes_back.ensures.subsequence c.what_comes_back.ensures.whole confirm files rounds turns st old new all went;
  whole = λ round sink_failed source_failed. whole-turn round (turn_of round sink_failed source_failed) refl;
}
