use Rattle.std.proofs.Common.{refl, arith, rules}
use Rattle.std.proofs.lemmas.Grind.{common_steps}
use Rattle.ym_inspect.proofs.RecordLemmas.{if_err, walked_end, walked_on, walked_wrong}
use Rattle.ym_inspect.proofs.record.Recording.take.Goals as goal

pub loop-character-init : goal.loop-character-init
loop-character-init g c = record {
  walked = λ before read so. record { read = read; much_is = refl; so_far = so };
  failures = refl;
}

pub loop-character-preserved : goal.loop-character-preserved
loop-character-preserved g c = record {
  walked = λ before read so.
      let w = c.loop-character.invariant.walked before read so in
      walked_on _ _ c.args.characters.now c.loop-character.character-index _ _ _ _ _ _ _ _ _ _ c.loop-character-test.true w
      (c.in_ok-take_one.ensures.read before w.read w.so_far);
  failures = grind (arith, common_steps);
}

pub returns-in_err-take_one-clause-line : goal.returns-in_err-take_one-clause-line
returns-in_err-take_one-clause-line g c = if_err c.from_residual.result c.in_err-take_one.field-0.0 _ (search rules) (λ before read so.
    let w = c.loop-character.invariant.walked before read so in
    walked_wrong _ _ c.args.characters.now c.loop-character.character-index _ _ _ _ _ c.in_err-take_one.field-0.0
    c.loop-character-test.true w (c.in_err-take_one.ensures.line w.read))

pub returns-clause-read : goal.returns-clause-read
returns-clause-read g c = λ before read so.
    walked_end _ _ c.args.characters.now c.loop-character.character-index _ _ _ _ _ c.loop-character-test.false
    (c.loop-character.invariant.walked before read so)
