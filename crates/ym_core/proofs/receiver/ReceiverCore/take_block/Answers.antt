use Rattle.std.proofs.Common.{◌≡◌, ◌≤◌, ◌<◌, ◌⊎◌, ◌-◌, ℕ, List, length, take, min, ap, rules, arith}
use Rattle.std.proofs.lemmas.List.{length-take-le}
use Rattle.std.proofs.lemmas.Grind.{common_steps}
use Rattle.ym_core.specs.Step.{open_in}
use Rattle.ym_core.proofs.receiver.ReceiverCore.take_block.Goals as goal

-- the front of a body
prefix : (body : List ℕ) (count len taken : ℕ) → count ≡ min (len - taken) (length body) → taken < len → (length body ≡ 128) ⊎ (length body ≡ 1024) →
    (0 < length (take count body)) × (length (take count body) ≤ len - taken) × (length (take count body) ≡ count)
prefix body count len taken is less sized =
    let short : count ≤ length body = omega (arith, is) in
    let size : length (take count body) ≡ count = length-take-le count body short in
    (grind (arith, common_steps), omega (arith, is, size), size)

pub returns-clause-moves : goal.returns-clause-moves
returns-clause-moves c =
    let f = prefix c.args.body.now c.min-count.result c.args.file.length c.args.file.taken (search rules) c.if-file.false c.requires.sized in
    record {
      file = ((c.args.file.length, c.args.file.taken), ap open_in c.requires.in_file, f.0, f.1, (let e = f.2 in grind (arith, e)));
      files = search rules;
    }
