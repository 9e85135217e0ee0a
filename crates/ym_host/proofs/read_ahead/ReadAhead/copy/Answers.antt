use Rattle.std.proofs.Common.{◌≡◌, ◌+◌, ◌-◌, ℕ, List, Option, length, subst, ap, arith}
use Rattle.ym_host.specs.ReadAhead.{StandsIn, ReadAheadParts}
use Rattle.ym_host.proofs.StandsInLemmas.{StandsIn-copied}
use Rattle.ym_host.proofs.read_ahead.ReadAhead.copy.Goals as goal

-- What is copied is a part of what was read ahead.
pub returns-clause-bytes : goal.returns-clause-bytes
returns-clause-bytes g c = λ _.
    let told : g.F.ReadAt.bytes c.self.inside.file ≡ c.args.self.now.told = ap (λ (v : ReadAheadParts). v.told) c.self.view_is in
    subst (λ (file : Option (List ℕ)). StandsIn c.copy_from_slice.new.self c.args.at file) told
    (StandsIn-copied c.self.inside.bytes.items c.self.inside.start c.args.at (c.args.at - c.self.inside.start + length c.args.into.now - (c.args.at - c.self.inside.start))
    c.copy_from_slice.new.self _ c.self.invariant (omega arith) (omega arith) (rw c.deref.ensures.value at c.copy_from_slice.ensures.after))
