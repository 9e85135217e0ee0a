-- The next block has one row of the table.
use Rattle.std.proofs.Common.{◌≡◌, ℕ, List, true, false, Result, Ok, Err, sym, subst, inl, rules}
use Rattle.std.specs.declared.alloc.AllocError.{AllocError}
use Rattle.ym_core.specs.Step.{IsNext, adding}
use Rattle.ym_frame.specs.declared.control.Reply.TheVariants as reply
use Rattle.ym_header.specs.declared.reading.Zero.TheVariants as zero
use Rattle.ym_link.specs.ReceiverInto.{StepGives}
use Rattle.ym_link.proofs.Names.{Heard, HearsGives, ReceiverParts, Reply, Step}
use Rattle.ym_link.proofs.receiver.ReceiverInto.add.Goals as goal

gives : (old new : ReceiverParts) (h : Heard) (bytes : List ℕ) (result : Result Reply AllocError) → IsNext old.receiver h bytes → StepGives old (adding old.receiver bytes) result new → HearsGives old h result new
gives old new h bytes result is step = let taken = is.may.in_file in (Ok zero.End, λ block runs awaits heard zero. absurd cc, subst (λ (s : Step). StepGives old s result new) (sym (is.step (Ok zero.End))) step)

wanting : (old new : ReceiverParts) (h : Heard) (bytes : List ℕ) (e : AllocError) → IsNext old.receiver h bytes → new ≡ old → HearsGives old h (Err e) new
wanting old new h bytes e is same = gives old new h bytes (Err e) is (same, inl tt)

pub returns-in-Ok : goal.returns-in-Ok
returns-in-Ok g c = gives _ _ _ _ (Ok reply.Ack) c.requires (false, (search rules))

pub returns-in-Err-Failed : goal.returns-in-Err-Failed
returns-in-Err-Failed g c = gives _ _ _ _ (Ok reply.Cancel) c.requires (true, (search rules))

pub returns-in-Err-Memory : goal.returns-in-Err-Memory
returns-in-Err-Memory g c = wanting _ _ _ _ _ c.requires (search rules)
