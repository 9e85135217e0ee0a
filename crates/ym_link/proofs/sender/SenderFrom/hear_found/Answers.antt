use Rattle.std.proofs.Common.{Some, take, true, subst}
use Rattle.ym_link.proofs.Names.{controls_in, hears, SenderParts, IsStep, counts}
use Rattle.ym_link.proofs.Kept.{failed_hears, failed_sender, unfilled_sender, filled_sender}
use Rattle.ym_link.proofs.sender.SenderFrom.hear_found.Goals as goal

pub invariant_of-self-in-Err : goal.invariant_of-self-in-Err
invariant_of-self-in-Err g c =
    let s = c.self.inside in (
      c.self.invariant.0,
      failed_sender s.shape (take s.len c.frame_at.new.buffer) c.deref.result.now s.batch.items c.deref.ensures.value c.frame_at.new.files.items (Some c.in-Some.position)
          c.step_in-fills.new.standing c.source_failed-self-inside.result c.source_failed-self-inside.ensures c.in-Err.ensures.failed c.self.invariant.1.files c.step_in-fills.ensures.within,
    )

pub invariant_of-self-in_default : goal.invariant_of-self-in_default
invariant_of-self-in_default g c =
    let s = c.self.inside in (
      c.self.invariant.0,
      unfilled_sender s.shape (take s.len s.buffer) c.deref.result.now s.batch.items c.deref.ensures.value s.standing
          (record { standing = c.step_in-fills.new.standing; fills = c.step_in-fills.result }) (controls_in c.args.bytes.now)
          c.step_in-fills.ensures.step c.in_default.is c.step_in-fills.ensures.within c.self.invariant.1,
    )

pub invariant_of-self : goal.invariant_of-self
invariant_of-self g c =
    let s = c.self.inside in (
      c.in-Ok.ensures.length,
      filled_sender s.shape (take s.len s.buffer) c.deref.result.now s.batch.items c.deref.ensures.value (take c.in-Ok.len c.frame_at.new.buffer) c.frame_at.new.files.items s.standing
          (record { standing = c.step_in-fills.new.standing; fills = c.step_in-fills.result }) (controls_in c.args.bytes.now)
          c.in-Some.position c.step_in-fills.ensures.step c.in-Some.is c.in-Ok.ensures.ok c.step_in-fills.ensures.within c.in-Ok.ensures.frame c.self.invariant.1.files,
    )

pub returns-in-Err : goal.returns-in-Err
returns-in-Err g c =
    let s = c.self.inside in
    let left : SenderParts = record { standing = c.source_failed-self-inside.result; shape = s.shape; files = c.frame_at.new.files.items; frame = take s.len c.frame_at.new.buffer } in (
      true,
      subst (λ (o : SenderParts). IsStep o (hears (counts o) o.standing (controls_in c.args.bytes.now)) true left) c.self.view_is
          (failed_hears s.shape c.deref.result.now s.batch.items c.frame_at.new.files.items (take s.len s.buffer) (take s.len c.frame_at.new.buffer) s.standing c.source_failed-self-inside.result
          (controls_in c.args.bytes.now) (record { standing = c.step_in-fills.new.standing; fills = c.step_in-fills.result }) c.in-Some.position c.deref.ensures.value c.step_in-fills.ensures.step
          c.in-Some.is c.source_failed-self-inside.ensures c.in-Err.ensures.failed),
    )
