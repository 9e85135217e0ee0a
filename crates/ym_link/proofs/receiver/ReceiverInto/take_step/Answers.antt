use Rattle.std.proofs.Common.{◌≡◌, ◌∙◌, true, subst, rules}
use Rattle.ym_core.specs.HeardRef.{owned_heard}
use Rattle.ym_core.specs.Receiver.{hears}
use Rattle.ym_core.specs.Step.{call_of}
use Rattle.ym_link.specs.Calls.{IsCall}
use Rattle.ym_link.proofs.receiver.ReceiverInto.take_step.Goals as goal

pub returns-in-Err-Failed : goal.returns-in-Err-Failed
returns-in-Err-Failed g c =
    let step = c.hear-core.ensures.step in
    let same : call_of c.hear-core.result.ask ≡ (hears c.args.self.now.receiver step.0 (owned_heard c.args.heard)).call = search rules in
    let found = rw c.in-Err-Failed.field-0-is at c.in-Err-Failed.ensures in (
      step.0,
      (search rules),
      (
        true,
        record {
          truth = search rules;
          no_call = λ e. absurd (subst IsCall (same ∙ e) found.2);
          reply_is = search rules;
          receiver_is = search rules;
          kept_is = search rules;
        },
      ),
    )
