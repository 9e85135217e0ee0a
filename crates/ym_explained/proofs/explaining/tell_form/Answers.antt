-- By the contracts of ym_inspect.
use Rattle.ym_explained.proofs.ExplainLemmas.{of_any_fault}
use Rattle.ym_explained.proofs.explaining.tell_form.Goals as goal

pub returns-in-Capture : goal.returns-in-Capture
returns-in-Capture g c =
    let it = c.explain_capture.ensures in
    rw c.in-Capture.is
    (record {
      last = it.last;
      all = it.told;
      fault_is = it.fault;
      cut = it.cut;
      reads = it.reads;
      writes = it.wrote;
    })

pub returns-in-OneWay : goal.returns-in-OneWay
returns-in-OneWay g c =
    let it = c.explain_one_way.ensures in
    rw c.in-OneWay.is
    (record {
      last = it.last;
      all = it.told;
      fault_is = of_any_fault c.explain_one_way.result _ (λ why known e. tt);
      cut = of_any_fault c.explain_one_way.result _ (λ why known e. tt);
      reads = it.reads;
      writes = it.wrote;
    })
