use Rattle.std.proofs.Common.{◌∙◌, [], Err, ap, rules}
use Rattle.ym_inspect.specs.RecordRead.{at_record_end}
use Rattle.ym_inspect.specs.declared.fault.InspectFault.{InspectFault}
use Rattle.ym_inspect.proofs.RecordLemmas.{also_err, also_ok, begins, cut_of, first_wrong, if_err, in_two, never_cut, none_so_far, wrong_behind, wrong_in_front}
use Rattle.ym_inspect.proofs.record.tell_record.Goals as goal

pub returns-in_err-take-clause-line : goal.returns-in_err-take-clause-line
returns-in_err-take-clause-line g c =
    let new = c.new-recording.ensures in
    if_err c.from_residual.result c.in_err-take.field-0.0 _ (search rules) (λ text b.
    let so = none_so_far (g.O.Output.contents c.args.out.now) _ new.inspection in
    first_wrong _ _ _ c.in_err-take.field-0.0 text new.state new.number new.buffered
    (wrong_in_front _ c.args.prefix.now b.rest text _ b.split (c.in_err-take.ensures.line _ [] so)))

pub returns-in_err-take-clause-cut : goal.returns-in_err-take-clause-cut
returns-in_err-take-clause-cut g c =
    if_err c.from_residual.result c.in_err-take.field-0.0 _ (search rules) (λ text b.
    never_cut _ _ _ _ (λ n is. c.in_err-take.ensures.uncut n (ap (λ (f : InspectFault). Err f) is)))

pub returns-in_err-read_all-clause-line : goal.returns-in_err-read_all-clause-line
returns-in_err-read_all-clause-line g c =
    let new = c.new-recording.ensures in
    if_err c.from_residual-in_err-read_all.result c.in_err-read_all.field-0.0 _ (search rules) (λ text b.
    let so = none_so_far (g.O.Output.contents c.args.out.now) _ new.inspection in
    let took = c.in_ok-take.ensures.read (g.O.Output.contents c.args.out.now) [] so in
    first_wrong _ _ _ c.in_err-read_all.field-0.0 text new.state new.number new.buffered
    (wrong_behind _ c.args.prefix.now b.rest text _ _ b.split took.much_is
    (c.in_err-read_all.ensures.line b.rest _ took.read b.left_is took.so_far)))

pub returns-in_err-read_all-clause-cut : goal.returns-in_err-read_all-clause-cut
returns-in_err-read_all-clause-cut g c =
    if_err c.from_residual-in_err-read_all.result c.in_err-read_all.field-0.0 _ (search rules) (λ text b.
    never_cut _ _ _ _ (λ n is. c.in_err-read_all.ensures.uncut n (ap (λ (f : InspectFault). Err f) is)))

pub returns-clause-told : goal.returns-clause-told
returns-clause-told g c =
    let new = c.new-recording.ensures in
    also_ok c.end.result _ _ c.end.ensures.ends (λ verdict ends. λ text b.
    let before = g.O.Output.contents c.args.out.now in
    let so = none_so_far before _ new.inspection in
    let took = c.in_ok-take.ensures.read before [] so in
    let goes = c.in_ok-read_all.ensures.read b.rest before took.read b.left_is took.so_far in
    let whole = begins _ _ _ text new.state new.number new.buffered
    ∙ in_two _ c.args.prefix.now b.rest text _ _ b.split took.much_is goes.much_is in
    let done = ends before goes.read goes.so_far in
    record { read = goes.read; says = ap at_record_end whole ∙ done.0; explains = done.1 })

pub returns-clause-line : goal.returns-clause-line
returns-clause-line g c = also_err c.end.result _ _ c.end.ensures.line (λ fault never. λ text b. λ n why is. absurd (never n why is))

pub returns-clause-cut : goal.returns-clause-cut
returns-clause-cut g c =
    let new = c.new-recording.ensures in
    also_err c.end.result _ _ c.end.ensures.cut (λ fault cut. λ text b.
    let before = g.O.Output.contents c.args.out.now in
    let so = none_so_far before _ new.inspection in
    let took = c.in_ok-take.ensures.read before [] so in
    let goes = c.in_ok-read_all.ensures.read b.rest before took.read b.left_is took.so_far in
    let whole = begins _ _ _ text new.state new.number new.buffered
    ∙ in_two _ c.args.prefix.now b.rest text _ _ b.split took.much_is goes.much_is in
    cut_of fault text _ before _ whole (cut before goes.read goes.so_far))
