use Rattle.std.proofs.Common.{rules, arith, ◌≡◌, ◌<◌, ◌^◌, Ok, length}
use Rattle.ym_play.specs.Command.{stamp_in}
use Rattle.ym_play.proofs.NameLemmas.{file_written, file_refused}
use Rattle.ym_play.specs.Value.{bytes_at, stamp_at}
use Rattle.ym_play.proofs.script.file_of.Goals as goal

pub returns-in_err-new-clause-gives : goal.returns-in_err-new-clause-gives
returns-in_err-new-clause-gives c =
    let bytes : bytes_at c.args.bytes.now ≡ Ok c.in_ok-bytes.bytes.items = search rules in
    let stamp : stamp_at (stamp_in c.args.stamp) ≡ Ok c.in_ok-stamp.stamp = search rules in
    let small : length c.in_ok-bytes.bytes.items < 2 ^ 63 = let ok = c.in_ok-bytes.bytes.ok in let cap = c.in_ok-bytes.bytes.small in omega arith in
    let refused = file_refused c.args.name.now c.args.bytes.now (stamp_in c.args.stamp) c.in_ok-bytes.bytes.items c.in_ok-stamp.stamp c.in_err-new.field-0.0 bytes stamp c.in_err-new.ensures.refused small in
    search rules

pub returns-clause-gives : goal.returns-clause-gives
returns-clause-gives c =
    let bytes : bytes_at c.args.bytes.now ≡ Ok c.in_ok-bytes.bytes.items = search rules in
    let stamp : stamp_at (stamp_in c.args.stamp) ≡ Ok c.in_ok-stamp.stamp = search rules in
    file_written c.args.name.now c.args.bytes.now (stamp_in c.args.stamp) c.in_ok-bytes.bytes.items c.in_ok-stamp.stamp c.in_ok-new.field-0 bytes stamp c.in_ok-new.ensures.ok (c.in_ok-new.ensures.within).header
