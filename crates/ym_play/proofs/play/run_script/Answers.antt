use Rattle.std.proofs.Common.{◌≡◌, ◌≤◌, All, length, rules}
use Rattle.ym_file.specs.SourceFile.{IsFile}
use Rattle.ym_machine.specs.Machine.{start}
use Rattle.ym_link.specs.SenderRefines.{AllTold}
use Rattle.ym_machine.specs.declared.limits.TheConstants.{MOST_FILES}
use Rattle.ym_line.specs.Promise.{AreNew}
use Rattle.ym_line.specs.Rounds.{Pair}
use Rattle.ym_line.specs.Turns.{PairRefines}
use Rattle.ym_play.specs.Play.{IsNewPair, files_of}
use Rattle.ym_play.proofs.PlayLemmas.{MachineGives, are-new, at-start, machine-gives, ran}
use Rattle.ym_play.proofs.play.run_script.Goals as goal

pub returns : goal.returns
returns g c =
    let rounds : c.deref.result.now ≡ c.args.script.rounds = search rules in
    let old : Pair = record { sender = c.unwrap-sender.result; receiver = c.receiver_of-receiver.result; told = g.C.Carrier.told c.args.carrier.now; failures = g.C.Carrier.failures c.args.carrier.now } in
    let new : Pair = record { sender = c.run.new.sender; receiver = c.run.new.receiver; told = g.C.Carrier.told c.run.new.carrier; failures = g.C.Carrier.failures c.run.new.carrier } in
    let begins : IsNewPair c.args.script old.told old.failures old =
    record { standing = search rules; shape = search rules; files = search rules; receiver = search rules; kept = search rules; no_failures = search rules; line_told = search rules; line_failures = search rules } in
    let few : length c.args.script.batch ≤ MOST_FILES = search rules in
    let told : AllTold c.args.script.batch = search rules in
    let within : All IsFile c.args.script.batch = search rules in
    let fresh : AreNew old = are-new c.made_ends_are_new.ensures c.args.script old.told old.failures old begins few told in
    let stands : PairRefines c.args.script.confirm (files_of c.args.script) start old = at-start c.new_ends_stand.ensures c.args.script old.told old.failures old begins fresh within in
    let gives : MachineGives c.args.script.rounds old c.run.result new = rw rounds at (machine-gives c.deref.result.now old c.run.result new c.run.ensures.machine c.run.ensures.stopped) in
    ran c.args.script _ _ old c.run.result new begins stands gives (c.run.ensures.commits fresh) (c.run.ensures.reports fresh)
