use Rattle.std.proofs.Common.{◌≡◌, ◌∙◌, ap, Some, arith}
use Rattle.ym_core.specs.Scan.{controls_in}
use Rattle.ym_core.specs.declared.position.Position.TheVariants.{Header, Block}
use Rattle.ym_c.proofs.Filling.{header_hears, header_asks, block_hears, block_asks}
use Rattle.ym_c.proofs.sender.ym_sender_hear.Goals as goal

pub returns-in-Some-Header-clause-hears : goal.returns-in-Some-Header-clause-hears
returns-in-Some-Header-clause-hears c s keeps stands =
    let is : c.in-Some.standing ≡ s = cc (c.load.ensures.kept s keeps stands, c.in-Some.is) in
    let position : c.in-Some-Header.field-0 ≡ Header c.in-Some-Header.field-0-0 = rw c.in-Some-Header.is at c.in-Some-Header.field-0-is in
    let fills : c.after-step.result.fills ≡ Some (Header c.in-Some-Header.field-0-0) = cc (c.in-Some-Header.is, position) in
    header_hears c.args.blocks.now s (controls_in c.args.bytes.now) c.after-step.result c.args.sender.now c.store-2.new.kept (rw is at c.after-step.ensures.step)
    c.after-step.ensures.within stands.few keeps.room c.store-2.ensures.stands c.in-Some-Header.field-0-0 fills

pub returns-in-Some-Header-clause-asks : goal.returns-in-Some-Header-clause-asks
returns-in-Some-Header-clause-asks c s keeps stands =
    let is : c.in-Some.standing ≡ s = cc (c.load.ensures.kept s keeps stands, c.in-Some.is) in
    let position : c.in-Some-Header.field-0 ≡ Header c.in-Some-Header.field-0-0 = rw c.in-Some-Header.is at c.in-Some-Header.field-0-is in
    let fills : c.after-step.result.fills ≡ Some (Header c.in-Some-Header.field-0-0) = cc (c.in-Some-Header.is, position) in
    let here = header_asks c.args.blocks.now s (controls_in c.args.bytes.now) c.after-step.result c.args.sender.now c.store-2.new.kept (rw is at c.after-step.ensures.step)
    c.after-step.ensures.within stands.few keeps.room c.store-2.ensures.stands c.in-Some-Header.field-0-0 fills in
    (λ e. here, λ e. absurd (omega arith))

pub returns-in-Some-Block-clause-hears : goal.returns-in-Some-Block-clause-hears
returns-in-Some-Block-clause-hears c s keeps stands =
    let is : c.in-Some.standing ≡ s = cc (c.load.ensures.kept s keeps stands, c.in-Some.is) in
    let position : c.in-Some-Block.field-0 ≡ Block c.in-Some-Block.field-0-0 c.in-Some-Block.number = rw c.in-Some-Block.is at c.in-Some-Block.field-0-is in
    let fills : c.after-step.result.fills ≡ Some (Block c.in-Some-Block.field-0-0 c.in-Some-Block.number) = cc (c.in-Some-Block.is, position) in
    block_hears c.args.blocks.now s (controls_in c.args.bytes.now) c.after-step.result c.args.sender.now c.store-2.new.kept (rw is at c.after-step.ensures.step)
    c.after-step.ensures.within stands.few keeps.room c.store-2.ensures.stands c.in-Some-Block.field-0-0 c.in-Some-Block.number fills

pub returns-in-Some-Block-clause-asks : goal.returns-in-Some-Block-clause-asks
returns-in-Some-Block-clause-asks c s keeps stands =
    let is : c.in-Some.standing ≡ s = cc (c.load.ensures.kept s keeps stands, c.in-Some.is) in
    let position : c.in-Some-Block.field-0 ≡ Block c.in-Some-Block.field-0-0 c.in-Some-Block.number = rw c.in-Some-Block.is at c.in-Some-Block.field-0-is in
    let fills : c.after-step.result.fills ≡ Some (Block c.in-Some-Block.field-0-0 c.in-Some-Block.number) = cc (c.in-Some-Block.is, position) in
    let here = block_asks c.args.blocks.now s (controls_in c.args.bytes.now) c.after-step.result c.args.sender.now c.store-2.new.kept (rw is at c.after-step.ensures.step)
    c.after-step.ensures.within stands.few keeps.room c.store-2.ensures.stands c.in-Some-Block.field-0-0 c.in-Some-Block.number fills in
    (λ e. absurd (omega arith), λ e. here)
