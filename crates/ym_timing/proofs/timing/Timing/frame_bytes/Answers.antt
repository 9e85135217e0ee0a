-- Behind the echo all is heard.
use Rattle.std.proofs.Common.{◌≡◌, ◌<◌, length, drop, get_or, false, sym, ◌∙◌, ap, arith}
use Rattle.std.proofs.lemmas.List.{take_rest}
use Rattle.ym_timing.specs.Arrivals.{take_bytes}
use Rattle.ym_timing.specs.Timing.{is_echo}
use Rattle.ym_timing.specs.declared.role.Role.TheVariants.{Receiver}
use Rattle.ym_timing.specs.declared.timing.Timing.{Timing}
use Rattle.ym_timing.proofs.FrameBytes.{no-echo-step}
use Rattle.ym_timing.proofs.timing.Timing.frame_bytes.Goals as goal

pub returns-then-not-echo-clause-new : goal.returns-then-not-echo-clause-new
returns-then-not-echo-clause-new c =
    let t : Timing = c.loop-place.self in
    let more : c.loop-place.place < length c.args.bytes.now = omega arith in
    let none : is_echo (get_or c.args.bytes.now c.loop-place.place 0) c.args.reply.now t ≡ false = sym c.echo.ensures.result ∙ c.if-not-echo.true in
    let same : c.echo.new.self ≡ t = rw none at c.echo.ensures.new in
    let role : t.role ≡ Receiver = c.loop-place.invariant.role ∙ c.requires in
    let step = no-echo-step c.args.bytes.now c.loop-place.place c.args.now c.args.reply.now t more role none in
    rw take_rest at c.take_all.ensures
    ∙ (ap (λ (x : Timing). let y : Timing = record x { heard = take_bytes (drop c.loop-place.place c.args.bytes.now) c.args.now x.heard } in y) same
    ∙ (sym step.0 ∙ sym c.loop-place.invariant.after))

pub returns-then-not-echo-clause-heard : goal.returns-then-not-echo-clause-heard
returns-then-not-echo-clause-heard c =
    let t : Timing = c.loop-place.self in
    let more : c.loop-place.place < length c.args.bytes.now = omega arith in
    let none : is_echo (get_or c.args.bytes.now c.loop-place.place 0) c.args.reply.now t ≡ false = sym c.echo.ensures.result ∙ c.if-not-echo.true in
    let role : t.role ≡ Receiver = c.loop-place.invariant.role ∙ c.requires in
    let step = no-echo-step c.args.bytes.now c.loop-place.place c.args.now c.args.reply.now t more role none in
    c.loop-place.invariant.heard ∙ step.1
