-- More bytes are what they are one by one.
use Rattle.std.proofs.Common.{◌≡◌, ℕ, ◌+◌, ◌<◌, length, min, sym, ◌∙◌, ap, arith, false}
use Rattle.ym_timing.specs.declared.arrivals.Arrivals.{Arrivals}
use Rattle.ym_timing.proofs.FrameBytes.{bytes-more}
use Rattle.ym_timing.proofs.arrivals.Arrivals.take_more.Goals as goal

pub returns : goal.returns
returns c =
    let some : 0 < length c.args.bytes.now = grind (arith, c.is_empty.ensures, c.if-is_empty.false) in
    let count : c.min.result ≡ min (c.args.self.count + length c.args.bytes.now) 2048 = omega arith in
    ap (λ (n : ℕ). let x : Arrivals = record c.args.self { count = n; last = c.args.now; is_quiet = false } in x) count
    ∙ sym (bytes-more c.args.bytes.now c.args.now c.args.self c.requires some)
