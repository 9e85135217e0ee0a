use Rattle.std.proofs.Common.{◌≡◌, ◌∙◌, sym, ap, arith, refl, take, drop, List, ℕ}
use Rattle.std.proofs.lemmas.List.{get_or-take}
use Rattle.std.specs.Prelude.{slice_index}
use Rattle.ym_frame.proofs.Names.{BlockParts, length_of, body_of}
use Rattle.ym_frame.proofs.Beginnings.{body_buffered, first_within}
use Rattle.ym_frame.proofs.frame.FrameBuf.block.Goals as goal

pub returns : goal.returns
returns c =
    let buffered = c.args.self.now in
    let inside = c.self.inside in
    let chunk = rw c.unwrap-body.ensures at c.first_chunk.ensures.cases in
    let number : slice_index inside.bytes 1 ≡ slice_index buffered 1 =
    sym (get_or-take inside.len inside.bytes 1 0 (first_within inside.len inside.bytes buffered 1 c.self.view_is (omega (arith, c.requires)))) ∙ ap (λ b. slice_index b 1) c.self.view_is in
    let body : take (length_of c.args.size) c.unwrap-body.result.now ≡ body_of (length_of c.args.size) buffered =
    body_buffered c.args.size inside.len inside.bytes buffered (take 1026 (drop 3 inside.bytes)) c.unwrap-body.result.now c.self.view_is refl chunk.same c.requires in
    let block : ℕ → List ℕ → BlockParts = λ n b. record { number = n; body = b } in
    c.at_front.ensures ∙ ap (λ n. block n (take (length_of c.args.size) c.unwrap-body.result.now)) number ∙ ap (block (slice_index buffered 1)) body
