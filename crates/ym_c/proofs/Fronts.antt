-- What is told of a block that was found at the front of some bytes.
use Rattle.std.specs.Prelude.{◌≡◌, ℕ, List, [], ◌++◌, length, take, drop, Result, Ok}
use Rattle.std.proofs.Common.{append-nil}
use Rattle.std.proofs.lemmas.List.{take-append-drop}
use Rattle.ym_frame.specs.Block.{BlockParts}
use Rattle.ym_frame.specs.Frame.{verdict_of}
use Rattle.ym_frame.specs.declared.frame.Item.{Item}
use Rattle.ym_frame.specs.declared.frame.Item.TheVariants.{Block}
use Rattle.ym_frame.specs.declared.frame.Broken.{Broken}
use Rattle.ym_c.specs.Fronts.{IsFront, IsFound}
use Rattle.ym_c.specs.declared.frames.YmFront.{YmFront}

abbrev pub a_block : BlockParts → ℕ → Result (Item × ℕ) Broken
a_block b len = Ok (Block b, len)

-- what the law of bodies says
abbrev pub BodyStands : Type 0
BodyStands = (bytes more : List ℕ) (b : BlockParts) (len : ℕ) → verdict_of bytes ≡ a_block b len → take (length b.body) (drop 3 (bytes ++ more)) ≡ b.body

pub found_block : BodyStands → (m : ℕ) (held : List ℕ) (b : BlockParts) (len : ℕ) (front : YmFront) → verdict_of (take m held) ≡ a_block b len → IsFront (a_block b len) front → IsFound (verdict_of (take m held)) front held
found_block stands m held b len front e is =
    let there = rw take-append-drop at (stands (take m held) (drop m held) b len e) in
    rw e (is, rw is.3 there)

pub body_at_front : BodyStands → (bytes : List ℕ) (b : BlockParts) (len : ℕ) → verdict_of bytes ≡ a_block b len → take (length b.body) (drop 3 bytes) ≡ b.body
body_at_front stands bytes b len e = rw append-nil at (stands bytes [] b len e)
