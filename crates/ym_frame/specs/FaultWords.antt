-- What a fault prints: the words for what is wrong.
use Rattle.std.specs.Prelude.{ℕ, List, ◌++◌, codes}
use Rattle.std.specs.Fmt.{decimal}
use Rattle.ym_frame.specs.declared.block.BlockFault.{BlockFault}
use Rattle.ym_frame.specs.declared.block.BlockFault.TheVariants.{Length}
use Rattle.ym_frame.specs.declared.frame.Why.{Why}
use Rattle.ym_frame.specs.declared.frame.Why.TheVariants.{FirstByte, Complement, Check, SecondCan, Cut}
use Rattle.ym_frame.specs.declared.frame.Broken.{Broken}

abbrev pub block_fault_text : BlockFault → List ℕ
block_fault_text Length = codes "a block's body has 128 or 1024 bytes"

abbrev pub why_text : Why → List ℕ
why_text FirstByte = codes "no frame begins with this byte"
why_text Complement = codes "the number and its complement disagree"
why_text Check = codes "the body and its check disagree"
why_text SecondCan = codes "one CAN stands alone"
why_text Cut = codes "the frame is cut short"

abbrev pub broken_text : Broken → List ℕ
broken_text broken =
    codes "at byte " ++ (decimal broken.place ++ (codes ": " ++ why_text broken.why))
