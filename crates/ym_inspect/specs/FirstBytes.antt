-- The first bytes of a file, by which it is told what it is.
use Rattle.std.specs.Prelude.{◌≡◌, ℕ, List, ◌++◌, take, Option, Some}
use Rattle.ym_capture.specs.declared.head.TheConstants.{HEAD}

-- as many as stand before the first packet of a capture, or all where there are fewer
abbrev pub prefix_of_text : List ℕ → List ℕ
prefix_of_text text = take HEAD text

-- so much was read of a text: its first bytes, and nothing behind them
pub record Begins (prefix text : List ℕ) (left : Option (List ℕ)) : Type 0 where
  pub rest : List ℕ
  pub split : text ≡ prefix ++ rest
  pub left_is : left ≡ Some rest
  pub first : prefix ≡ prefix_of_text text
