-- What a command reads from and writes to.
use Rattle.std.specs.Prelude.{ℕ, List, Option}
use Rattle.ym_answer.specs.Page.{Page}

-- what a command reads from and writes to: the bytes that reads will give, where they are known,
-- how often they failed, and both outputs
pub record Desk : Type 0 where
  pub text : Option (List ℕ)
  pub reads_failed : ℕ
  pub out : Page
  pub err : Page

abbrev pub desk : Option (List ℕ) → ℕ → Page → Page → Desk
desk text reads_failed out err =
    record { text = text; reads_failed = reads_failed; out = out; err = err }
