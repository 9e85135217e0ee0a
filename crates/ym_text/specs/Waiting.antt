-- Whom an end waits for, in words.
use Rattle.std.specs.Prelude.{ℕ, List, ◌++◌, codes, decimal}
use Rattle.ym_text.specs.declared.waiting.Awaited.{Awaited}
use Rattle.ym_text.specs.declared.waiting.Awaited.TheVariants as awaited

-- so many seconds of so many
abbrev pub seconds_text : ℕ → ℕ → List ℕ
seconds_text seconds limit = codes ", " ++ (decimal seconds ++ (codes " s of " ++ decimal limit))

abbrev pub waiting_text : Awaited → ℕ → ℕ → List ℕ
waiting_text awaited.Asking seconds limit =
    codes "waiting for the receiver to ask (C)" ++ seconds_text seconds limit
waiting_text awaited.C seconds limit = codes "waiting for C" ++ seconds_text seconds limit
waiting_text awaited.Answer seconds limit =
    codes "waiting for an answer" ++ seconds_text seconds limit
waiting_text awaited.Sender seconds limit =
    codes "waiting for the sender" ++ seconds_text seconds limit
waiting_text awaited.More seconds limit = codes "waiting for more" ++ seconds_text seconds limit
