-- What becomes of the bytes that an end writes.
use Rattle.std.specs.Prelude.{ℕ, ◌+◌, ◌-◌, ◌/◌, ◌%◌, List, [], ◌∷◌, ◌++◌, length, take, drop, map}
use Rattle.ym_judge.specs.declared.twist.Twist.{Twist}
use Rattle.ym_judge.specs.declared.twist.Twist.TheVariants as twist

-- another byte
abbrev pub other : ℕ → ℕ
other byte = 255 - byte

-- the last byte is another one
abbrev pub damaged : List ℕ → List ℕ
damaged bytes = take (length bytes - 1) bytes ++ map other (drop (length bytes - 1) bytes)

abbrev pub junk : List ℕ
junk = 0x55 ∷ 0x55 ∷ 0x55 ∷ []

-- the number of a block is five more, and its complement fits it
abbrev pub misnumbered : List ℕ → List ℕ
misnumbered (first ∷ number ∷ complement ∷ rest) =
    first ∷ ((number + 5) % 256) ∷ (255 - ((number + 5) % 256)) ∷ rest
misnumbered bytes = bytes

abbrev pub carried_as : Twist → List ℕ → List ℕ
carried_as twist.Lost bytes = []
carried_as twist.Damaged bytes = damaged bytes
carried_as twist.Garbled bytes = map other bytes
carried_as twist.Cut bytes = take (length bytes / 2) bytes
carried_as twist.Doubled bytes = bytes
carried_as twist.Late bytes = bytes
carried_as twist.Junk bytes = junk ++ bytes
carried_as twist.LoneCan bytes = 0x18 ∷ bytes
carried_as twist.Cancel bytes = 0x18 ∷ 0x18 ∷ []
carried_as twist.Misnumbered bytes = misnumbered bytes
carried_as twist.Early bytes = 0x04 ∷ []
carried_as twist.AnswerLost bytes = bytes
carried_as twist.Unheard bytes = bytes
carried_as twist.Refused bytes = 0x15 ∷ []
carried_as twist.Asked bytes = 0x43 ∷ []
carried_as twist.Taken bytes = 0x06 ∷ []
carried_as twist.Behind bytes = bytes ++ 0x15 ∷ []
carried_as twist.Prompt bytes = bytes
