-- The lines that tell why a script is not played, without their ends. Their words are this
-- profile's choice.
use Rattle.std.specs.Prelude.{ℕ, ◌++◌, ◌==◌, List, codes, decimal, if◌then◌else◌}
use Rattle.ym_line.specs.declared.fault.LineFault.{LineFault}
use Rattle.ym_line.specs.declared.fault.LineFault.TheVariants as round
use Rattle.ym_play.specs.declared.fault.PlayFault.{PlayFault}
use Rattle.ym_play.specs.declared.fault.PlayFault.TheVariants as play
use Rattle.ym_play.specs.declared.fault.ScriptWhy.{ScriptWhy}
use Rattle.ym_play.specs.declared.fault.ScriptWhy.TheVariants as why

abbrev pub why_text : ScriptWhy → List ℕ
why_text why.Large = codes "too large"
why_text why.NotText = codes "not text"
why_text why.NotCommand = codes "not a command"
why_text why.Late = codes "too late"
why_text why.Number = codes "bad number"
why_text why.Hex = codes "bad hex"
why_text why.Stamp = codes "bad stamp"
why_text why.Name = codes "bad name"
why_text why.TooMany = codes "too many files"

-- line 0 is the whole script
abbrev pub place_text : ℕ → List ℕ
place_text line =
    if line == 0 then codes "script: " else (codes "line " ++ (decimal line ++ codes ": "))

abbrev pub round_text : LineFault → List ℕ
round_text (round.NotDamage n) = codes "round " ++ (decimal n ++ codes ": not damage")
round_text (round.TooLong n) = codes "round " ++ (decimal n ++ codes ": too long")
round_text round.Carrier = codes "fault: device"
round_text round.Memory = codes "fault: memory"

abbrev pub play_text : PlayFault → List ℕ
play_text (play.Script line why) = place_text line ++ why_text why
play_text (play.Line fault) = round_text fault
play_text play.Memory = codes "fault: memory"
