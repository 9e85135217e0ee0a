-- Which cases a peer is tried by, and which place of a session a frame is.
use Rattle.std.specs.Prelude.{ℕ, ◌==◌, List, Option, Some, None, if◌then◌else◌}
use Rattle.ym_judge.specs.declared.act.Act.{Act}
use Rattle.ym_judge.specs.declared.act.Act.TheVariants as act
use Rattle.ym_judge.specs.declared.case.Case.{Case}
use Rattle.ym_judge.specs.declared.cases.Peer.{Peer}
use Rattle.ym_judge.specs.declared.cases.Peer.TheVariants.{Sender, Receiver}
use Rattle.ym_judge.specs.declared.cases.TheConstants.{RECEIVER_CASES, SENDER_CASES}
use Rattle.ym_judge.specs.declared.spot.Spot.{Spot}
use Rattle.ym_judge.specs.declared.spot.Spot.TheVariants.{Start, Header, First, Second, Eot, EotAgain, End}

abbrev pub cases_for : Peer → List Case
cases_for Sender = SENDER_CASES
cases_for Receiver = RECEIVER_CASES

-- the first two data blocks of a file alone are positions
abbrev pub block_spot : ℕ → Option Spot
block_spot number =
    if number == 1 then Some First else
    if number == 2 then Some Second else
    None

-- a file's EOT, and each one behind it
abbrev pub eot_spot : ℕ → Option Spot
eot_spot eots = if eots == 0 then Some Eot else Some EotAgain

abbrev pub spot_at : Act → ℕ → Option Spot
spot_at act.Nothing eots = Some Start
spot_at act.Header eots = Some Header
spot_at (act.Block number) eots = block_spot number
spot_at act.Eot eots = eot_spot eots
spot_at act.End eots = Some End
spot_at act.Cancel eots = None
spot_at act.Noise eots = None
spot_at (act.Answer reply) eots = None
spot_at (act.Answers first second) eots = None
spot_at (act.Form form) eots = None
