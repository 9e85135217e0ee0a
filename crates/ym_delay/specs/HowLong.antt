-- How long a session takes, where each read of an end is over within a time.
use Rattle.std.specs.Prelude.{◌+◌, ◌≤◌, ℕ, List, [], ◌∷◌}
use Rattle.ym_delay.specs.TimedLine.{AnsweredAt, SpokeAt}

-- each read of a sender was over so long behind its write
abbrev pub ReadsEnd : ℕ → List SpokeAt → Type 0
ReadsEnd longest [] = Unit {0}
ReadsEnd longest (s ∷ spoke) = (s.by ≤ s.at + longest) × ReadsEnd longest spoke

-- each read of a receiver was over so long behind its reply before
abbrev pub AnswersEnd : ℕ → ℕ → List AnsweredAt → Type 0
AnswersEnd longest since [] = Unit {0}
AnswersEnd longest since (a ∷ answered) =
    (a.by ≤ since + longest) × AnswersEnd longest a.at answered

-- when the last read of a sender was over, which began then
abbrev pub heard_by : ℕ → List SpokeAt → ℕ
heard_by since [] = since
heard_by since (s ∷ spoke) = heard_by s.by spoke

-- when a receiver, which began then, wrote its last reply
abbrev pub answered_by : ℕ → List AnsweredAt → ℕ
answered_by since [] = since
answered_by since (a ∷ answered) = answered_by a.at answered
