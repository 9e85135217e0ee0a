use Rattle.std.proofs.Common.{◌≡◌, ◌+◌, ◌*◌, ◌≤◌, ℕ, suc, List, [], ◌∷◌, length, arith}
use Rattle.ym_delay.specs.HowLong.{AnswersEnd, ReadsEnd, answered_by, heard_by}
use Rattle.ym_delay.specs.TimedLine.{AnsweredAt, AnswersInTime, SpeaksInTime, SpokeAt, Times, WroteAt}
use Rattle.ym_delay.proofs.laws.so_many_deliveries_take_so_long.Goals as goal

one-more : (n x : ℕ) → suc n * x ≡ n * x + x
one-more n x = grind arith

speaks : (times : Times) (longest start : ℕ) (spoke : List SpokeAt) (last : WroteAt) → SpeaksInTime times start spoke last → ReadsEnd longest spoke →
    heard_by start spoke ≤ start + length spoke * (times.sender_acts + longest)
speaks times longest start [] last in_time ends = omega arith
speaks times longest start (s ∷ spoke) last in_time ends =
    let later = speaks times longest s.by spoke last in_time.3 ends.1 in let acts = in_time.1 in let reads = ends.0 in let more = one-more (length spoke) (times.sender_acts + longest) in
    omega (arith, later, acts, reads, more)

answers : (times : Times) (longest start : ℕ) (answered : List AnsweredAt) → AnswersInTime times start answered → AnswersEnd longest start answered →
    answered_by start answered ≤ start + length answered * (longest + times.receiver_acts)
answers times longest start [] in_time ends = omega arith
answers times longest start (a ∷ answered) in_time ends =
    let later = answers times longest a.at answered in_time.4 ends.1 in let acts = in_time.3 in let reads = ends.0 in let more = one-more (length answered) (longest + times.receiver_acts) in
    omega (arith, later, acts, reads, more)

pub returns-clause-sender : goal.returns-clause-sender
returns-clause-sender c times longest start spoke last in_time ends = speaks times longest start spoke last in_time ends

pub returns-clause-receiver : goal.returns-clause-receiver
returns-clause-receiver c times longest start answered in_time ends = answers times longest start answered in_time ends
