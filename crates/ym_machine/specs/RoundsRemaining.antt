-- How many whole rounds a batch needs, and how many remain.
use Rattle.std.specs.Prelude.{ℕ, ◌+◌, ◌-◌, ◌≤◌, ◌≡◌, ◌==◌, List, [], ◌∷◌, length, if◌then◌else◌, drop, sum_by}
use Rattle.ym_machine.specs.declared.confirm.Confirm.{Confirm}
use Rattle.ym_machine.specs.declared.confirm.Confirm.TheVariants.{Twice, Once}
use Rattle.ym_machine.specs.Frames.{File, Frame, BlockZero, Piece, Eot, EndBlock}
use Rattle.ym_machine.specs.State.{SenderEnd, ReceiverEnd, State, committed, reported}

-- how many whole rounds a file needs: one for block 0, one for each piece, and one for each EOT
-- that is wanted
abbrev pub needed_by : {H : Type 0} → Confirm → File H → ℕ
needed_by Twice file = length file.pieces + 3
needed_by Once file = length file.pieces + 2

-- and a batch: two more, for the first C and the end block
abbrev pub rounds_needed : {H : Type 0} → Confirm → List (File H) → ℕ
rounds_needed confirm files = 2 + sum_by (needed_by confirm) files

-- how often a frame counts: an EOT twice with Twice
abbrev pub weight : {H : Type 0} → Confirm → Frame H → ℕ
weight Twice Eot = 2
weight Once Eot = 1
weight confirm (BlockZero header) = 1
weight confirm (Piece number body) = 1
weight confirm EndBlock = 1

abbrev pub weights : {H : Type 0} → Confirm → List (Frame H) → ℕ
weights confirm [] = 0
weights confirm (frame ∷ frames) = weight confirm frame + weights confirm frames

-- N(i): the frames from F[i] on, each as often as it counts
abbrev pub weights_from : {H : Type 0} → Confirm → List (Frame H) → ℕ → ℕ
weights_from confirm frames i = weights confirm (drop i frames)

abbrev pub left_unfinished : {H : Type 0} → Confirm → List (Frame H) → State → ℕ
left_unfinished confirm frames st =
    if st.sent
    then (if st.taken == st.acknowledged
    then weights_from confirm frames st.acknowledged - (if st.first_eot then 1 else 0)
    else weights_from confirm frames (st.acknowledged + 1) + 1)
    else weights_from confirm frames st.acknowledged + 1

abbrev pub left_at : {H : Type 0} → Confirm → List (Frame H) → SenderEnd → State → ℕ
left_at confirm frames SenderEnd.Finished st = 0
left_at confirm frames _ st = left_unfinished confirm frames st

-- the whole rounds that remain, while no end gave up, was cancelled or has failed
abbrev pub rounds_remaining : {H : Type 0} → Confirm → List (Frame H) → State → ℕ
rounds_remaining confirm frames st = left_at confirm frames st.sender st

abbrev pub SenderGoes : SenderEnd → Type 0
SenderGoes SenderEnd.Running = Unit {0}
SenderGoes SenderEnd.Finished = Unit {0}
SenderGoes _ = ⊥

abbrev pub ReceiverGoes : ReceiverEnd → Type 0
ReceiverGoes ReceiverEnd.Running = Unit {0}
ReceiverGoes ReceiverEnd.Finished = Unit {0}
ReceiverGoes _ = ⊥

-- no end gave up, was cancelled or has failed
abbrev pub IsGoing : State → Type 0
IsGoing st = SenderGoes st.sender × ReceiverGoes st.receiver

-- the retries of a Running end are at most n
pub record CountsWithin (n : ℕ) (st : State) : Type 0 where
  pub sender_retries : st.sender ≡ SenderEnd.Running → st.sender_retries ≤ n
  pub receiver_retries : st.receiver ≡ ReceiverEnd.Running → st.receiver_retries ≤ n

-- both ends have finished, and both count the whole batch
pub record IsComplete {H : Type 0} (files : List (File H)) (st : State) : Type 0 where
  pub sender : st.sender ≡ SenderEnd.Finished
  pub receiver : st.receiver ≡ ReceiverEnd.Finished
  pub committed : committed files st ≡ files
  pub reported : reported files st ≡ files
