use Rattle.std.proofs.Common.{◌≡◌, ◌+◌, ◌*◌, ◌≤◌, ℕ, List, [], ◌∷◌, length, length-append, inl, inr, refl, ap, arith}
use Rattle.std.proofs.Math.Nat.{mul-le-mul_right}
use Rattle.ym_core.specs.declared.delivery.Heard.{Heard}
use Rattle.ym_link.specs.History.{ReceiverHears, SenderHears, receiver_none, receiver_more, sender_none, sender_more}
use Rattle.ym_link.specs.ReceiverInto.{ReceiverParts}
use Rattle.ym_link.specs.SendOver.{written_for}
use Rattle.ym_link.specs.Sender.{SenderParts}
use Rattle.ym_link.specs.Sender as sender
use Rattle.ym_line.specs.declared.delivery.Round.{Round}
use Rattle.ym_pair.specs.Logs.{Answered, Spoke, answered_along, spoke_along}
use Rattle.ym_pair.specs.Pairing.{PairUp, ReceiverAlone, SenderAlone}
use Rattle.ym_delay.specs.TimedLine.{AnsweredAt, SpokeAt, answers_of, spoken}
use Rattle.ym_delay.proofs.laws.histories.batches_take_so_long.Goals as goal

-- ---- Each delivery has its round

alone-sender : (spoke : List Spoke) (rounds : List Round) → SenderAlone spoke rounds → length spoke ≤ length rounds
alone-sender [] rounds alone = omega arith
alone-sender (s ∷ spoke) [] alone = absurd alone
alone-sender (s ∷ spoke) (round ∷ rounds) alone = let later = alone-sender spoke rounds alone.2 in omega (arith, later)

alone-receiver : (last : List ℕ) (answered : List Answered) (rounds : List Round) → ReceiverAlone last answered rounds → length answered ≤ length rounds
alone-receiver last [] rounds alone = omega arith
alone-receiver last (a ∷ answered) [] alone = absurd alone
alone-receiver last (a ∷ answered) (round ∷ rounds) alone = let later = alone-receiver last answered rounds alone.2 in omega (arith, later)

few-rounds : (spoke : List Spoke) (last : List ℕ) (answered : List Answered) (rounds : List Round) → PairUp spoke last answered rounds → (length spoke ≤ length rounds) × (length answered ≤ length rounds)
few-rounds [] last answered rounds pairs = (omega arith, alone-receiver last answered rounds pairs)
few-rounds (s ∷ spoke) last [] rounds pairs = (alone-sender (s ∷ spoke) rounds pairs, omega arith)
few-rounds (s ∷ spoke) last (a ∷ answered) [] pairs = absurd pairs
few-rounds (s ∷ spoke) last (a ∷ answered) (round ∷ rounds) (inl (there, inl (back, later))) =
    let few = few-rounds spoke last answered rounds later in let x = few.0 in let y = few.1 in (omega (arith, x), omega (arith, y))
few-rounds (s ∷ spoke) last (a ∷ answered) (round ∷ rounds) (inl (there, inr (lost, later))) =
    let few = few-rounds (s ∷ spoke) last answered rounds later in let x = few.0 in let y = few.1 in (omega (arith, x), omega (arith, y))
few-rounds (s ∷ spoke) last (a ∷ answered) (round ∷ rounds) (inr (vain, later)) =
    let few = few-rounds spoke last (a ∷ answered) rounds later in let x = few.0 in let y = few.1 in (omega (arith, x), omega (arith, y))

-- ---- As many moments as deliveries

same-spoken : (spoke : List SpokeAt) → length (spoken spoke) ≡ length spoke
same-spoken [] = refl
same-spoken (s ∷ spoke) = let later = same-spoken spoke in omega (arith, later)

same-answers : (answered : List AnsweredAt) → length (answers_of answered) ≡ length answered
same-answers [] = refl
same-answers (a ∷ answered) = let later = same-answers answered in omega (arith, later)

spoke-counted : (s : SenderParts) (deliveries : List (List ℕ)) (progress : ℕ) (new : SenderParts) (hears : SenderHears s deliveries progress new) → length (spoke_along s deliveries progress new hears) ≡ length deliveries
spoke-counted s deliveries progress new (sender_none _) = refl
spoke-counted s deliveries progress new (sender_more _ before steps between bytes _ hears is on short gives) =
    let earlier = spoke-counted s before steps between hears in
    let x = length-append (spoke_along s before steps between hears) (record { wrote = written_for (sender.spoken between); came = bytes } ∷ []) in let y = length-append before (bytes ∷ []) in omega (arith, earlier, x, y)

answered-counted : (r : ReceiverParts) (deliveries : List Heard) (progress : ℕ) (new : ReceiverParts) (hears : ReceiverHears r deliveries progress new) → length (answered_along r deliveries progress new hears) ≡ length deliveries
answered-counted r deliveries progress new (receiver_none _) = refl
answered-counted r deliveries progress new (receiver_more _ before steps between h reply _ hears is on large gives) =
    let earlier = answered-counted r before steps between hears in
    let x = length-append (answered_along r before steps between hears) (record { heard = h; wrote = reply } ∷ []) in let y = length-append before (h ∷ []) in omega (arith, earlier, x, y)

-- ---- So long

so-long : (by start n most each : ℕ) → by ≤ start + n * each → n ≤ most → by ≤ start + most * each
so-long by start n most each ends few = let more = mul-le-mul_right each few in omega (arith, ends, more)

pub returns-clause-rounds : goal.returns-clause-rounds
returns-clause-rounds c times reads hears s new r end histories timed rounds said heard pairs =
    let few = few-rounds _ _ _ rounds pairs in
    let spoke_few : length timed.spoke ≤ length rounds = let x = few.0 in let y = same-spoken timed.spoke in let z = ap length timed.spoke_is in omega (arith, x, y, z) in
    let answered_few : length timed.answered ≤ length rounds = let x = few.1 in let y = same-answers timed.answered in let z = ap length timed.answered_is in omega (arith, x, y, z) in
    let laws = c.so_many_deliveries_take_so_long.ensures in (
      so-long _ timed.start (length timed.spoke) (length rounds) (times.sender_acts + reads) (laws.sender times reads timed.start timed.spoke timed.last timed.timed.speaks said) spoke_few,
      so-long _ timed.begun (length timed.answered) (length rounds) (hears + times.receiver_acts) (laws.receiver times hears timed.begun timed.answered timed.timed.answers heard) answered_few,
    )

pub returns-clause-batch : goal.returns-clause-batch
returns-clause-batch c times reads hears s new r end histories timed fresh said heard =
    let sent = histories.sent in let received = histories.received in
    let spoke_few : length timed.spoke ≤ _ =
    let x = same-spoken timed.spoke in let y = ap length timed.spoke_is in let z = spoke-counted s histories.deliveries sent.progress new sent.hears in let few = sent.few in let steps = sent.steps in omega (arith, x, y, z, few, steps) in
    let answered_few : length timed.answered ≤ _ =
    let x = same-answers timed.answered in let y = ap length timed.answered_is in let z = answered-counted r histories.heard received.progress end received.hears in let few = received.few in let steps = received.steps in
    omega (arith, x, y, z, few, steps) in
    let laws = c.so_many_deliveries_take_so_long.ensures in (
      so-long _ timed.start (length timed.spoke) _ (times.sender_acts + reads) (laws.sender times reads timed.start timed.spoke timed.last timed.timed.speaks said) spoke_few,
      so-long _ timed.begun (length timed.answered) _ (hears + times.receiver_acts) (laws.receiver times hears timed.begun timed.answered timed.timed.answers heard) answered_few,
    )
