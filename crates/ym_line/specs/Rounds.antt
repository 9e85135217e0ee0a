-- What a round does, and what many do: both ends take the steps of their tables, by what arrives,
-- and the line tells what was handed on.
--
-- Rounds and their faults are this profile's choice; what an end does with a delivery is in its own
-- table.
use Rattle.std.specs.Prelude.{◌≡◌, ◌⊎◌, ℕ, ◌+◌, List, [], ◌∷◌, length, Option, unwrap_or, Result, Ok, Err}
use Rattle.ym_frame.specs.Control.{reply_bytes}
use Rattle.ym_frame.specs.declared.control.Reply.{Reply}
use Rattle.ym_file.specs.Counts.{Counted}
use Rattle.ym_core.specs.Hearing.{heard_of}
use Rattle.ym_link.specs.ReceiverInto.{ReceiverParts}
use Rattle.ym_link.specs.ReceiverInto as receiver
use Rattle.ym_core.specs.Position.{done_at}
use Rattle.ym_link.specs.Sender.{SenderParts, IsSender, spoken}
use Rattle.ym_link.specs.Sender as sender
use Rattle.ym_line.specs.Carried.{told_more}
use Rattle.ym_line.specs.Damage.{arrives, how_of, ShowsThere, ShowsBack, IsShort, IsHeardBad, IsChecked}
use Rattle.ym_line.specs.What.{what_heard}
use Rattle.ym_line.specs.declared.delivery.Delivery.{Delivery}
use Rattle.ym_line.specs.declared.delivery.Handed.{Handed}
use Rattle.ym_line.specs.declared.delivery.Round.{Round}
use Rattle.ym_line.specs.declared.delivery.Way.{Way}
use Rattle.ym_line.specs.declared.delivery.Way.TheVariants.{There, Back}
use Rattle.ym_line.specs.declared.fault.LineFault.{LineFault}
use Rattle.ym_line.specs.declared.fault.LineFault.TheVariants.{Carrier, Memory}
use Rattle.ym_line.specs.declared.trace.Seen.{Seen}
use Rattle.ym_line.specs.declared.trace.Trace.{Trace}

-- two ends, and the line between them: the deliveries that it tells, and how often it failed
pub record Pair : Type 0 where
  pub sender : SenderParts
  pub receiver : ReceiverParts
  pub told : Option (List Handed)
  pub failures : ℕ

-- these ends and this carrier, by what it tells and how often it failed
abbrev pub pair_of : {C : Type 0} → (C → Option (List Handed)) → (C → ℕ) →
    SenderParts → ReceiverParts → C → Pair
pair_of told failures sender receiver carrier = record {
  sender = sender;
  receiver = receiver;
  told = told carrier;
  failures = failures carrier;
}

-- with one delivery more handed on
abbrev pub handed : Way → List ℕ → Pair → Pair
handed way bytes pair = record pair { told = told_more way bytes pair.told }

-- what the sender has to send: its frame, CAN CAN, or nothing
abbrev pub sent_by : SenderParts → List ℕ
sent_by parts = unwrap_or (spoken parts) []

-- ---- There: the receiver step

-- the receiver has heard what arrived, and gave this reply
pub record GoesThere (delivery : Delivery) (old : Pair) (reply : Reply) (new : Pair) : Type 0 where
  pub shows : ShowsThere delivery
  pub short : IsShort delivery
  pub bad : IsHeardBad delivery
  pub keeps : IsSender old.sender
  pub hears : receiver.HearsGives old.receiver (heard_of (arrives delivery (sent_by old.sender)))
      (Ok reply) new.receiver
  pub others : new ≡
      record (handed There (arrives delivery (sent_by old.sender)) old) { receiver = new.receiver }

-- What a fault of a step of round n leaves where no end has heard: by the check that failed, the
-- carry, or a growth.
abbrev pub StopsHalf : ℕ → Type 0 → Type 0 → Pair → LineFault → Pair → Type 0
StopsHalf n shows short old Carrier new =
    shows × short × Counted old.failures new.failures ×
    (new ≡ record old { failures = new.failures })
StopsHalf n shows short old Memory new = shows × short × (new ≡ old)
StopsHalf n shows short old refused new = IsChecked n shows short (Err refused) × (new ≡ old)

-- in the receiver step a delivery may have been handed on for which the receiver then wanted memory
abbrev pub StopsThere : ℕ → Delivery → Pair → LineFault → Pair → Type 0
StopsThere n delivery old fault new =
    StopsHalf n (ShowsThere delivery) (IsShort delivery) old fault new
    ⊎ (fault ≡ Memory) × ShowsThere delivery × IsShort delivery × IsSender old.sender
    × (new ≡ handed There (arrives delivery (sent_by old.sender)) old)

abbrev pub ThereGives : ℕ → Delivery → Pair → Result Reply LineFault → Pair → Type 0
ThereGives n delivery old (Ok reply) new = GoesThere delivery old reply new
ThereGives n delivery old (Err fault) new = StopsThere n delivery old fault new

-- ---- Back: the sender step

-- the sender has heard what arrived of the reply
pub record GoesBack (delivery : Delivery) (reply : Reply) (old new : Pair) : Type 0 where
  pub shows : ShowsBack reply delivery
  pub short : IsShort delivery
  pub hears : sender.Hears old.sender (arrives delivery (reply_bytes reply)) new.sender
  pub others : new ≡
      record (handed Back (arrives delivery (reply_bytes reply)) old) { sender = new.sender }

abbrev pub BackGives : ℕ → Delivery → Reply → Pair → Result (Unit {0}) LineFault → Pair → Type 0
BackGives n delivery reply old (Ok _) new = GoesBack delivery reply old new
BackGives n delivery reply old (Err fault) new =
    StopsHalf n (ShowsBack reply delivery) (IsShort delivery) old fault new

-- ---- Rounds

-- what is seen of a round: what the sender had to send, the reply before loss and damage, and both
-- given forms
abbrev pub seen_of : Round → SenderParts → Reply → Seen
seen_of round parts reply = record {
  what = what_heard (heard_of (sent_by parts));
  there = how_of round.there;
  reply = reply;
  back = how_of round.back;
}

-- the two steps, one after the other
pub record Goes (round : Round) (old : Pair) (seen : Seen) (new : Pair) : Type 0 where
  pub between : Pair
  pub there : GoesThere round.there old seen.reply between
  pub back : GoesBack round.back seen.reply between new
  pub seen_is : seen ≡ seen_of round old.sender seen.reply

-- a fault in the first half, or in the second
abbrev pub Stops : ℕ → Round → Pair → LineFault → Pair → Type 0
Stops n round old fault new =
    StopsThere n round.there old fault new
    ⊎ ((between : Pair) × (reply : Reply) × GoesThere round.there old reply between
    × StopsHalf n (ShowsBack reply round.back) (IsShort round.back) between fault new)

abbrev pub RoundGives : ℕ → Round → Pair → Result Seen LineFault → Pair → Type 0
RoundGives n round old (Ok seen) new = Goes round old seen new
RoundGives n round old (Err fault) new = Stops n round old fault new

-- ---- Runs

-- round after round, with what was seen of each
abbrev pub GoOn : List Round → Pair → List Seen → Pair → Type 0
GoOn [] old [] new = new ≡ old
GoOn (round ∷ rounds) old (seen ∷ more) new =
    (between : Pair) × Goes round old seen between × GoOn rounds between more new
GoOn _ old _ new = ⊥

-- round after round, of which the first is number n, up to one that met a fault, or for whose entry
-- in the trace there was no memory
abbrev pub StopsIn : ℕ → List Round → Pair → LineFault → Pair → Type 0
StopsIn n [] old fault new = ⊥
StopsIn n (round ∷ rounds) old fault new =
    ((fault ≡ Memory) × (new ≡ old))
    ⊎ (Stops n round old fault new
    ⊎ ((seen : Seen) × (between : Pair) × Goes round old seen between
    × StopsIn (n + 1) rounds between fault new))

-- the trace of a run: its rounds, and both reports
pub record IsTrace (rounds : List Round) (old : Pair) (trace : Trace) (new : Pair) : Type 0 where
  pub goes_on : GoOn rounds old trace.rounds.items new
  pub done : trace.done ≡ done_at (length new.sender.files) new.sender.standing.position
  pub send : trace.send ≡ new.sender.standing.state
  pub files : trace.files ≡ new.receiver.receiver.files
  pub recv : trace.recv ≡ new.receiver.receiver.state

abbrev pub RunGives : List Round → Pair → Result Trace LineFault → Pair → Type 0
RunGives rounds old (Ok trace) new = IsTrace rounds old trace new
RunGives rounds old (Err fault) new = StopsIn 1 rounds old fault new
