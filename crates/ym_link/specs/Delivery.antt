-- A delivery of a port: what is read until the end that reads it has enough (this profile).
--
-- Each read's buffer has 2048 bytes less those that the delivery already has. The delivery ends by
-- the test of the end that reads it, when the line is quiet, or at 2048 bytes. Where the port is
-- closed or fails, the unfinished delivery is dropped.
use Rattle.std.specs.Prelude.{ℕ, ◌+◌, ◌-◌, Bool, nat_lt, nat_le, List, [], ◌∷◌, ◌++◌, length, take, drop, Result, Ok, Err, if◌then◌else◌}
use Rattle.ym_link.specs.declared.event.Event.{Event}
use Rattle.ym_link.specs.declared.event.Event.TheVariants as event
use Rattle.ym_link.specs.declared.end_fault.EndFault.{EndFault}
use Rattle.ym_link.specs.declared.end_fault.EndFault.TheVariants as fault
use Rattle.ym_link.specs.declared.port.TheConstants.{DELIVERY_LIMIT}

-- a delivery, or why there is none, and the events behind it
pub record Taken : Type 0 where
  pub delivery : Result (List ℕ) EndFault
  pub rest : List Event

-- The delivery at the front of the events, behind the bytes that it already has; `ends` is the test
-- by which it ends.
unfoldable pub taken : (List ℕ → Bool) → List ℕ → List Event → Taken
taken ends had [] = record { delivery = Err fault.Closed; rest = [] }
taken ends had (event.Closed ∷ rest) = record { delivery = Err fault.Closed; rest = rest }
taken ends had (event.Fault ∷ rest) = record { delivery = Err fault.Device; rest = rest }
taken ends had (event.Quiet ∷ rest) = record { delivery = Ok had; rest = rest }
taken ends had (event.Piece [] ∷ rest) = record { delivery = Ok had; rest = rest }
taken ends had (event.Piece (b ∷ bs) ∷ rest) =
    if nat_lt (DELIVERY_LIMIT - length had) (length (b ∷ bs))
    then record {
      delivery = Ok (had ++ take (DELIVERY_LIMIT - length had) (b ∷ bs));
      rest = event.Piece (drop (DELIVERY_LIMIT - length had) (b ∷ bs)) ∷ rest;
    }
    else (if ends (had ++ b ∷ bs) then record { delivery = Ok (had ++ b ∷ bs); rest = rest }
    else (if nat_le DELIVERY_LIMIT (length (had ++ b ∷ bs))
    then record { delivery = Ok (had ++ b ∷ bs); rest = rest }
    else taken ends (had ++ b ∷ bs) rest))

-- how many reads it takes, by the same cases
unfoldable pub reads_in : (List ℕ → Bool) → List ℕ → List Event → ℕ
reads_in ends had [] = 1
reads_in ends had (event.Closed ∷ rest) = 1
reads_in ends had (event.Fault ∷ rest) = 1
reads_in ends had (event.Quiet ∷ rest) = 1
reads_in ends had (event.Piece [] ∷ rest) = 1
reads_in ends had (event.Piece (b ∷ bs) ∷ rest) =
    if nat_lt (DELIVERY_LIMIT - length had) (length (b ∷ bs)) then 1
    else (if ends (had ++ b ∷ bs) then 1
    else (if nat_le DELIVERY_LIMIT (length (had ++ b ∷ bs)) then 1
    else reads_in ends (had ++ b ∷ bs) rest + 1))

-- the bytes of a delivery that stands at the front of a buffer, with its length
abbrev pub bytes_read : {A : Type 0} → Result (ℕ × A) EndFault → List ℕ → Result (List ℕ) EndFault
bytes_read (Ok found) buf = Ok (take found.0 buf)
bytes_read (Err fault) buf = Err fault
