-- What a call that asks a source once leaves of it (this profile's choice).
use Rattle.std.specs.Prelude.{◌≡◌, ℕ, List, Option, Result, OnOk, OnErr}
use Rattle.ym_file.specs.Counts.{Counted, raised}
use Rattle.ym_file.specs.declared.source.SourceFault.{SourceFault}

-- The source has the file that it had, and counts one fill more. Where the call failed its failure
-- count rose, and else that stays.
pub record AskedOnce {A S : Type 0} (size : S → ℕ) (bytes : S → Option (List ℕ))
    (fills failures : S → ℕ) (old : S) (result : Result A SourceFault) (new : S) : Type 0 where
  pub size_stays : size new ≡ size old
  pub bytes_stay : bytes new ≡ bytes old
  pub counted : fills new ≡ raised (fills old)
  pub ok : OnOk result (failures new ≡ failures old)
  pub failed : OnErr result (Counted (failures old) (failures new))
