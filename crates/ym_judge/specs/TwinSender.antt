-- The reference's sender: where it stands behind a delivery, by its table.
use Rattle.std.specs.Prelude.{◌≡◌, ◌≢◌, ◌<◌, ℕ, List}
use Rattle.ym_core.specs.Position.{IsPosition}
use Rattle.ym_core.specs.Scan.{controls_in}
use Rattle.ym_core.specs.Standing as table
use Rattle.ym_core.specs.declared.standing.Standing.{Standing}
use Rattle.ym_core.specs.declared.state.SendState.TheVariants.{Running, Finished}
use Rattle.ym_machine.specs.declared.limits.TheConstants.{GIVE_UP}

-- in how many data blocks each file is sent, and where the sender stands
pub record TwinParts : Type 0 where
  pub blocks : List ℕ
  pub standing : Standing

pub record IsTwin (t : TwinParts) : Type 0 where
  pub position : IsPosition t.blocks t.standing.position
  pub retries : t.standing.state ≡ Running → t.standing.retries < GIVE_UP

abbrev pub new_at : List ℕ → TwinParts
new_at counts = record { blocks = counts; standing = table.new_standing counts }

abbrev pub hears_on : TwinParts → List ℕ → TwinParts
hears_on t bytes = record t {
  standing = (table.hears t.blocks t.standing (controls_in bytes)).standing;
}

abbrev pub HasEnded : Standing → Type 0
HasEnded standing = standing.state ≢ Running

abbrev pub HasFinished : Standing → Type 0
HasFinished standing = standing.state ≡ Finished
