-- A session over a carrier in memory that is new.
use Rattle.std.proofs.Common.{refl}
use Rattle.ym_command.proofs.program.play.Goals as goal

pub returns : goal.returns
returns g c =
    let it = c.session_over.ensures in (
      c.session_over.result,
      refl,
      record {
        new_told = _;
        carries_failed = _;
        ends = rw c.new-carrier.ensures at it.ends;
        failed = rw c.new-carrier.ensures at it.failed;
        within = it.within;
        small = it.status;
      },
    )
