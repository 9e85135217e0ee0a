-- What a sender tells of its files: by the next file's block 0, and by the end block, it takes
-- those that it began before for done. A block 0 before an EOT is the same one once more.
use Rattle.std.specs.Prelude.{◌+◌, ◌-◌, ◌^◌, Bool, true, false, min}
use Rattle.ym_judge.specs.declared.act.Act.{Act}
use Rattle.ym_judge.specs.declared.act.Act.TheVariants.{Nothing, Header, Block, Eot, End, Cancel, Noise, Answer, Answers, Form}
use Rattle.ym_judge.specs.declared.claims.Claims.{Claims}

abbrev pub no_claims : Claims
no_claims = record { begun = 0; told = 0; ended = true }

abbrev pub begins : Bool → Claims → Claims
begins true it = record { begun = min (it.begun + 1) (2 ^ 64 - 1); told = it.begun; ended = false }
begins false it = it

abbrev pub claims_behind : Act → Claims → Claims
claims_behind Header it = begins it.ended it
claims_behind Eot it = record it { ended = true }
claims_behind End it = record it { told = it.begun }
claims_behind Nothing it = it
claims_behind (Block number) it = it
claims_behind Cancel it = it
claims_behind Noise it = it
claims_behind (Answer reply) it = it
claims_behind (Answers first second) it = it
claims_behind (Form form) it = it
