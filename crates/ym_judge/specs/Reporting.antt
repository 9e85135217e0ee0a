-- What a user has to avoid, and how cases are counted.
use Rattle.std.specs.Prelude.{◌≡◌, ◌⊎◌, ℕ, ◌+◌, ◌-◌, ◌^◌, false, min}
use Rattle.ym_judge.specs.declared.finding.Finding.{Finding}
use Rattle.ym_judge.specs.declared.finding.Finding.TheVariants.{Conforms, Differs, Loses, NoAnswer, NotTried}
use Rattle.ym_judge.specs.declared.report.Sums.{Sums}
use Rattle.ym_judge.specs.declared.report.Tried.{Tried}

-- data is lost, nothing is answered, or the session does not come to its end
abbrev pub IsToAvoid : Tried → Type 0
IsToAvoid it =
    (it.finding ≡ Loses) ⊎ (it.finding ≡ NoAnswer)
    ⊎ ((it.finding ≡ Differs) × (it.finished ≡ false))

abbrev pub no_sums : Sums
no_sums = record { conform = 0; differ = 0; lose = 0; left = 0 }

-- one more, up to the greatest number
abbrev pub more : ℕ → ℕ
more count = min (count + 1) (2 ^ 64 - 1)

abbrev pub counted : Finding → Sums → Sums
counted Conforms it = record it { conform = more it.conform }
counted Differs it = record it { differ = more it.differ }
counted Loses it = record it { lose = more it.lose }
counted NoAnswer it = record it { left = more it.left }
counted NotTried it = record it { left = more it.left }
