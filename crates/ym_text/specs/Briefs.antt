-- How far a file is, in more or less detail.
use Rattle.std.specs.Prelude.{ℕ, Option, List, ◌++◌, codes, decimal}
use Rattle.ym_text.specs.Progress.{percent_of, left_of}
use Rattle.ym_text.specs.Progress.{progress_text, rate_text, left_text, repeats_text}
use Rattle.ym_text.specs.declared.progress.Detail.{Detail}
use Rattle.ym_text.specs.declared.progress.Detail.TheVariants as detail

abbrev pub brief_text : Detail → ℕ → ℕ → Option ℕ → ℕ → List ℕ
brief_text detail.All done length rate repeats = progress_text done length rate repeats
brief_text detail.NoBytes done length rate repeats =
    decimal (percent_of done length) ++ (codes "%"
    ++ (rate_text rate ++ (left_text (left_of done length rate) ++ repeats_text repeats)))
brief_text detail.NoRepeats done length rate repeats =
    decimal (percent_of done length) ++ (codes "%"
    ++ (rate_text rate ++ left_text (left_of done length rate)))
brief_text detail.NoLeft done length rate repeats =
    decimal (percent_of done length) ++ (codes "%" ++ rate_text rate)
brief_text detail.Percent done length rate repeats = decimal (percent_of done length) ++ codes "%"
