-- Which frames of a sender a case looks at: a block 0 or an end block, or a block 0 of a long name.
use Rattle.std.specs.Prelude.{◌≡◌, Bool, true, false}
use Rattle.ym_core.specs.declared.delivery.Heard.{Heard}
use Rattle.ym_form.specs.Forms.{IsFormIn, name_is}
use Rattle.ym_form.specs.declared.form.BlockForm.{BlockForm}
use Rattle.ym_form.specs.declared.form.BlockForm.TheVariants.{Fields}
use Rattle.ym_judge.specs.declared.act.Act.{Act}
use Rattle.ym_judge.specs.declared.act.Act.TheVariants.{Header, End, Form}
use Rattle.ym_judge.specs.declared.case.Case.{Case}
use Rattle.ym_judge.specs.declared.case.Case.TheVariants as case
use Rattle.ym_judge.specs.declared.parcel.Parcel.TheVariants as parcel
use Rattle.ym_judge.specs.declared.spot.Spot.TheVariants as spot
use Rattle.ym_judging.specs.declared.looks.Look.{Look}

abbrev pub looks_at : Case → Act → Heard → Bool
looks_at (case.Bytes spot.Header) Header heard = true
looks_at (case.Bytes spot.End) End heard = true
looks_at (case.Sends parcel.LongName) Header heard = name_is 124 heard
looks_at case act heard = false

-- The forms of the frame are noted: it is to have its fields alone, and it has what it has, where
-- the file has 1100 bytes.
pub record IsFormLook (heard : Heard) (it : Look) : Type 0 where
  pub asked : it.asked ≡ Form Fields
  pub form : BlockForm
  pub form_is : IsFormIn 1100 heard form
  pub did : it.did ≡ Form form
  pub is_form : it.is_form ≡ true

-- what was asked for and done is noted
pub record IsActLook (asked did : Act) (it : Look) : Type 0 where
  pub asked_is : it.asked ≡ asked
  pub did_is : it.did ≡ did
  pub is_form : it.is_form ≡ false
