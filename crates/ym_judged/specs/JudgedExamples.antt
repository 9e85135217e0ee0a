-- Reports of known cases.
use Rattle.std.specs.Prelude.{◌≡◌, ◌++◌, true, false, [], ◌∷◌, codes, refl}
use Rattle.std.specs.Fmt.{digits}
use Rattle.ym_judge.specs.declared.act.Act.TheVariants as act
use Rattle.ym_judge.specs.declared.case.Case.TheVariants as case
use Rattle.ym_judge.specs.declared.finding.Finding.TheVariants.{Conforms, Differs, Loses}
use Rattle.ym_judge.specs.declared.report.Tried.{Tried}
use Rattle.ym_judge.specs.declared.spot.Spot.TheVariants as spot
use Rattle.ym_judge.specs.declared.twist.Twist.TheVariants as twist
use Rattle.ym_judged.specs.Judged.{report_text}

abbrev pub plain : Tried
plain = record {
  case = case.Plain;
  asked = act.Header;
  did = act.Header;
  tenths = 12;
  finding = Conforms;
  finished = true;
  takes_back = false;
}

abbrev pub lost : Tried
lost = record {
  case = case.Answer spot.First twist.Lost;
  asked = act.Block 1;
  did = act.Block 2;
  tenths = 0;
  finding = Loses;
  finished = true;
  takes_back = false;
}

-- two cases of a sender, of which one is to be avoided
for_people : report_text false (plain ∷ lost ∷ [])
    ≡ codes "plain: asks for block 0; did block 0 after 1.2 s: conforms\n"
    ++ (codes "answer to data block 1: lost: asks for data block 1; "
    ++ (codes "did data block 2 after 0.0 s: loses data\n"
    ++ (codes "avoid answer to data block 1: lost: it loses data\n"
    ++ codes "1 conform, 0 differ (harmless), 1 lose data, 0 left open\n")))
unfolding digits
for_people = refl

-- for machines nothing stands behind the cases
abbrev pub early : Tried
early = record {
  case = case.Plain;
  asked = act.Header;
  did = act.Eot;
  tenths = 0;
  finding = Differs;
  finished = true;
  takes_back = false;
}

for_machines : report_text true (early ∷ [])
    ≡ codes "{\"case\":\"plain\",\"asks\":\"block 0\",\"did\":\"EOT\","
    ++ codes "\"seconds\":0.0,\"finding\":\"differs\",\"finished\":true,\"takes_back\":false}\n"
unfolding digits
for_machines = refl
