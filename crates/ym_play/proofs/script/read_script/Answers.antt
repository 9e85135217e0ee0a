use Rattle.std.proofs.Common.{rules, ◌≡◌, length, true, nat_le, refl}
use Rattle.std.proofs.lemmas.Str.{is_utf8-from_IsUtf8}
use Rattle.ym_play.proofs.ScriptLemmas.{no_text}
use Rattle.ym_play.specs.declared.limits.TheConstants.{MOST_SCRIPT_BYTES}
use Rattle.ym_play.proofs.script.read_script.Goals as goal

pub returns-in-Ok : goal.returns-in-Ok
returns-in-Ok c =
    let short : nat_le (length c.args.bytes.now) MOST_SCRIPT_BYTES ≡ true = search rules in
    let cases = c.in-Ok.ensures.cases in
    rw (short, is_utf8-from_IsUtf8 c.args.bytes.now cases.1) (rw (cases.0) at c.read_lines.ensures)

pub returns-in-Err : goal.returns-in-Err
returns-in-Err c =
    let short : nat_le (length c.args.bytes.now) MOST_SCRIPT_BYTES ≡ true = search rules in
    let cases = c.in-Err.ensures.cases in
    rw (c.at-in-Err.ensures, short, no_text c.args.bytes.now cases.0) refl
