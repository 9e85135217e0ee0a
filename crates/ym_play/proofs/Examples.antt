-- The definitions, computed on scripts that are written out.
use Rattle.std.proofs.Common.{◌≡◌, ℕ, List, [], ◌∷◌, Some, Result, Ok, Err, codes, refl, true, rules}
use Rattle.hex.specs.Hex.{decode_pairs}
use Rattle.ym_header.specs.declared.stamp.Stamp.TheVariants as stamp
use Rattle.ym_file.specs.declared.plan.Shape.TheVariants as shape
use Rattle.ym_machine.specs.declared.confirm.Confirm.TheVariants as confirm
use Rattle.ym_line.specs.declared.delivery.Delivery.TheVariants as line
use Rattle.ym_play.specs.Command.{File, TimeMode, command_of}
use Rattle.ym_play.specs.Value.{bytes_at, stamp_at}
use Rattle.ym_play.specs.Words.{words_of}
use Rattle.ym_play.specs.Script.{ScriptParts, empty, lines_of, lines_read, whole_round}
use Rattle.ym_play.specs.declared.fault.ScriptWhy.{ScriptWhy}
use Rattle.ym_play.specs.declared.fault.ScriptWhy.TheVariants as why
use Rattle.std.specs.Str.{is_utf8}
use Rattle.std.proofs.lemmas.Str.{is_utf8-from_IsUtf8, IsUtf8-from_ascii}
use Rattle.std.proofs.lemmas.Str.Ascii.{IsAscii-cons, IsAscii-nil}

-- what the lines of a text make of the script of none
abbrev lines_script : List ℕ → Result ScriptParts (ℕ × ScriptWhy)
lines_script text = lines_read 1 empty (lines_of text)

utf8_path : is_utf8 (codes "a/b") ≡ true
utf8_path = is_utf8-from_IsUtf8 _ (IsUtf8-from_ascii _ (search (rules, IsAscii-cons, IsAscii-nil)))

no_script : lines_script [] ≡ Ok (record { batch = []; shape = shape.Mixed; confirm = confirm.Twice; rounds = [] })
unfolding words_of lines_of lines_read
no_script = refl

some_rounds : lines_script (codes "single\nshort\n\nok 02\nround hex:04 lost") ≡ Ok (record {
  batch = [];
  shape = shape.Short;
  confirm = confirm.Once;
  rounds = whole_round ∷ whole_round ∷ record { there = line.Damaged (4 ∷ []); back = line.Lost } ∷ [];
})
unfolding words_of lines_of lines_read decode_pairs
some_rounds = refl

a_file : command_of (codes "file a 4A4b 14 644") ≡ Some (File (codes "a") (codes "4A4b") (TimeMode (codes "14") (codes "644")))
unfolding words_of
a_file = refl

its_bytes : bytes_at (codes "4A4b") ≡ Ok (0x4a ∷ 0x4b ∷ [])
unfolding decode_pairs
its_bytes = refl

its_stamp : stamp_at (TimeMode (codes "14") (codes "644")) ≡ Ok (stamp.TimeMode 12 420)
its_stamp = refl

not_a_command : lines_script (codes "foo\n") ≡ Err (1, why.NotCommand)
unfolding words_of lines_of lines_read
not_a_command = refl

too_late : lines_script (codes "ok 1\nshort\n") ≡ Err (2, why.Late)
unfolding words_of lines_of lines_read
too_late = refl

bad_number : lines_script (codes "ok 0\n") ≡ Err (1, why.Number)
unfolding words_of lines_of lines_read
bad_number = refl

bad_hex : lines_script (codes "file a 4\n") ≡ Err (1, why.Hex)
unfolding words_of lines_of lines_read decode_pairs
bad_hex = refl

bad_stamp : lines_script (codes "file a - 8\n") ≡ Err (1, why.Stamp)
unfolding words_of lines_of lines_read
bad_stamp = refl

bad_name : lines_script (codes "file a/b -\n") ≡ Err (1, why.Name)
unfolding words_of lines_of lines_read
bad_name = rw utf8_path refl

-- a line's first fault in order: a word too many, then the place, then the digits
first_faults : (lines_script (codes "ok 1\nshort x\n") ≡ Err (2, why.NotCommand)) × (lines_script (codes "ok 1\nfile a/b 4 8\n") ≡ Err (2, why.Late))
    × (lines_script (codes "file a/b 4 8\n") ≡ Err (1, why.Hex))
unfolding words_of lines_of lines_read decode_pairs
first_faults = (refl, refl, refl)
