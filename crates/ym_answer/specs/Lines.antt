-- The lines of `send` and `receive`, without their ends, in the words of a trace.
use Rattle.std.specs.Prelude.{ℕ, List, [], ◌∷◌, ◌++◌, length, Option, Some, None, codes, decimal}
use Rattle.ym_header.specs.Header.{HeaderParts}
use Rattle.ym_header.specs.Text.{octal}
use Rattle.ym_header.specs.declared.stamp.Stamp.{Stamp}
use Rattle.ym_header.specs.declared.stamp.Stamp.TheVariants as stamp
use Rattle.ym_line.specs.TraceText.{sender_words, receiver_words}
use Rattle.ym_core.specs.declared.state.RecvState.{RecvState}
use Rattle.ym_core.specs.declared.state.SendState.{SendState}

-- a number in octal, or `-` where it was not given
abbrev pub octal_words : Option ℕ → List ℕ
octal_words None = codes "-"
octal_words (Some number) = octal number

abbrev pub time_in : Stamp → Option ℕ
time_in stamp.Nothing = None
time_in (stamp.Time time) = Some time
time_in (stamp.TimeMode time mode) = Some time

abbrev pub mode_in : Stamp → Option ℕ
mode_in stamp.Nothing = None
mode_in (stamp.Time time) = None
mode_in (stamp.TimeMode time mode) = Some mode

abbrev pub file_words : HeaderParts → List ℕ
file_words h =
    codes "file " ++ (h.name ++ (codes " " ++ (decimal h.length ++ (codes " "
    ++ (octal_words (time_in h.stamp) ++ (codes " " ++ octal_words (mode_in h.stamp)))))))

-- ---- With their ends

abbrev pub line : List ℕ → List ℕ
line words = words ++ 10 ∷ []

abbrev pub sender_line : ℕ → SendState → List ℕ
sender_line done state = line (sender_words done state)

-- a line for each file
abbrev pub file_lines : List HeaderParts → List ℕ
file_lines [] = []
file_lines (h ∷ more) = line (file_words h) ++ file_lines more

-- and one for the receiver
abbrev pub receiver_lines : List HeaderParts → RecvState → List ℕ
receiver_lines headers state = file_lines headers ++ line (receiver_words (length headers) state)
