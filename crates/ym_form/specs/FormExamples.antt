-- Blocks of known senders, beside their fields.
use Rattle.std.specs.Prelude.{◌≡◌, ℕ, ◌-◌, List, ◌∷◌, ◌++◌, Ok, length, replicate, codes, refl}
use Rattle.std.specs.Fmt.{digits}
use Rattle.ym_form.specs.Forms.{file_form, form_of}
use Rattle.ym_form.specs.declared.form.BlockForm.TheVariants.{Fields, OtherLength, TypedMode, More}
use Rattle.ym_header.specs.Header.{HeaderParts}
use Rattle.ym_header.specs.Text.{text}
use Rattle.ym_header.specs.declared.reading.ZeroRef.TheVariants as zero
use Rattle.ym_header.specs.declared.stamp.Stamp.TheVariants.{Nothing, TimeMode}

-- these bytes, and 00 up to the end of a short block
abbrev pub short : List ℕ → List ℕ
short bytes = bytes ++ replicate (128 - length bytes) 0

-- "100644" of sb, in octal, has the type of a plain file above the permissions 644
abbrev pub by_sb : HeaderParts
by_sb = record { name = codes "a.txt"; length = 1100; stamp = TimeMode 1 33188 }

sb_header : file_form 1100 (short (codes "a.txt" ++ 0 ∷ codes "1100 1 100644 0 1 1100")) by_sb
    ≡ TypedMode
sb_header = refl

-- sb ends the batch by an empty name too, and has bytes behind it
sb_end : form_of 1100 (short (0 ∷ codes "0 0 0 0 1 0")) (Ok zero.End) ≡ More
sb_end = refl

blank_end : form_of 1100 (replicate 1024 0) (Ok zero.End) ≡ Fields
blank_end = refl

-- behind a name of 124 bytes a short block has room for three digits of the length 1100
abbrev pub cut : HeaderParts
cut = record { name = replicate 124 0x61; length = 110; stamp = Nothing }

cut_length : file_form 1100 (replicate 124 0x61 ++ 0 ∷ codes "110") cut ≡ OtherLength
cut_length = refl

-- a number of files that are left, behind the mode
abbrev pub plain : HeaderParts
plain = record { name = codes "a.txt"; length = 1100; stamp = TimeMode 1 420 }

left : file_form 1100 (short (codes "a.txt" ++ 0 ∷ codes "1100 1 644 0 1")) plain ≡ More
unfolding digits
left = refl

alone : file_form 1100 (short (codes "a.txt" ++ 0 ∷ codes "1100 1 644")) plain ≡ Fields
unfolding digits
alone = refl

-- the same in a long block, which is too long, and is filled as it has to be
long : file_form 1100 (text plain ++ replicate 896 0) plain ≡ Fields
unfolding digits
long = refl
