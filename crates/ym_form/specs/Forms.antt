-- What the body of a block 0, or of an end block, is beside the fields that are read from it: what
-- the profile writes of them, in a short block or in a long one, or what else it has.
use Rattle.std.specs.Prelude.{◌≡◌, ℕ, ◌==◌, Bool, true, false, not, nat_le, if◌then◌else◌, List, ◌++◌, Option, Some, None, Result, Ok, Err, length, take, drop, replicate, position, codes}
use Rattle.std.specs.List.{list_all}
use Rattle.std.specs.Str.{bytes_eq}
use Rattle.ym_core.specs.declared.delivery.Heard.{Heard}
use Rattle.ym_core.specs.declared.delivery.Heard.TheVariants as heard
use Rattle.ym_form.specs.declared.form.BlockForm.{BlockForm}
use Rattle.ym_form.specs.declared.form.BlockForm.TheVariants.{Fields, OtherLength, TypedMode, More, Unread}
use Rattle.ym_frame.specs.declared.frame.Item.TheVariants as item
use Rattle.ym_header.specs.Header.{HeaderParts, length_limit}
use Rattle.ym_header.specs.HeaderReading.{IsBorrowedAnswer}
use Rattle.ym_header.specs.Split.{is_zero}
use Rattle.ym_header.specs.Text.{text}
use Rattle.ym_header.specs.declared.fault.HeaderFault.{HeaderFault}
use Rattle.ym_header.specs.declared.reading.ZeroRef.{ZeroRef}
use Rattle.ym_header.specs.declared.reading.ZeroRef.TheVariants as zero
use Rattle.ym_header.specs.declared.stamp.Stamp.{Stamp}
use Rattle.ym_header.specs.declared.stamp.Stamp.TheVariants as stamp

-- a mode that tells more than permissions: the file's type
abbrev pub is_typed : Stamp → Bool
is_typed stamp.Nothing = false
is_typed (stamp.Time time) = false
is_typed (stamp.TimeMode time mode) = not (nat_le mode 4095)

-- a text, and what is left behind it of a long block of 00, up to the end of a block of this size
abbrev pub in_block : ℕ → List ℕ → List ℕ
in_block size text = take size (text ++ drop (length text) (replicate 1024 0))

abbrev pub is_bare : List ℕ → List ℕ → Bool
is_bare body text = bytes_eq body (in_block (length body) text)

abbrev pub form_by : Bool → BlockForm
form_by true = Fields
form_by false = More

-- a block 0 beside the header that is read from it, where the file has so many bytes
abbrev pub file_form : ℕ → List ℕ → HeaderParts → BlockForm
file_form size body h =
    if not (h.length == size) then OtherLength else
    if is_typed h.stamp then TypedMode else
    form_by (is_bare body (text h))

-- the same of what is read, whatever that is; an end block is 00 alone
abbrev pub form_of : ℕ → List ℕ → Result ZeroRef HeaderFault → BlockForm
form_of size body (Ok (zero.File h)) = file_form size body h
form_of size body (Ok zero.End) = form_by (list_all is_zero body)
form_of size body (Err fault) = Unread

pub record IsForm (size : ℕ) (body : List ℕ) (form : BlockForm) : Type 0 where
  pub fields : Result ZeroRef HeaderFault
  pub read : IsBorrowedAnswer length_limit body fields
  pub form_is : form ≡ form_of size body fields

-- the same of the block with which a delivery begins
abbrev pub IsFormIn : ℕ → Heard → BlockForm → Type 0
IsFormIn size (heard.Item (item.Block block)) form = IsForm size block.body form
IsFormIn size (heard.Item item.Eot) form = form ≡ Unread
IsFormIn size (heard.Item item.Cancel) form = form ≡ Unread
IsFormIn size heard.Bad form = form ≡ Unread

-- a number is there, and is this one
abbrev pub is_some_of : ℕ → Option ℕ → Bool
is_some_of count None = false
is_some_of count (Some found) = found == count

-- the name of the block has so many bytes: it ends at the first 00
abbrev pub name_is : ℕ → Heard → Bool
name_is count (heard.Item (item.Block block)) = is_some_of count (position is_zero block.body)
name_is count (heard.Item item.Eot) = false
name_is count (heard.Item item.Cancel) = false
name_is count heard.Bad = false

abbrev pub form_text : BlockForm → List ℕ
form_text Fields = codes "its fields alone"
form_text OtherLength = codes "another length"
form_text TypedMode = codes "the file's type in the mode"
form_text More = codes "other bytes behind its fields"
form_text Unread = codes "fields that cannot be read"
