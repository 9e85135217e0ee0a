-- What a block 0 announces of its file.
use Rattle.std.specs.Prelude.{◌≡◌, ℕ, ◌==◌, nat_le, ◌&&◌, Bool, true, false, if◌then◌else◌, List, [], ◌∷◌, ◌++◌, length, Result, Ok, Err, codes, decimal}
use Rattle.std.specs.List.{list_all}
use Rattle.ym_frame.specs.Frame.{verdict_of}
use Rattle.ym_frame.specs.declared.frame.Broken.{Broken}
use Rattle.ym_frame.specs.declared.frame.Item.{Item}
use Rattle.ym_frame.specs.declared.frame.Item.TheVariants.{Block, Eot, Cancel}
use Rattle.ym_header.specs.Header.{length_limit}
use Rattle.ym_header.specs.HeaderReading.{Reads, IsFault}
use Rattle.ym_header.specs.declared.reading.Zero.TheVariants.{File, End}
use Rattle.ym_header.specs.declared.fault.HeaderFault.{HeaderFault}
use Rattle.ym_header.specs.declared.fault.HeaderFault.TheVariants.{NameEmpty, NameLong, NameUnsafe, NoLength, LengthLarge, Memory}
use Rattle.ym_explain.specs.declared.sent.SentLine.{SentLine}
use Rattle.ym_explain.specs.declared.sent.SentLine.TheVariants as line
use Rattle.ym_explain.specs.declared.told.FrameKind.{FrameKind}
use Rattle.ym_explain.specs.declared.told.FrameKind.TheVariants as kind
use Rattle.ym_told.specs.declared.prefix.BufferedPrefix.{BufferedPrefix}
use Rattle.ym_told.specs.declared.prefix.BufferedPrefix.TheVariants as prefix
use Rattle.ym_told.specs.declared.stated.Announced.{Announced}
use Rattle.ym_told.specs.declared.stated.Announced.TheVariants as announced
use Rattle.ym_told.specs.declared.stated.Stated.{Stated}
use Rattle.ym_told.specs.declared.stated.Stated.TheVariants as stated

-- a block 0 may have a name alone; where there was no room for more, its length was lost
abbrev pub stated_unread : HeaderFault → Bool → Stated
stated_unread NoLength true = stated.NoRoom
stated_unread NoLength false = stated.Nothing
stated_unread NameEmpty crammed = stated.Nothing
stated_unread NameLong crammed = stated.Nothing
stated_unread NameUnsafe crammed = stated.Nothing
stated_unread LengthLarge crammed = stated.Nothing
stated_unread Memory crammed = stated.Nothing

abbrev pub stated_file : ℕ → Bool → Stated
stated_file length true = stated.NoRoom
stated_file length false = stated.Length length

-- A length that fills block 0 to its end may have been cut there.
abbrev pub stated_by : Announced → Stated
stated_by (announced.File header full) = stated_file header.length full
stated_by (announced.Unread fault crammed) = stated_unread fault crammed
stated_by announced.Nothing = stated.Nothing

abbrev pub unread_words : HeaderFault → List ℕ
unread_words NoLength = codes "  a file with no length behind its name" ++ 10 ∷ []
unread_words LengthLarge = codes "  a file with a length that is too large" ++ 10 ∷ []
unread_words NameEmpty = codes "  a file with a name that no file may have" ++ 10 ∷ []
unread_words NameLong = codes "  a file with a name that no file may have" ++ 10 ∷ []
unread_words NameUnsafe = codes "  a file with a name that no file may have" ++ 10 ∷ []
unread_words Memory = codes "  a file with a name that no file may have" ++ 10 ∷ []

-- the line that tells it, with its end
abbrev pub announced_words : Announced → List ℕ
announced_words (announced.File header full) =
    codes "  file " ++ (header.name ++ (codes ", " ++ (decimal header.length
    ++ (codes " bytes" ++ 10 ∷ []))))
announced_words (announced.Unread fault crammed) = unread_words fault
announced_words announced.Nothing = []

abbrev pub is_digit : ℕ → Bool
is_digit byte = nat_le 0x30 byte && nat_le byte 0x39

-- what stands behind the name and its 00
abbrev pub after_name : List ℕ → List ℕ
after_name [] = []
after_name (byte ∷ more) = if byte == 0 then more else after_name more

-- digits to the end
abbrev pub fills : List ℕ → Bool
fills rest = list_all is_digit rest

-- Two bytes and fewer are no room for a length. A digit and its 00 would fit, but into the last two
-- of 128 bytes `sb` writes a count of blocks.
abbrev pub is_crammed : List ℕ → Bool
is_crammed rest = nat_le (length rest) 2

-- what a body announces is what it stands for
abbrev pub IsFileOf : List ℕ → Announced → Type 0
IsFileOf body (announced.File header full) =
    Reads length_limit body (File header) × (full ≡ fills (after_name body))
IsFileOf body (announced.Unread fault crammed) =
    IsFault length_limit body fault × (crammed ≡ is_crammed (after_name body))
IsFileOf body announced.Nothing = Reads length_limit body End

abbrev pub IsFileInItem : Item → Announced → Type 0
IsFileInItem (Block b) file = IsFileOf b.body file
IsFileInItem Eot file = file ≡ announced.Nothing
IsFileInItem Cancel file = file ≡ announced.Nothing

abbrev pub IsFileIn : Result (Item × ℕ) Broken → Announced → Type 0
IsFileIn (Ok found) file = IsFileInItem found.0 file
IsFileIn (Err broken) file = file ≡ announced.Nothing

abbrev pub is_name : FrameKind → Bool
is_name kind.Name = true
is_name kind = false

abbrev pub names_in : SentLine → Bool
names_in (line.Frame whole kind) = is_name kind
names_in (line.Damage broken short) = false
names_in line.Junk = false

-- the front is the block 0 of a file
abbrev pub names_file : BufferedPrefix → Bool
names_file (prefix.Sent told) = names_in told.line
names_file (prefix.Run used) = false
names_file prefix.Zmodem = false
names_file (prefix.Cut used) = false
names_file (prefix.Answer line) = false

abbrev pub IsAnnouncedIf : Bool → List ℕ → Announced → Type 0
IsAnnouncedIf true bytes file = IsFileIn (verdict_of bytes) file
IsAnnouncedIf false bytes file = file ≡ announced.Nothing

-- a front announces the file of its block 0, and any other announces none
abbrev pub IsAnnounced : BufferedPrefix → List ℕ → Announced → Type 0
IsAnnounced prefix bytes file = IsAnnouncedIf (names_file prefix) bytes file
