-- What stands at the front of some bytes, and headers, as C sees them.
use Rattle.std.specs.Prelude.{ℕ, ◌≡◌, ◌≤◌, ◌++◌, List, length, take, drop, Result, Ok, Err, ◌==◌, if◌then◌else◌}
use Rattle.ym_frame.specs.Frame.{verdict_of, is_cut}
use Rattle.ym_frame.specs.Pieces.{Scan, partial, rejected}
use Rattle.ym_frame.specs.declared.frame.Item.{Item}
use Rattle.ym_frame.specs.declared.frame.Item.TheVariants.{Block, Eot, Cancel}
use Rattle.ym_frame.specs.declared.frame.Broken.{Broken}
use Rattle.ym_frame.specs.declared.frame.Why.{Why}
use Rattle.ym_frame.specs.declared.frame.Why.TheVariants.{FirstByte, Complement, Check, SecondCan, Cut}
use Rattle.ym_header.specs.declared.stamp.Stamp.{Stamp}
use Rattle.ym_header.specs.declared.stamp.Stamp.TheVariants.{Nothing, Time, TimeMode}
use Rattle.ym_c.specs.Feeding.{Feeds}
use Rattle.ym_c.specs.declared.frames.YmFront.{YmFront}
use Rattle.ym_c.specs.declared.reader.YmReader.{YmReader}

-- a frame of so many bytes, or none yet (0), or none at all (4)
abbrev pub IsFront : Result (Item × ℕ) Broken → YmFront → Type 0
IsFront (Ok (Block b, len)) f =
    (f.kind ≡ 1) × (f.length ≡ len) × (f.number ≡ b.number) × (f.size ≡ length b.body)
IsFront (Ok (Eot, len)) f = (f.kind ≡ 2) × (f.length ≡ len)
IsFront (Ok (Cancel, len)) f = (f.kind ≡ 3) × (f.length ≡ len)
IsFront (Err broken) f = (f.kind ≡ (if is_cut broken.why then 0 else 4)) × (f.length ≡ broken.place)

-- the stamp of these numbers: 0 none, 1 the time, any other the time and the mode
abbrev pub stamp_of : ℕ → ℕ → ℕ → Stamp
stamp_of kind time mode =
    if kind == 0 then Nothing else
    (if kind == 1 then Time time else TimeMode time mode)

-- ---- A reader of frames in pieces

abbrev pub why_code : Why → ℕ
why_code FirstByte = 1
why_code Complement = 2
why_code Check = 3
why_code SecondCan = 4
why_code Cut = 5

-- the numbers and bytes are those of this scan
abbrev pub KeepsScan : YmReader → Scan → Type 0
KeepsScan r (partial held) = (r.why ≡ 0) × (r.len ≤ 1029) × (take r.len r.held ≡ held)
KeepsScan r (rejected broken) = (r.why ≡ why_code broken.why) × (r.place ≡ broken.place)

-- how many bytes of a piece are taken: none behind a frame; where no frame can come any more, all
abbrev pub Takes : Scan → List ℕ → ℕ → Type 0
Takes (partial held) piece used = Feeds held piece used
Takes (rejected broken) piece used = used ≡ length piece

-- what is told of the bytes held; the body of a block stands behind their first three
abbrev pub IsFound : Result (Item × ℕ) Broken → YmFront → List ℕ → Type 0
IsFound (Ok (Block b, len)) f held =
    IsFront (Ok (Block b, len)) f × (take f.size (drop 3 held) ≡ b.body)
IsFound other f held = IsFront other f

abbrev pub IsRead : Scan → List ℕ → YmFront → List ℕ → Type 0
IsRead (partial before) piece f held = IsFound (verdict_of (before ++ piece)) f held
IsRead (rejected broken) piece f held = (f.kind ≡ 4) × (f.length ≡ broken.place)
