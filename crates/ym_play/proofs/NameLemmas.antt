-- The test of a name, and the files that a header refuses.
use Rattle.std.proofs.Common.{◌≡◌, ◌≢◌, ◌<◌, ◌≤◌, ◌^◌, ◌&&◌, ◌==◌, ℕ, not, List, length, refl, arith, nat_le, Some, Ok, Err, sym, ap, codes, All}
use Rattle.std.specs.Bool.{Decides}
use Rattle.std.specs.List.{list_all}
use Rattle.std.specs.Str.{is_utf8, bytes_eq}
use Rattle.std.proofs.lemmas.Bool.{leb-true, le-leb, false_from_ne_true}
use Rattle.std.proofs.lemmas.Bool.Decides.{Decides-and, Decides-not, Decides-like, Decides-by_and, Decides-eqb, Decides-ltb}
use Rattle.std.proofs.lemmas.Slice.Eq.{bytes_eq-Decides}
use Rattle.ym_header.specs.Header.{IsHeader, IsName, IsRefused, length_limit}
use Rattle.ym_header.specs.declared.fault.HeaderFault.{HeaderFault}
use Rattle.ym_header.specs.declared.fault.HeaderFault.TheVariants as header
use Rattle.ym_header.specs.declared.limits.TheConstants.{MOST_NAME_BYTES}
use Rattle.ym_header.specs.declared.stamp.Stamp.{Stamp}
use Rattle.ym_file.specs.SourceFile.{FileParts}
use Rattle.ym_play.specs.Command.{StampWords}
use Rattle.ym_play.specs.PlayFault.{IsRefusal, refusal_of}
use Rattle.ym_play.specs.Value.{bytes_at, stamp_at}
use Rattle.ym_play.specs.Script.{is_name, named_file, file_at}
use Rattle.ym_play.specs.declared.fault.ScriptWhy.TheVariants as why

-- what the tests of a name decide
safe_byte : (b : ℕ) → Decides (nat_le 0x20 b && not (b == 0x2f)) ((0x20 ≤ b) × (b ≢ 0x2f))
safe_byte b = Decides-and _ _ (leb-true 0x20 b, le-leb 0x20 b) (Decides-not (b == 0x2f) (Decides-eqb b 0x2f))

safe_bytes : (name : List ℕ) → Decides (list_all (λ b. nat_le 0x20 b && not (b == 0x2f)) name) (All (λ b. (0x20 ≤ b) × (b ≢ 0x2f)) name)
safe_bytes name = Decides-by_and _ _ (list_all (λ b. nat_le 0x20 b && not (b == 0x2f))) safe_byte refl (λ x xs. refl) name

differ : (a b : List ℕ) → Decides (not (bytes_eq a b)) (a ≢ b)
differ a b = Decides-not (bytes_eq a b) (bytes_eq-Decides a b)

named : (name : List ℕ) → Decides (is_name name) (IsName name)
named name = Decides-like (is_name name)
    (λ h. record {
      some = h.0;
      short = h.1.0;
      safe = record { utf8 = h.1.1.0; bytes = h.1.1.1.0; not_here = h.1.1.1.1.0; not_above = h.1.1.1.1.1 };
    })
    (λ (h : IsName name). (h.some, (h.short, (h.safe.utf8, (h.safe.bytes, (h.safe.not_here, h.safe.not_above))))))
    (Decides-and _ _ (Decides-ltb 0 (length name)) (Decides-and _ _ (leb-true (length name) MOST_NAME_BYTES, le-leb (length name) MOST_NAME_BYTES)
    (Decides-and (is_utf8 name) _ (λ e. e, λ e. e) (Decides-and _ _ (safe_bytes name) (Decides-and _ _ (differ name (codes ".")) (differ name (codes "..")))))))

-- a file that a header takes is the one that its words write
pub file_written : (name text : List ℕ) (words : StampWords) (bytes : List ℕ) (stamp : Stamp) (file : FileParts) → bytes_at text ≡ Ok bytes → stamp_at words ≡ Ok stamp
    → file ≡ record { header = record { name = name; length = length bytes; stamp = stamp }; bytes = Some bytes; failures = 0; fills = 0 }
    → IsHeader length_limit file.header → file_at name text words ≡ Ok file
file_written name text words bytes stamp file e f made within =
    let fits : IsName name = rw (ap (λ (parts : FileParts). parts.header.name) made) at within.name in
    rw (e, f, (named name).1 fits) (ap Ok (sym made))

no_name : (name bytes : List ℕ) (stamp : Stamp) → (IsName name → ⊥) → named_file name bytes stamp ≡ Err why.Name
no_name name bytes stamp h = rw (false_from_ne_true (is_name name) (λ e. h ((named name).0 e))) refl

refusal_names : (name bytes : List ℕ) (stamp : Stamp) (fault : HeaderFault) → IsRefused length_limit name (length bytes) fault → length bytes < 2 ^ 63
    → IsRefusal (refusal_of fault) (named_file name bytes stamp)
refusal_names name bytes stamp header.NameEmpty h small = no_name name bytes stamp (λ fits. let some = fits.some in let e = ap length h in omega arith)
refusal_names name bytes stamp header.NameLong h small = no_name name bytes stamp (λ fits. let short = fits.short in omega arith)
refusal_names name bytes stamp header.NameUnsafe h small = no_name name bytes stamp (λ fits. h.2 fits.safe)
refusal_names name bytes stamp header.NoLength h small = absurd h
refusal_names name bytes stamp header.LengthLarge h small = absurd (let long = h.1 in omega arith)
refusal_names name bytes stamp header.Memory h small = tt

-- a file that a header refuses has a bad name, unless memory ran out
pub file_refused : (name text : List ℕ) (words : StampWords) (bytes : List ℕ) (stamp : Stamp) (fault : HeaderFault) → bytes_at text ≡ Ok bytes → stamp_at words ≡ Ok stamp
    → IsRefused length_limit name (length bytes) fault → length bytes < 2 ^ 63 → IsRefusal (refusal_of fault) (file_at name text words)
file_refused name text words bytes stamp fault e f h small = rw (e, f) (refusal_names name bytes stamp fault h small)
