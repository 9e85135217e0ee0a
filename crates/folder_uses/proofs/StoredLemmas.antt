-- The name of a file that was stored in a folder of which it is known what stands in it.
use Rattle.std.proofs.Common.{◌≡◌, ℕ, List, Option, None, Some, IfSome, sym, ◌∙◌, ap}
use Rattle.std.specs.Io.KnownBytes.{append_known}
use Rattle.ym_header.specs.Header.{HeaderParts}
use Rattle.ym_folder.specs.Folder.{FolderParts, empty_in}
use Rattle.ym_folder.specs.DirSink.{DirSinkParts, stands, put, IsStored}

at_name : (o : Option HeaderParts) (header : HeaderParts) (sink : DirSinkParts) (bytes : List ℕ) → o ≡ Some header
    → IfSome o (λ h. stands sink h.name ≡ Some bytes) → stands sink header.name ≡ Some bytes
at_name None header sink bytes is there = cc
at_name (Some h) header sink bytes is there = cc

all_bytes : (known : FolderParts) (bytes : List ℕ) (o : Option FolderParts) (p q : Option (List ℕ)) → Some known ≡ o → p ≡ empty_in o → q ≡ append_known p bytes → q ≡ Some bytes
unfolding empty_in
all_bytes known bytes o p q is empty all = all ∙ ap (λ r. append_known r bytes) (empty ∙ ap empty_in (sym is))

pub whole_name : (known : FolderParts) (header : HeaderParts) (bytes : List ℕ) (begun added stored : DirSinkParts) → Some known ≡ begun.folder
    → put begun ≡ empty_in begun.folder → put added ≡ append_known (put begun) bytes → added.opened ≡ Some header → IsStored added stored
    → stands stored header.name ≡ Some bytes
whole_name known header bytes begun added stored is empty all opened stores =
    at_name added.opened header stored bytes opened (stores.whole bytes (all_bytes known bytes begun.folder (put begun) (put added) is empty all))
