-- The files that the machine has committed, of a batch whose files are cut by a plan, are the first ones of that batch.
use Rattle.std.proofs.Common.{◌≡◌, ◌∙◌, ◌≤◌, ℕ, min, suc, List, [], ◌∷◌, length, map, take, Option, None, Some, IfSome, IsSome, All, refl, sym, ap, subst, arith}
use Rattle.std.proofs.lemmas.List.{length-map, length-take, take-map}
use Rattle.std.proofs.lemmas.Simd.{map-map}
use Rattle.ym_line.proofs.Names.{HeaderParts, IsHeader, length_limit, IsPieces, pieces_of, Shape, File, State, bytes_of, Batch, AllTold, batch_of, file_of, told_pieces, FileParts, IsFile, Pair, CommitsFirst}
use Rattle.ym_machine.specs.Frames.{IsPrefix}
use Rattle.ym_machine.specs.Machine.{committed, reported}
use Rattle.ym_line.specs.Promise.{CommitsAPrefix}

-- what the laws of a plan say
pub record PlanLaws : Type 0 where
  pub bytes : (shape : Shape) (header : HeaderParts) (bytes : List ℕ) (pieces : List (List ℕ)) →
      IsHeader length_limit header → header.length ≡ length bytes → IsPieces shape bytes pieces → bytes_of (record { header = header; pieces = pieces }) ≡ bytes
  pub pieces : (shape : Shape) (file : List ℕ) → IsPieces shape file (pieces_of shape file)

abbrev known : List ℕ → Option (List ℕ)
known bytes = Some bytes

source-bytes : PlanLaws → (shape : Shape) (count : ℕ) (header : HeaderParts) (bytes : Option (List ℕ)) → IsHeader length_limit header →
    IfSome bytes (λ all. length all ≡ header.length) → IsSome bytes → known (bytes_of (record { header = header; pieces = told_pieces shape count bytes })) ≡ bytes
source-bytes laws shape count header None within sized told = absurd (cc)
source-bytes laws shape count header (Some all) within sized told = ap known (laws.bytes shape header all (pieces_of shape all) within (sym sized) (laws.pieces shape all))

all-bytes : PlanLaws → (shape : Shape) (sources : List FileParts) → All IsFile sources → AllTold sources →
    map (λ f. known (bytes_of (file_of shape f))) sources ≡ map (λ (f : FileParts). f.bytes) sources
all-bytes laws shape [] files tells = refl
all-bytes laws shape (source ∷ sources) files tells =
    let file : IsFile source = files 0 source (omega arith) in
    let tell : IsSome source.bytes = tells 0 source (omega arith) in
    let here : known (bytes_of (file_of shape source)) ≡ source.bytes = source-bytes laws shape _ source.header source.bytes file.header file.bytes tell in
    let others = all-bytes laws shape sources (λ k d below. files (suc k) d (omega (arith, below))) (λ k d below. tells (suc k) d (omega (arith, below))) in
    rw (here, others) refl

sent-bytes : PlanLaws → (shape : Shape) (sources : List FileParts) (n : ℕ) → All IsFile sources → AllTold sources →
    map known (map bytes_of (map (file_of shape) (take n sources))) ≡ map (λ (f : FileParts). f.bytes) (take n sources)
sent-bytes laws shape sources n files tells =
    rw (map-map bytes_of (file_of shape) (take n sources), map-map known (λ f. bytes_of (file_of shape f)) (take n sources))
    (sym (take-map (λ f. known (bytes_of (file_of shape f))) n sources) ∙ (ap (take n) (all-bytes laws shape sources files tells) ∙ take-map (λ (f : FileParts). f.bytes) n sources))

-- the first list is no longer
prefix-long : {A : Type 0} → (prefix all : List A) → IsPrefix prefix all → length prefix ≤ length all
prefix-long prefix all first =
    let long : length prefix ≡ min (length prefix) (length all) = sym (ap length first) ∙ length-take (length prefix) all in
    omega (arith, long)

pub commits-prefix : PlanLaws → (shape : Shape) (sources : List FileParts) (st : State) (pair : Pair) → All IsFile sources → AllTold sources →
    CommitsFirst (batch_of shape sources) st pair → CommitsAPrefix sources pair
commits-prefix laws shape sources st pair files tells commits =
    let batch : Batch = batch_of shape sources in
    let n : ℕ = length (committed batch st) in
    let committed_is : committed batch st ≡ map (file_of shape) (take n sources) = sym commits.first ∙ take-map (file_of shape) n sources in
    let within : n ≤ length batch = prefix-long (committed batch st) batch commits.first in
    let among : length (reported batch st) ≤ n = prefix-long (reported batch st) (committed batch st) commits.among in
    let long : length batch ≡ length sources = length-map sources (file_of shape) in
    record {
      number = n;
      within = subst (λ m. n ≤ m) long within;
      headers = commits.headers ∙ (ap (map (λ (f : File HeaderParts). f.header)) committed_is ∙ map-map (λ (f : File HeaderParts). f.header) (file_of shape) (take n sources));
      bytes = λ told told_is. ap (map known) (commits.bytes told told_is ∙ ap (map bytes_of) committed_is) ∙ sent-bytes laws shape sources n files tells;
      files_is = commits.files_is;
      done = rw commits.done_is among;
    }
