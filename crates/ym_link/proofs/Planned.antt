-- a file that is cut by a plan is covered by its last piece, and not before
use Rattle.std.proofs.Common.{ℕ, ◌<◌, ◌≤◌, ◌≡◌, suc, zero, List, [], ◌∷◌, ◌++◌, length, take, drop, refl, sym, ap, ◌∙◌, subst, arith}
use Rattle.std.proofs.Math.Seq.{take-length}
use Rattle.ym_link.proofs.Names.{HeaderParts, IsHeader, length_limit, Shape, keep_all, body_at, bytes_of, IsSent}
use Rattle.ym_file.specs.Plan.{IsPieces}
use Rattle.ym_file.specs.Collecting.{IsCovered}

split : (k : ℕ) (pieces : List (List ℕ)) → k < length pieces → pieces ≡ take k pieces ++ body_at k pieces ∷ drop (suc k) pieces
split k [] less = absurd (omega arith)
split zero (piece ∷ pieces) less = refl
split (suc k) (piece ∷ pieces) less = ap (λ x. piece ∷ x) (split k pieces (omega arith))

below : (a b : ℕ) → ¬ (a ≤ b) → b < a
below a b not_within = grind (arith, not_within)

module _ (before : (shape : Shape) (file : List ℕ) (before : List (List ℕ)) (next : List ℕ) (after : List (List ℕ)) → IsPieces shape file (before ++ next ∷ after) → ¬ IsCovered (record { wanted = length file; bytes = keep_all (length file) [] before }))
    (after : (shape : Shape) (file : List ℕ) (pieces : List (List ℕ)) → IsPieces shape file pieces → IsCovered (record { wanted = length file; bytes = keep_all (length file) [] pieces }))
    (gives : (shape : Shape) (file : List ℕ) (pieces : List (List ℕ)) → IsPieces shape file pieces → keep_all (length file) [] pieces ≡ file)
    (shape : Shape) (header : HeaderParts) (bytes : List ℕ) (pieces : List (List ℕ)) (is : IsHeader length_limit header) (size : header.length ≡ length bytes) (plan : IsPieces shape bytes pieces) where
  pub planned : IsSent (record { header = header; pieces = pieces })
  planned = record {
    header = is;
    missing = λ k less. subst (λ n. length (keep_all n [] (take k pieces)) < n) (sym size)
        (below (length bytes) (length (keep_all (length bytes) [] (take k pieces))) (before shape bytes (take k pieces) (body_at k pieces) (drop (suc k) pieces) (subst (IsPieces shape bytes) (split k pieces less) plan)));
    covered = subst (λ n. n ≤ length (keep_all n [] (take (length pieces) pieces))) (sym size) (subst (λ ps. length bytes ≤ length (keep_all (length bytes) [] ps)) (sym (take-length pieces)) (after shape bytes pieces plan));
  }

  pub planned-bytes : bytes_of (record { header = header; pieces = pieces }) ≡ bytes
  planned-bytes = ap (λ n. keep_all n [] (take (length pieces) pieces)) size ∙ (ap (keep_all (length bytes) []) (take-length pieces) ∙ gives shape bytes pieces plan)
