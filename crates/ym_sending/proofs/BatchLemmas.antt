-- A batch, file by file.
use Rattle.std.proofs.Common.{◌≡◌, ◌+◌, ◌<◌, ◌∙◌, ◌++◌, ◌⊎◌, ℕ, List, [], ◌∷◌, length, take, slice_index_or, refl, sym, ap, arith, below_more, inl, inr, Result, Ok, Err}
use Rattle.ym_file.specs.declared.plan.Shape.{Shape}
use Rattle.std.specs.Result.{IsErrAnd}
use Rattle.std.proofs.lemmas.List.{take_more, map-append, length-map}
use Rattle.std.proofs.lemmas.List.Elements.{All-nil, All-cons, All-append}
use Rattle.ym_header.specs.Header.{IsName}
use Rattle.ym_header.specs.declared.stamp.Stamp.TheVariants.{Nothing}
use Rattle.ym_file.specs.SourceFile.{FileParts}
use Rattle.ym_machine.specs.declared.limits.TheConstants.{MOST_FILES}
use Rattle.ym_sending.specs.Sending.{last_part, IsBatch, MayRefuse, RefusesBatch, RefusesFile, SendGives}
use Rattle.ym_answer.specs.Page.{Page}
use Rattle.ym_answer.specs.Status.{IsHostFault}
use Rattle.ym_answer.specs.declared.command_fault.CommandFault.{CommandFault}
use Rattle.ym_answer.specs.declared.command_fault.CommandFault.TheVariants as fault

-- the first so many paths were looked at
pub record LookedAt (count : ℕ) (paths : List (List ℕ)) (files : List FileParts) : Type 0 where
  pub batch : IsBatch (take count paths) files
  pub named : (j : ℕ) → j < count → IsName (last_part (slice_index_or paths j []))

abbrev is_plain : FileParts → Type 0
is_plain file = file.header.stamp ≡ Nothing

-- one more path
pub looked_at_more : (count : ℕ) (paths : List (List ℕ)) (files : List FileParts) (path : List ℕ) (file : FileParts) → LookedAt count paths files
    → count < length paths → path ≡ slice_index_or paths count [] → file.header.name ≡ last_part path → file.header.stamp ≡ Nothing → IsName (last_part path)
    → LookedAt (count + 1) paths (files ++ file ∷ [])
looked_at_more count paths files path file h within is name stamp fits =
    let named : IsName (last_part (slice_index_or paths count [])) = rw (← is) fits in
    record {
      batch = record {
        names = rw (
          take_more paths count [] within,
          map-append (λ (f : FileParts). f.header.name) files (file ∷ []),
          map-append last_part (take count paths) (slice_index_or paths count [] ∷ []),
          h.batch.names,
          name,
          is,
        ) refl;
        stamps = All-append is_plain files (file ∷ []) h.batch.stamps (All-cons is_plain file [] stamp (All-nil is_plain));
      };
      named = below_more _ _ h.named named;
    }

-- a path whose file is not sent
pub refuses : (count : ℕ) (paths : List (List ℕ)) (files : List FileParts) (path : List ℕ) (why : CommandFault) → LookedAt count paths files
    → count < length paths → path ≡ slice_index_or paths count [] → MayRefuse (last_part path) why → RefusesFile paths why
refuses count paths files path why h within is refused =
    record { position = count; within = within; before = h.named; refused = rw is at refused }

-- there are as many files as paths
pub too_many : (paths : List (List ℕ)) (files : List FileParts) (why : CommandFault) → IsBatch paths files
    → why ≡ fault.TooManyFiles → MOST_FILES < length files → RefusesBatch paths why
too_many paths files why h is many =
    let same = sym (length-map files (λ (f : FileParts). f.header.name)) ∙ ap length h.names ∙ length-map paths last_part in
    inr (is, omega (arith, same, many))

-- there is no sender
pub unsent : (shape : Shape) (paths : List (List ℕ)) (out : Page) (answer : Result ℕ CommandFault) → IsErrAnd answer (λ why. RefusesBatch paths why ⊎ IsHostFault why) → SendGives shape paths out answer out
unsent shape paths out (Ok status) h = absurd h
unsent shape paths out (Err why) h = inl (record { why = why; refused = h; answer_is = refl; out_stays = refl })
