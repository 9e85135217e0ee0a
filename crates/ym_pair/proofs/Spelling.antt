-- What a receiver keeps is spelled by what it heard, at each line of the table.
use Rattle.std.proofs.Common.{◌≡◌, ◌∙◌, ◌+◌, ◌-◌, ◌%◌, ◌<◌, ◌≤◌, ℕ, Bool, true, false, nat_lt, if◌then◌else◌, min, List, [], ◌∷◌, ◌++◌, length, take, map, All, Option, None, Some, refl, sym, ap, subst, arith, append_assoc, append-nil, length-append}
use Rattle.std.specs.Prelude.{option_to_list}
use Rattle.std.proofs.lemmas.Bool.{cond_both}
use Rattle.std.proofs.lemmas.List.{length-take, map-append}
use Rattle.std.proofs.lemmas.List.Elements.{All-append, All-cons}
use Rattle.ym_pair.proofs.Names.{Reply, Item, HeaderParts, File, Kept, Confirm, Twice, block, eots, spelling, Heard, OpenFile, Stage, AwaitHeader, InFile, RecvState, Receiver, No_call, Step, called, GIVE_UP}
use Rattle.ym_frame.specs.declared.frame.Item.TheVariants as item
use Rattle.ym_header.specs.Header.{length_limit}
use Rattle.ym_header.specs.HeaderReading.{Reads}
use Rattle.ym_file.specs.Collecting.{keep, keep_all}
use Rattle.ym_file.specs.Kept.{Told, told_begun, told_added, told_committed}
use Rattle.ym_pair.specs.AnyPeer.{FileHeard, bytes_heard, header_heard, blocks_from, items_of, IsSpelled}
use Rattle.ym_core.specs.declared.delivery.Heard.TheVariants as heard
use Rattle.ym_core.specs.Receiver.{Begins, Adds, goes_on, stays, ends, opened, commits}

-- ---- What a sink tells

abbrev told_in : Told → Option Told → Told
told_in d None = d
told_in d (Some t) = t

told-begun : (o : Option Told) (P : Told → Type 0) → ((t : Told) → o ≡ Some t → P (record { open_bytes = []; files = t.files })) → (new : Told) → told_begun o ≡ Some new → P new
told-begun None P f new e = absurd cc
told-begun (Some t) P f new e = subst P (ap (told_in t) e) (f t refl)

told-added : (bytes : List ℕ) (o : Option Told) (P : Told → Type 0) → ((t : Told) → o ≡ Some t → P (record { open_bytes = t.open_bytes ++ bytes; files = t.files })) → (new : Told) → told_added bytes o ≡ Some new → P new
told-added bytes None P f new e = absurd cc
told-added bytes (Some t) P f new e = subst P (ap (told_in t) e) (f t refl)

told-committed : (o : Option Told) (P : Told → Type 0) → ((t : Told) → o ≡ Some t → P (record { open_bytes = []; files = t.files ++ t.open_bytes ∷ [] })) → (new : Told) → told_committed o ≡ Some new → P new
told-committed None P f new e = absurd cc
told-committed (Some t) P f new e = subst P (ap (told_in t) e) (f t refl)

-- ---- What a receiver keeps, spelled

abbrev pub first_eots : Bool → List Item
first_eots false = []
first_eots true = item.Eot ∷ []

-- the open file was begun by this block 0, and has these data blocks so far, and perhaps a first EOT
pub record IsOpen (confirm : Confirm) (items prefix : List Item) (open_file : OpenFile) (kept : Kept) (file : FileHeard) : Type 0 where
  pub reads : Reads length_limit file.zero (File file.header)
  pub opened : kept.opened ≡ Some file.header
  pub size : open_file.length ≡ file.header.length
  pub taken : open_file.taken ≡ length (bytes_heard file)
  pub bytes : (told : Told) → kept.told ≡ Some told → told.open_bytes ≡ bytes_heard file
  pub blocks : open_file.taken < open_file.length → open_file.blocks ≡ length file.bodies
  pub first : open_file.first_eot ≡ true → (confirm ≡ Twice) × (open_file.length ≤ open_file.taken)
  pub items_are : items ≡ prefix ++ (block 0 file.zero ∷ (blocks_from 1 file.bodies ++ first_eots open_file.first_eot))

abbrev pub OpenHolds : Confirm → List Item → List Item → Stage → Kept → Type 0
OpenHolds confirm items prefix AwaitHeader kept = items ≡ prefix
OpenHolds confirm items prefix (InFile open_file) kept = (file : FileHeard) × IsOpen confirm items prefix open_file kept file

-- these items spell the committed files, and behind them what is there of the open one
pub record Holds (confirm : Confirm) (items : List Item) (stage : Stage) (kept : Kept) : Type 0 where
  pub files : List FileHeard
  pub spelled : All IsSpelled files
  pub headers : kept.headers ≡ map header_heard files
  pub bytes : (told : Told) → kept.told ≡ Some told → told.files ≡ map bytes_heard files
  pub in_hand : OpenHolds confirm items (spelling confirm files) stage kept

-- a delivery was heard as these items: one, or none that counts
abbrev pub IsHeardAs : Heard → List Item → Type 0
IsHeardAs h [] = Unit {0}
IsHeardAs h (i ∷ []) = h ≡ heard.Item i
IsHeardAs h (i ∷ j ∷ more) = ⊥

-- behind a step, with what it heard
pub record After (confirm : Confirm) (items : List Item) (h : Heard) (kept : Kept) (step : Step) : Type 0 where
  pub confirm_is : step.receiver.confirm ≡ confirm
  pub more : List Item
  pub heard_as : IsHeardAs h more
  pub holds : Holds confirm (items ++ more) step.receiver.stage (called step.call kept)

-- ---- Lists

keep-snoc : (wanted : ℕ) (held : List ℕ) (bodies : List (List ℕ)) (body : List ℕ) → keep_all wanted held (bodies ++ body ∷ []) ≡ keep wanted (keep_all wanted held bodies) body
keep-snoc wanted held [] body = refl
keep-snoc wanted held (first ∷ bodies) body = keep-snoc wanted (keep wanted held first) bodies body

blocks-snoc : (number : ℕ) (bodies : List (List ℕ)) (body : List ℕ) → blocks_from number (bodies ++ body ∷ []) ≡ blocks_from number bodies ++ block ((number + length bodies) % 256) body ∷ []
blocks-snoc number [] body = let same : number ≡ number + length {A = List ℕ} [] = omega arith in ap (λ n. block (n % 256) body ∷ []) same
blocks-snoc number (first ∷ bodies) body =
    let sum : number + 1 + length bodies ≡ number + length (first ∷ bodies) = omega arith in
    ap (λ rest. block (number % 256) first ∷ rest) (blocks-snoc (number + 1) bodies body ∙ ap (λ n. blocks_from (number + 1) bodies ++ block (n % 256) body ∷ []) sum)

spelling-snoc : (confirm : Confirm) (files : List FileHeard) (file : FileHeard) → spelling confirm (files ++ file ∷ []) ≡ spelling confirm files ++ items_of confirm file
spelling-snoc confirm [] file = append-nil (items_of confirm file)
spelling-snoc confirm (first ∷ files) file = ap (λ rest. items_of confirm first ++ rest) (spelling-snoc confirm files file) ∙ sym (append_assoc (items_of confirm first) (spelling confirm files) (items_of confirm file))

pub not-true : (b : Bool) → (b ≡ true → ⊥) → b ≡ false
not-true true never = absurd (never refl)
not-true false never = refl

-- ---- Steps

module _ (confirm : Confirm) (items : List Item) (h : Heard) (kept : Kept) where
  pub either : (b : Bool) (x y : Step) → (b ≡ true → After confirm items h kept x) → (b ≡ false → After confirm items h kept y) → After confirm items h kept (if b then x else y)
  either b x y p q = cond_both b x y (After confirm items h kept) p q

  -- nothing is added, and the stage stays
  pub nothing : (stage : Stage) → Holds confirm items stage kept → Holds confirm (items ++ []) stage kept
  nothing stage holds = subst (λ all. Holds confirm all stage kept) (sym (append-nil items)) holds

  pub after-ends : (r : Receiver) (now : RecvState) (reply : Reply) → r.confirm ≡ confirm → Holds confirm items r.stage kept → After confirm items h kept (ends r now reply)
  after-ends r now reply same holds = record { confirm_is = same; more = []; heard_as = tt; holds = nothing r.stage holds }

  pub after-stays : (r : Receiver) (reply : Reply) → r.confirm ≡ confirm → Holds confirm items r.stage kept → After confirm items h kept (stays r reply)
  after-stays r reply same holds =
      either (nat_lt (r.retries + 1) GIVE_UP) _ _
      (λ e. record { confirm_is = same; more = []; heard_as = tt; holds = nothing r.stage holds })
      (λ e. record { confirm_is = same; more = []; heard_as = tt; holds = nothing r.stage holds })

  -- the committed files stay, and this is in hand
  keeps : {stage new : Stage} {all : List Item} {later : Kept} (holds : Holds confirm items stage kept) → later.headers ≡ kept.headers →
      ((told : Told) → later.told ≡ Some told → told.files ≡ map bytes_heard holds.files) → OpenHolds confirm all (spelling confirm holds.files) new later → Holds confirm all new later
  keeps holds same bytes in_hand = record { files = holds.files; spelled = holds.spelled; headers = same ∙ holds.headers; bytes = bytes; in_hand = in_hand }

  -- a block 0 begins a file
  pub after-begins : (r : Receiver) (header : HeaderParts) (body : List ℕ) (reply : Reply) → r.confirm ≡ confirm → Holds confirm items AwaitHeader kept → Reads length_limit body (File header) →
      h ≡ heard.Item (block 0 body) → After confirm items h kept (goes_on (record r { stage = InFile (opened header) }) reply (Begins header))
  after-begins r header body reply same holds reads was = record {
    confirm_is = same;
    more = block 0 body ∷ [];
    heard_as = was;
    holds = keeps holds refl (told-begun kept.told (λ t. t.files ≡ map bytes_heard holds.files) holds.bytes) (
      record { header = header; zero = body; bodies = [] },
      record {
        reads = reads;
        opened = refl;
        size = refl;
        taken = refl;
        bytes = told-begun kept.told (λ t. t.open_bytes ≡ []) (λ t is. refl);
        blocks = λ less. refl;
        first = λ e. absurd (cc);
        items_are = ap (λ all. all ++ block 0 body ∷ []) holds.in_hand;
      },
    );
  }

  -- the next block is added
  pub after-adds : (r : Receiver) (file : OpenFile) (number : ℕ) (body : List ℕ) (reply : Reply) → r.confirm ≡ confirm → Holds confirm items (InFile file) kept →
      number ≡ (file.blocks + 1) % 256 → h ≡ heard.Item (block number body) → file.taken < file.length →
      After confirm items h kept (goes_on (record r { stage = InFile (record file { taken = file.taken + min (file.length - file.taken) (length body); blocks = file.blocks + 1 }) }) reply (Adds (take (file.length - file.taken) body)))
  after-adds r file number body reply same holds numbered was less =
      let in_hand : FileHeard = holds.in_hand.0 in
      let is : IsOpen confirm items (spelling confirm holds.files) file kept in_hand = holds.in_hand.1 in
      let adds : List ℕ = take (file.length - file.taken) body in
      let grown : FileHeard = record { header = in_hand.header; zero = in_hand.zero; bodies = in_hand.bodies ++ body ∷ [] } in
      let room : file.length - file.taken ≡ in_hand.header.length - length (bytes_heard in_hand) = ap (λ n. n - file.taken) is.size ∙ ap (λ n. in_hand.header.length - n) is.taken in
      let bytes : bytes_heard grown ≡ bytes_heard in_hand ++ adds = keep-snoc in_hand.header.length [] in_hand.bodies body ∙ ap (λ n. bytes_heard in_hand ++ take n body) (sym room) in
      let blocks = is.blocks less in
      let no_eot : file.first_eot ≡ false = not-true file.first_eot (λ e. let over = (is.first e).1 in omega (arith, over, less)) in
      let count : (file.blocks + 1) % 256 ≡ (1 + length in_hand.bodies) % 256 = ap (λ n. n % 256) (omega (arith, blocks)) in
      let new : Item = block ((1 + length in_hand.bodies) % 256) body in
      let named : block number body ≡ new = ap (λ n. block n body) (numbered ∙ count) in
      let before : items ≡ spelling confirm holds.files ++ (block 0 in_hand.zero ∷ blocks_from 1 in_hand.bodies) = rw (no_eot, append-nil) at is.items_are in
      record {
        confirm_is = same;
        more = new ∷ [];
        heard_as = was ∙ ap heard.Item named;
        holds = keeps holds refl (told-added adds kept.told (λ t. t.files ≡ map bytes_heard holds.files) holds.bytes) (
          grown,
          record {
            reads = is.reads;
            opened = is.opened;
            size = is.size;
            taken = ap (λ n. n + min (file.length - file.taken) (length body)) is.taken
                ∙ (ap (λ n. length (bytes_heard in_hand) + n) (sym (length-take (file.length - file.taken) body)) ∙ (sym (length-append (bytes_heard in_hand) adds) ∙ ap length (sym bytes)));
            bytes = told-added adds kept.told (λ t. t.open_bytes ≡ bytes_heard grown) (λ t told. ap (λ b. b ++ adds) (is.bytes t told) ∙ sym bytes);
            blocks = λ more. let long = length-append in_hand.bodies (body ∷ []) in omega (arith, blocks, long);
            first = λ e. absurd (cc);
            items_are = rw (before, append_assoc, no_eot, append-nil, blocks-snoc);
          },
        );
      }

  -- a block past the length is dropped
  pub after-drops : (r : Receiver) (file : OpenFile) (reply : Reply) → r.confirm ≡ confirm → Holds confirm items (InFile file) kept → (file.taken < file.length → ⊥) →
      After confirm items h kept (stays (record r { stage = InFile (record file { blocks = file.blocks + 1 }) }) reply)
  after-drops r file reply same holds over =
      let is : IsOpen confirm items (spelling confirm holds.files) file kept holds.in_hand.0 = holds.in_hand.1 in
      after-stays (record r { stage = InFile (record file { blocks = file.blocks + 1 }) }) reply same (keeps holds refl holds.bytes (
        holds.in_hand.0,
        record {
          reads = is.reads;
          opened = is.opened;
          size = is.size;
          taken = is.taken;
          bytes = is.bytes;
          blocks = λ less. absurd (over less);
          first = is.first;
          items_are = is.items_are;
        },
      ))

  -- a first EOT is taken
  pub after-first : (r : Receiver) (file : OpenFile) (reply : Reply) → r.confirm ≡ confirm → confirm ≡ Twice → Holds confirm items (InFile file) kept → h ≡ heard.Item item.Eot →
      file.first_eot ≡ false → file.length ≤ file.taken → After confirm items h kept (goes_on (record r { stage = InFile (record file { first_eot = true }) }) reply No_call)
  after-first r file reply same twice holds was no_eot over =
      let in_hand : FileHeard = holds.in_hand.0 in
      let is : IsOpen confirm items (spelling confirm holds.files) file kept in_hand = holds.in_hand.1 in
      let before : items ≡ spelling confirm holds.files ++ (block 0 in_hand.zero ∷ blocks_from 1 in_hand.bodies) = rw (no_eot, append-nil) at is.items_are in
      record {
        confirm_is = same;
        more = item.Eot ∷ [];
        heard_as = was;
        holds = keeps holds refl holds.bytes (
          in_hand,
          record {
            reads = is.reads;
            opened = is.opened;
            size = is.size;
            taken = is.taken;
            bytes = is.bytes;
            blocks = is.blocks;
            first = λ e. (twice, over);
            items_are = rw (before, append_assoc);
          },
        );
      }

  -- the file is committed
  pub after-commits : (r : Receiver) (file : OpenFile) → r.confirm ≡ confirm → Holds confirm items (InFile file) kept → h ≡ heard.Item item.Eot →
      first_eots file.first_eot ++ item.Eot ∷ [] ≡ eots confirm → file.length ≤ file.taken → file.taken ≤ file.length → After confirm items h kept (commits r)
  after-commits r file same holds was all_eots over within =
      let in_hand : FileHeard = holds.in_hand.0 in
      let is : IsOpen confirm items (spelling confirm holds.files) file kept in_hand = holds.in_hand.1 in
      let size : file.length ≡ in_hand.header.length = is.size in
      let long : file.taken ≡ length (bytes_heard in_hand) = is.taken in
      let here : IsSpelled in_hand = record { reads = is.reads; covered = omega (arith, size, long, over, within) } in
      record {
        confirm_is = same;
        more = item.Eot ∷ [];
        heard_as = was;
        holds = record {
          files = holds.files ++ in_hand ∷ [];
          spelled = All-append IsSpelled holds.files (in_hand ∷ []) holds.spelled (All-cons IsSpelled in_hand [] here (λ k d less. absurd (omega (arith, less))));
          headers = ap (λ o. kept.headers ++ option_to_list o) is.opened ∙ (ap (λ hs. hs ++ in_hand.header ∷ []) holds.headers ∙ sym (map-append header_heard holds.files (in_hand ∷ [])));
          bytes = told-committed kept.told (λ t. t.files ≡ map bytes_heard (holds.files ++ in_hand ∷ []))
              (λ t told. ap (λ b. t.files ++ b ∷ []) (is.bytes t told) ∙ (ap (λ fs. fs ++ bytes_heard in_hand ∷ []) (holds.bytes t told) ∙ sym (map-append bytes_heard holds.files (in_hand ∷ []))));
          in_hand = rw (is.items_are, append_assoc, append_assoc, all_eots, spelling-snoc);
        };
      }
