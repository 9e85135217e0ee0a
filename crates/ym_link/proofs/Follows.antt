-- a receiver that refines a state of the machine goes where the machine's receiver step goes
use Rattle.std.proofs.Common.{ℕ, ◌+◌, ◌-◌, ◌%◌, ◌<◌, ◌≤◌, ◌≡◌, ◌≢◌, List, [], ◌∷◌, ◌++◌, length, Bool, true, false, refl, sym, ap, ◌∙◌, subst, arith, cond, nat_lt, min, Option, Some, None, Ok, Result}
use Rattle.ym_link.proofs.Names.{Reply, Silence, AckStart, Nak, Cancel, HeaderParts, IsHeader, length_limit, text, end_text, HeaderFault, Zero, Kept, Confirm, Twice, File, BlockZero, Piece, frames_of, frame_at, body_at, count_within, files_within, ReceiverEnd, State, nothing_taken, asks_again, Heard, Stage, AwaitHeader, InFile, Receiver, Step, No_call, Begins, Adds, Commits, goes_on, stays, ends, opened, covered_eot, ReadsAs, Means, ReceiverParts, outcome, called, kept_after, bytes_of, IsSent, item_of, open_at, receiver_at, KeepsFirst, KeepsOpen, ReceiverRefines, Goes, GIVE_UP, MOST_FILES}
use Rattle.ym_frame.specs.declared.control.Reply.TheVariants.{Start, Ack}
use Rattle.ym_frame.specs.declared.frame.Item.TheVariants as item
use Rattle.ym_header.specs.declared.reading.Zero.TheVariants as zero_is
use Rattle.ym_machine.specs.declared.confirm.Confirm.TheVariants.{Once}
use Rattle.ym_machine.specs.Frames.{Eot}
use Rattle.ym_machine.specs.Steps.{Answer, takes, hears_next, hears_last}
use Rattle.ym_core.specs.declared.delivery.Heard.TheVariants as heard
use Rattle.ym_core.specs.declared.state.RecvState.TheVariants as state
use Rattle.ym_core.specs.Receiver.{hears, commits}
use Rattle.ym_link.specs.ReceiverInto.{Takes}
use Rattle.ym_link.specs.ReceiverRefines.{stage_of, state_of}
use Rattle.ym_link.proofs.Spots.{Spot, opening, piece, closing, ending}
use Rattle.ym_link.proofs.TableRows as row
use Rattle.ym_link.proofs.TableRows.{running_at, file_of}
use Rattle.ym_link.proofs.Keeping.{keeps-same, keeps-begun, keeps-added, keeps-committed, taken_from, kept-length, open-begun, open-added, open-committed}

-- what the laws of block 0 say
pub record ZeroLaws : Type 0 where
  pub one : (body : List ℕ) (x y : Result Zero HeaderFault) → ReadsAs body x → ReadsAs body y → x ≡ y
  pub header : (h : HeaderParts) → IsHeader length_limit h → ReadsAs (text h) (Ok (zero_is.File h))
  pub end : ReadsAs end_text (Ok zero_is.End)

-- a step was taken from a receiver, with what its sink told
pub record Took (r : Receiver) (kept : Kept) (step : Step) (failed : Bool) (reply : Reply) (new : ReceiverParts) : Type 0 where
  pub no_call : step.call ≡ No_call → failed ≡ false
  pub reply_is : reply ≡ (outcome failed r step).reply
  pub receiver_is : new.receiver ≡ (outcome failed r step).receiver
  pub kept_is : new.kept ≡ called (outcome failed r step).call kept

pub took : (old : ReceiverParts) (step : Step) (failed : Bool) (reply : Reply) (new : ReceiverParts) → Takes old step failed reply new → Took old.receiver old.kept step failed reply new
took old step failed reply new t = record { no_call = t.no_call; reply_is = t.reply_is; receiver_is = t.receiver_is; kept_is = t.kept_is }

pub goes : (confirm : Confirm) (files : List (File HeaderParts)) (st : State) (y : Reply) (r : Receiver) (kept : Kept) (reply : Reply) (new : ReceiverParts)
    → reply ≡ y → new.receiver ≡ r → new.kept ≡ kept → ReceiverRefines confirm files st r kept → Goes confirm files (st, y) reply new
goes confirm files st y r kept reply new a b c s = record {
  reply_is = a;
  refines = subst (λ x. ReceiverRefines confirm files st x new.kept) (sym b) (subst (λ k. ReceiverRefines confirm files st r k) (sym c) s);
}

-- a step that calls nothing
pub quiet : (confirm : Confirm) (files : List (File HeaderParts)) (st : State) (y : Reply) (r after : Receiver) (kept : Kept) (failed : Bool) (reply : Reply) (new : ReceiverParts)
    → Took r kept (record { receiver = after; reply = y; call = No_call }) failed reply new → ReceiverRefines confirm files st after kept → Goes confirm files (st, y) reply new
quiet confirm files st y r after kept failed reply new t s =
    let f = t.no_call refl in
    goes confirm files st y after kept reply new
    (t.reply_is ∙ ap (λ b. (outcome b r step).reply) f) (t.receiver_is ∙ ap (λ b. (outcome b r step).receiver) f) (t.kept_is ∙ ap (λ b. called (outcome b r step).call kept) f) s
  where
    step : Step
    step = record { receiver = after; reply = y; call = No_call }

module _ (confirm : Confirm) (files : List (File HeaderParts)) (st : State) (kept : Kept) (keeps : KeepsFirst files st.taken kept) (runs : st.receiver ≡ ReceiverEnd.Running) (failed : Bool) (reply : Reply) (new : ReceiverParts) where
  abbrev n : ℕ
  n = count_within files st.taken

  -- a running receiver at this stage
  abbrev on : Stage → Receiver
  on stage = running_at confirm stage n st.receiver_retries

  abbrev GoesTo : Answer → Type 0
  GoesTo answer = Goes confirm files answer reply new

  stays-goes : (r : Receiver) (stage : Stage) (y : Reply) → KeepsOpen (open_at files st.taken) kept → stage ≡ stage_of (open_at files st.taken) st.first_eot
      → Took r kept (stays (on stage) y) failed reply new → GoesTo (nothing_taken st y)
  stays-goes r stage y o same t = by (nat_lt (st.receiver_retries + 1) GIVE_UP) t
    where
      goes_on' : Step
      goes_on' = record { receiver = running_at confirm stage n (st.receiver_retries + 1); reply = y; call = No_call }

      gives_up : Step
      gives_up = record { receiver = record (on stage) { retries = st.receiver_retries + 1; state = state.TooManyErrors }; reply = Cancel; call = No_call }

      by : (b : Bool) → Took r kept (cond b goes_on' gives_up) failed reply new
          → GoesTo (cond b (record st { receiver_retries = st.receiver_retries + 1 }, y) (record st { receiver_retries = st.receiver_retries + 1; receiver = ReceiverEnd.TooManyErrors }, Cancel))
      by true u = quiet confirm files (record st { receiver_retries = st.receiver_retries + 1 }) y r goes_on'.receiver kept failed reply new u (record {
        confirm_is = refl;
        state_is = sym (ap state_of runs);
        files_is = refl;
        keeps = keeps;
        running = λ _. ap (λ s. running_at confirm s n (st.receiver_retries + 1)) same;
        keeps_open = λ _. o;
      })
      by false u = quiet confirm files (record st { receiver_retries = st.receiver_retries + 1; receiver = ReceiverEnd.TooManyErrors }) Cancel r gives_up.receiver kept failed reply new u (record {
        confirm_is = refl;
        state_is = refl;
        files_is = refl;
        keeps = keeps;
        running = λ w. cc;
        keeps_open = λ w. cc;
      })

  -- the sink failed
  failed-goes : (stage : Stage) (step : Step) → Took (on stage) kept step true reply new → GoesTo (record st { receiver = ReceiverEnd.SinkFailed }, Cancel)
  failed-goes stage step t = goes confirm files (record st { receiver = ReceiverEnd.SinkFailed }) Cancel (record (on stage) { state = state.SinkFailed }) kept reply new t.reply_is t.receiver_is t.kept_is (record {
    confirm_is = refl;
    state_is = refl;
    files_is = refl;
    keeps = keeps;
    running = λ w. cc;
    keeps_open = λ w. cc;
  })

  -- the state behind a frame that was taken
  abbrev behind : State
  behind = record st { taken = st.taken + 1; first_eot = false; receiver_retries = 0 }

  opening-goes : (file : File HeaderParts) (step : Step) → step ≡ goes_on (record (on AwaitHeader) { stage = InFile (opened file.header) }) AckStart (Begins file.header)
      → open_at files (st.taken + 1) ≡ Some (file, 0) → count_within files (st.taken + 1) ≡ n
      → Took (on AwaitHeader) kept step failed reply new → GoesTo (takes st AckStart failed)
  opening-goes file step is after same t = by failed t
    where
      begins : Step
      begins = goes_on (record (on AwaitHeader) { stage = InFile (opened file.header) }) AckStart (Begins file.header)

      by : (f : Bool) → Took (on AwaitHeader) kept step f reply new → GoesTo (takes st AckStart f)
      by true u = failed-goes AwaitHeader step (subst (λ s. Took (on AwaitHeader) kept s true reply new) refl u)
      by false u =
          let v = subst (λ s. Took (on AwaitHeader) kept s false reply new) is u in
          goes confirm files behind AckStart begins.receiver (called begins.call kept) reply new v.reply_is v.receiver_is v.kept_is (record {
            confirm_is = refl;
            state_is = sym (ap state_of runs);
            files_is = sym same;
            keeps = keeps-begun files st.taken (st.taken + 1) kept keeps file.header same;
            running = λ _. sym (ap (λ p. running_at confirm (stage_of p false) (count_within files (st.taken + 1)) 0) after ∙ ap (λ c. running_at confirm (stage_of (Some (file, 0)) false) c 0) same);
            keeps_open = λ _. subst (λ p. KeepsOpen p (called begins.call kept)) (sym after) (open-begun file kept);
          })

  piece-goes : (file : File HeaderParts) (k : ℕ) → IsSent file → k < length file.pieces → KeepsOpen (Some (file, k)) kept
      → open_at files (st.taken + 1) ≡ Some (file, (k + 1)) → count_within files (st.taken + 1) ≡ n → (zero : Result Zero HeaderFault)
      → Took (on (stage_of (Some (file, k)) false)) kept (hears (on (stage_of (Some (file, k)) false)) zero (heard.Item (item.Block (record { number = (k + 1) % 256; body = body_at k file.pieces })))) failed reply new → GoesTo (takes st Ack failed)
  piece-goes file k sent less o after same zero t = by failed (subst (λ s. Took here kept s failed reply new) (row.row-piece confirm n st.receiver_retries zero file.header.length (length (kept_after file k)) k false (body_at k file.pieces) (sent.missing k less)) t)
    where
      here : Receiver
      here = on (stage_of (Some (file, k)) false)

      size : ℕ
      size = length (kept_after file k) + min (file.header.length - length (kept_after file k)) (length (body_at k file.pieces))

      adds : Step
      adds = goes_on (on (InFile (file_of file.header.length size (k + 1) false))) Ack (Adds (taken_from file k))

      by : (f : Bool) → Took here kept adds f reply new → GoesTo (takes st Ack f)
      by true u = failed-goes (stage_of (Some (file, k)) false) adds u
      by false u = goes confirm files behind Ack adds.receiver (called adds.call kept) reply new u.reply_is u.receiver_is u.kept_is (record {
        confirm_is = refl;
        state_is = sym (ap state_of runs);
        files_is = sym same;
        keeps = keeps-added files st.taken (st.taken + 1) kept keeps (taken_from file k) same;
        running = λ _. sym (ap (λ p. running_at confirm (stage_of p false) (count_within files (st.taken + 1)) 0) after ∙ (ap (λ c. running_at confirm (stage_of (Some (file, (k + 1))) false) c 0) same
            ∙ ap (λ l. running_at confirm (InFile (file_of file.header.length l (k + 1) false)) n 0) (kept-length file k less)));
        keeps_open = λ _. subst (λ p. KeepsOpen p (called adds.call kept)) (sym after) (open-added file k kept less o);
      })

  commits-goes : (file : File HeaderParts) (stage : Stage) → KeepsOpen (Some (file, length file.pieces)) kept
      → open_at files (st.taken + 1) ≡ None → count_within files (st.taken + 1) ≡ n + 1 → files_within files (st.taken + 1) ≡ files_within files st.taken ++ file ∷ []
      → Took (on stage) kept (commits (on stage)) failed reply new → GoesTo (takes st AckStart failed)
  commits-goes file stage o after more within t = by failed t
    where
      by : (f : Bool) → Took (on stage) kept (commits (on stage)) f reply new → GoesTo (takes st AckStart f)
      by true u = failed-goes stage (commits (on stage)) u
      by false u = goes confirm files behind AckStart (commits (on stage)).receiver (called Commits kept) reply new u.reply_is u.receiver_is u.kept_is (record {
        confirm_is = refl;
        state_is = sym (ap state_of runs);
        files_is = sym more;
        keeps = keeps-committed files st.taken (st.taken + 1) kept keeps file o within;
        running = λ _. sym (ap (λ p. running_at confirm (stage_of p false) (count_within files (st.taken + 1)) 0) after ∙ ap (λ c. running_at confirm AwaitHeader c 0) more);
        keeps_open = λ _. subst (λ p. KeepsOpen p (called Commits kept)) (sym after) (open-committed kept);
      })

  closing-goes : (file : File HeaderParts) → KeepsOpen (Some (file, length file.pieces)) kept → open_at files st.taken ≡ Some (file, length file.pieces)
      → open_at files (st.taken + 1) ≡ None → count_within files (st.taken + 1) ≡ n + 1 → files_within files (st.taken + 1) ≡ files_within files st.taken ++ file ∷ []
      → (c : Confirm) (e : Bool) → st.first_eot ≡ e
      → Took (on (stage_of (Some (file, length file.pieces)) e)) kept (covered_eot (on (stage_of (Some (file, length file.pieces)) e)) c (file_of file.header.length (length (bytes_of file)) (length file.pieces) e) e) failed reply new
      → GoesTo (hears_next {H = HeaderParts} c failed Eot st)
  closing-goes file o before after more within Once e is t = commits-goes file (stage_of (Some (file, length file.pieces)) e) o after more within t
  closing-goes file o before after more within Twice true is t =
      subst (λ b. GoesTo (cond b (takes st AckStart failed) (record st { first_eot = true; receiver_retries = 0 }, Nak))) (sym is)
      (commits-goes file (stage_of (Some (file, length file.pieces)) true) o after more within t)
  closing-goes file o before after more within Twice false is t =
      subst (λ b. GoesTo (cond b (takes st AckStart failed) (record st { first_eot = true; receiver_retries = 0 }, Nak))) (sym is)
      (quiet confirm files (record st { first_eot = true; receiver_retries = 0 }) Nak (on (stage_of (Some (file, length file.pieces)) false)) (running_at confirm (stage_of (Some (file, length file.pieces)) true) n 0) kept failed reply new t (record {
        confirm_is = refl;
        state_is = sym (ap state_of runs);
        files_is = refl;
        keeps = keeps;
        running = λ _. sym (ap (λ p. running_at confirm (stage_of p true) n 0) before);
        keeps_open = λ _. subst (λ p. KeepsOpen p kept) (sym before) o;
      }))

  ending-goes : count_within files (st.taken + 1) ≡ n → Took (on AwaitHeader) kept (ends (on AwaitHeader) state.Finished Ack) failed reply new → GoesTo (record st { taken = st.taken + 1; receiver = ReceiverEnd.Finished }, Ack)
  ending-goes same t = quiet confirm files (record st { taken = st.taken + 1; receiver = ReceiverEnd.Finished }) Ack (on AwaitHeader) (record (on AwaitHeader) { state = state.Finished }) kept failed reply new t (record {
    confirm_is = refl;
    state_is = refl;
    files_is = sym same;
    keeps = keeps-same files st.taken (st.taken + 1) kept keeps same;
    running = λ w. cc;
    keeps_open = λ w. cc;
  })

  cancel-goes : (stage : Stage) → Took (on stage) kept (ends (on stage) state.Cancelled Silence) failed reply new → GoesTo (record st { receiver = ReceiverEnd.Cancelled }, Silence)
  cancel-goes stage t = quiet confirm files (record st { receiver = ReceiverEnd.Cancelled }) Silence (on stage) (record (on stage) { state = state.Cancelled }) kept failed reply new t (record {
    confirm_is = refl;
    state_is = refl;
    files_is = refl;
    keeps = keeps;
    running = λ w. cc;
    keeps_open = λ w. cc;
  })

  -- ---- F[r]

  abbrev hearing : Option (File HeaderParts × ℕ) → Bool → Result Zero HeaderFault → Heard → Type 0
  hearing position e zero h = Took (on (stage_of position e)) kept (hears (on (stage_of position e)) zero h) failed reply new

  pub next-goes : (laws : ZeroLaws) (zero : Result Zero HeaderFault) → length files ≤ MOST_FILES → Spot IsSent files st.taken → KeepsOpen (open_at files st.taken) kept
      → (st.first_eot ≡ true → frame_at (frames_of files) st.taken ≡ Eot)
      → Means (receiver_at confirm files st) (heard.Item (item_of (frame_at (frames_of files) st.taken))) zero
      → hearing (open_at files st.taken) st.first_eot zero (heard.Item (item_of (frame_at (frames_of files) st.taken)))
      → GoesTo (hears_next confirm failed (frame_at (frames_of files) st.taken) st)
  next-goes laws zero few (opening file sent a b c d less) o eot means t =
      let is : zero ≡ Ok (zero_is.File file.header) =
      laws.one (text file.header) zero (Ok (zero_is.File file.header)) (means (record { number = 0; body = text file.header }) refl (ap (λ p. stage_of p st.first_eot) b) (ap (λ fr. heard.Item (item_of fr)) a) refl) (laws.header file.header sent.header) in
      let step = ap (λ z. hears (on AwaitHeader) z (heard.Item (item_of (BlockZero file.header)))) is ∙ row.row-opening confirm n st.receiver_retries file.header (text file.header) (omega (arith, few, less)) in
      rw a (opening-goes file (hears (on AwaitHeader) zero (heard.Item (item_of (BlockZero file.header)))) step c d (rw (a, b) at t))
  next-goes laws zero few (piece file k sent less a b c d) o eot means t = rw a (piece-goes file k sent less (rw b at o) c d zero (by st.first_eot eot (rw (a, b) at t)))
    where
      by : (e : Bool) → (e ≡ true → frame_at (frames_of files) st.taken ≡ Eot) → hearing (Some (file, k)) e zero (heard.Item (item_of (Piece ((k + 1) % 256) (body_at k file.pieces)))) → hearing (Some (file, k)) false zero (heard.Item (item_of (Piece ((k + 1) % 256) (body_at k file.pieces))))
      by false w u = u
      by true w u = let x = sym a ∙ w refl in cc
  next-goes laws zero few (closing file sent a b c d within) o eot means t =
      let row = row.row-eot confirm n st.receiver_retries zero file.header.length (length (bytes_of file)) (length file.pieces) st.first_eot sent.covered in
      rw a (closing-goes file (rw b at o) b c d within confirm st.first_eot refl (rw (a, b, row) at t))
  next-goes laws zero few (ending a b c d l) o eot means t =
      let is : zero ≡ Ok zero_is.End = laws.one end_text zero (Ok zero_is.End) (means (record { number = 0; body = end_text }) refl (ap (λ p. stage_of p st.first_eot) b) (ap (λ fr. heard.Item (item_of fr)) a) refl) laws.end in
      rw a (ending-goes d (rw (a, b, is) at t))

  -- ---- F[r-1], and no frame

  pub last-goes : (zero : Result Zero HeaderFault) (i : ℕ) → i + 1 ≡ st.taken → st.taken ≢ length (frames_of files) → Spot IsSent files i → KeepsOpen (open_at files st.taken) kept
      → hearing (open_at files st.taken) st.first_eot zero (heard.Item (item_of (frame_at (frames_of files) i)))
      → GoesTo (hears_last (frame_at (frames_of files) i) st)
  last-goes zero i last inner (opening file sent a b c d less) o t =
      let here : open_at files st.taken ≡ Some (file, 0) = ap (open_at files) (sym last) ∙ c in
      rw a (stays-goes (on (stage_of (Some (file, 0)) st.first_eot)) (stage_of (Some (file, 0)) st.first_eot) AckStart o (sym (ap (λ p. stage_of p st.first_eot) here)) (rw (a, here) at t))
  last-goes zero i last inner (piece file k sent less a b c d) o t =
      let here : open_at files st.taken ≡ Some (file, (k + 1)) = ap (open_at files) (sym last) ∙ c in
      let row = row.row-piece-again confirm n st.receiver_retries zero file.header.length (length (kept_after file (k + 1))) k st.first_eot (body_at k file.pieces) in
      rw a (stays-goes (on (stage_of (Some (file, (k + 1))) st.first_eot)) (stage_of (Some (file, (k + 1))) st.first_eot) Ack o (sym (ap (λ p. stage_of p st.first_eot) here)) (rw (a, here, row) at t))
  last-goes zero i last inner (closing file sent a b c d within) o t =
      let here : open_at files st.taken ≡ None = ap (open_at files) (sym last) ∙ c in
      let count : count_within files st.taken ≡ count_within files i + 1 = ap (count_within files) (sym last) ∙ d in
      let row = row.row-eot-again confirm n st.receiver_retries zero (omega (arith, count)) in
      rw a (stays-goes (on AwaitHeader) AwaitHeader AckStart o (sym (ap (λ p. stage_of p st.first_eot) here)) (rw (a, here, row) at t))
  last-goes zero i last inner (ending a b c d l) o t = absurd (inner (sym last ∙ l))

  pub cancelled-goes : (zero : Result Zero HeaderFault) → hearing (open_at files st.taken) st.first_eot zero (heard.Item item.Cancel) → GoesTo (record st { receiver = ReceiverEnd.Cancelled }, Silence)
  cancelled-goes zero t = cancel-goes (stage_of (open_at files st.taken) st.first_eot) (subst (λ s. Took (on (stage_of (open_at files st.taken) st.first_eot)) kept s failed reply new) (row.row-cancel confirm n st.receiver_retries zero (stage_of (open_at files st.taken) st.first_eot)) t)

  -- nothing that is a frame, before F[0] and behind a frame
  pub first-bad-goes : (zero : Result Zero HeaderFault) → open_at files st.taken ≡ None → KeepsOpen (open_at files st.taken) kept → hearing (open_at files st.taken) st.first_eot zero heard.Bad → GoesTo (nothing_taken st Start)
  first-bad-goes zero here o t = stays-goes (on AwaitHeader) AwaitHeader Start o (sym (ap (λ p. stage_of p st.first_eot) here)) (subst (λ p. hearing p st.first_eot zero heard.Bad) here t)

  pub bad-goes : (zero : Result Zero HeaderFault) (i : ℕ) → i + 1 ≡ st.taken → Spot IsSent files i → KeepsOpen (open_at files st.taken) kept
      → hearing (open_at files st.taken) st.first_eot zero heard.Bad → GoesTo (nothing_taken st (asks_again (frame_at (frames_of files) i)))
  bad-goes zero i last (opening file sent a b c d less) o t =
      let here : open_at files st.taken ≡ Some (file, 0) = ap (open_at files) (sym last) ∙ c in
      rw a (stays-goes (on (stage_of (Some (file, 0)) st.first_eot)) (stage_of (Some (file, 0)) st.first_eot) Start o (sym (ap (λ p. stage_of p st.first_eot) here)) (rw here at t))
  bad-goes zero i last (piece file k sent less a b c d) o t =
      let here : open_at files st.taken ≡ Some (file, (k + 1)) = ap (open_at files) (sym last) ∙ c in
      let row = row.row-bad-later confirm n st.receiver_retries zero file.header.length (length (kept_after file (k + 1))) k st.first_eot in
      rw a (stays-goes (on (stage_of (Some (file, (k + 1))) st.first_eot)) (stage_of (Some (file, (k + 1))) st.first_eot) Nak o (sym (ap (λ p. stage_of p st.first_eot) here)) (rw (here, row) at t))
  bad-goes zero i last (closing file sent a b c d within) o t = rw a (first-bad-goes zero (ap (open_at files) (sym last) ∙ c) o t)
  bad-goes zero i last (ending a b c d l) o t = rw a (first-bad-goes zero (ap (open_at files) (sym last) ∙ c) o t)
