-- What is heard of a row of bytes, byte by byte.
use Rattle.std.proofs.Common.{◌≡◌, ℕ, ◌+◌, ◌<◌, ◌≤◌, List, [], ◌∷◌, ◌++◌, length, get_or, take, drop, min, ◌∙◌, sym, ap, refl, arith, append_assoc, add-one}
use Rattle.std.proofs.Math.ListN.{set}
use Rattle.std.proofs.Math.Seq.{drop-cons, take-suc}
use Rattle.std.proofs.lemmas.List.{get_or-drop, length-drop, length-take-le, take-append-le, take-take, take_min, take_more_set}
use Rattle.ym_port.specs.TimedPort.{hears_byte}
use Rattle.ym_port.specs.declared.line.Line.{Line}
use Rattle.ym_timing.specs.ByteRows.{bytes_of, heard_of, after_bytes}
use Rattle.ym_timing.specs.Timing.{said, after_byte}
use Rattle.ym_heard.specs.declared.hold.Say.{Say}
use Rattle.ym_timing.specs.declared.timing.Timing.{Timing}

-- one byte more
pub heard-step : (came : List ℕ) (i now : ℕ) (written : List ℕ) (t : Timing) → i < length came
    → heard_of (drop i came) written now t
    ≡ bytes_of (said (get_or came i 0) written now t) (get_or came i 0)
    ++ heard_of (drop (i + 1) came) written now (after_byte (get_or came i 0) written now t)
heard-step came i now written t more = rw (add-one, drop-cons came i 0 more) refl

pub after-step : (came : List ℕ) (i now : ℕ) (written : List ℕ) (t : Timing) → i < length came
    → after_bytes (drop i came) written now t
    ≡ after_bytes (drop (i + 1) came) written now (after_byte (get_or came i 0) written now t)
after-step came i now written t more = rw (add-one, drop-cons came i 0 more) refl

-- what was heard before stands before it
pub heard-on : (all prefix said rest left new : List ℕ) → all ≡ prefix ++ left → left ≡ said ++ rest
    → new ≡ prefix ++ said → all ≡ new ++ rest
heard-on all prefix said rest left new is step put =
    is ∙ (ap (λ (x : List ℕ). prefix ++ x) step
    ∙ (sym (append_assoc prefix said rest) ∙ ap (λ (x : List ℕ). x ++ rest) (sym put)))

-- a byte that came to the line
pub hear-one : (fn l new : Line) (came : List ℕ) (i : ℕ) (say : Say) (prefix put : List ℕ)
    → i < length came → l ≡ record fn { timing = l.timing }
    → new ≡ hears_byte (get_or came i 0) l
    → say ≡ said (get_or came i 0) l.written l.clock.at l.timing
    → put ≡ prefix ++ bytes_of say (get_or came i 0)
    → after_bytes came fn.written fn.clock.at fn.timing
    ≡ after_bytes (drop i came) fn.written fn.clock.at l.timing
    → heard_of came fn.written fn.clock.at fn.timing
    ≡ prefix ++ heard_of (drop i came) fn.written fn.clock.at l.timing
    → (new ≡ record fn { timing = new.timing })
    × (after_bytes came fn.written fn.clock.at fn.timing
    ≡ after_bytes (drop (i + 1) came) fn.written fn.clock.at new.timing)
    × (heard_of came fn.written fn.clock.at fn.timing
    ≡ put ++ heard_of (drop (i + 1) came) fn.written fn.clock.at new.timing)
hear-one fn l new came i say prefix put more same is heard puts after all =
    let b : ℕ = get_or came i 0 in
    let w : l.written ≡ fn.written = ap (λ (x : Line). x.written) same in
    let at : l.clock.at ≡ fn.clock.at = ap (λ (x : Line). x.clock.at) same in
    let nt : new.timing ≡ after_byte b l.written l.clock.at l.timing =
    ap (λ (x : Line). x.timing) is in
    let nf : new.timing ≡ after_byte b fn.written fn.clock.at l.timing = nt ∙ (ap (λ (x : List ℕ). after_byte b x l.clock.at l.timing) w ∙ ap (λ (x : ℕ). after_byte b fn.written x l.timing) at) in
    let sf : say ≡ said b fn.written fn.clock.at l.timing = heard ∙ (ap (λ (x : List ℕ). said b x l.clock.at l.timing) w ∙ ap (λ (x : ℕ). said b fn.written x l.timing) at) in
    let step = heard-step came i fn.clock.at fn.written l.timing more in
    let puts_said : put ≡ prefix ++ bytes_of (said b fn.written fn.clock.at l.timing) b =
    puts ∙ ap (λ (s : Say). prefix ++ bytes_of s b) sf in (
      is ∙ (ap (λ (x : Line). let y : Line = record x { timing = after_byte b l.written l.clock.at l.timing } in y) same
          ∙ ap (λ (m : Timing). let y : Line = record fn { timing = m } in y) (sym nt)),
      after ∙ (after-step came i fn.clock.at fn.written l.timing more
          ∙ ap (λ (m : Timing). after_bytes (drop (i + 1) came) fn.written fn.clock.at m) (sym nf)),
      heard-on _ prefix _ _ _ put all step puts_said
          ∙ ap (λ (m : Timing). put ++ heard_of (drop (i + 1) came) fn.written fn.clock.at m) (sym nf),
    )

-- one byte that moved to the front
pub shift-one : (old buf : List ℕ) (position by : ℕ) → length buf ≡ length old
    → position + by < length old
    → take position buf ≡ take position (drop by old)
    → get_or buf (position + by) 0 ≡ get_or old (position + by) 0
    → take (position + 1) (set buf position (get_or buf (position + by) 0)) ≡ take (position + 1) (drop by old)
shift-one old buf position by sized within moved other =
    let here : position < length buf = omega arith in
    let there : position < length (drop by old) = omega (arith, length-drop by old) in
    let same : get_or buf (position + by) 0 ≡ get_or (drop by old) position 0 =
    other ∙ (ap (λ (k : ℕ). get_or old k 0) (omega arith) ∙ sym (get_or-drop by old position 0)) in
    take_more_set buf position (get_or buf (position + by) 0) here
    ∙ (ap (λ (x : List ℕ). x ++ get_or buf (position + by) 0 ∷ []) moved
    ∙ (ap (λ (v : ℕ). take position (drop by old) ++ v ∷ []) same
    ∙ rw add-one (sym (take-suc (drop by old) position 0 there))))

-- an ACK at the front
pub ack-put : (buf : List ℕ) → 0 < length buf → take 1 (set buf 0 6) ≡ 6 ∷ []
ack-put [] some = absurd (omega (arith, some))
ack-put (b ∷ bytes) some = refl

-- as much of a frame as there is room for
pub kept : (m limit : ℕ) (bytes new rest : List ℕ) → m ≡ min (length bytes) limit
    → new ≡ take m bytes → take m (new ++ rest) ≡ take limit bytes
kept m limit bytes new rest size copied =
    let short : m ≤ length bytes = omega arith in
    let size_back : m ≡ min limit (length bytes) = omega arith in
    let sized : length new ≡ m = ap length copied ∙ length-take-le m bytes short in
    let prefix : take m (new ++ rest) ≡ take m new = take-append-le m new rest (omega arith) in
    prefix ∙ (ap (λ (x : List ℕ). take m x) copied
    ∙ (take-take m m bytes (omega arith)
    ∙ (ap (λ (k : ℕ). take k bytes) size_back ∙ take_min limit bytes)))

-- one byte
pub kept-one : (whole bytes : List ℕ) → 0 < length whole → length bytes ≡ 1
    → take 1 (set whole 0 (get_or bytes 0 0)) ≡ take 1029 bytes
kept-one [] bytes some one = absurd (omega (arith, some))
kept-one (w ∷ whole) [] some one = absurd (omega (arith, one))
kept-one (w ∷ whole) (b ∷ []) some one = refl
kept-one (w ∷ whole) (b ∷ (c ∷ bytes)) some one = absurd (omega (arith, one))
