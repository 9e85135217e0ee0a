-- the table's lines, of a receiver behind the first so many frames of a batch
use Rattle.std.proofs.Common.{ℕ, ◌+◌, ◌-◌, ◌%◌, ◌<◌, ◌≤◌, ◌≡◌, ◌≢◌, ◌==◌, List, length, Bool, true, false, refl, arith, min, take, Ok, Result}
use Rattle.std.proofs.lemmas.Bool.{lt-ltb, le-ltb}
use Rattle.std.proofs.lemmas.Bool.Decides.{nat_tests}
use Rattle.ym_link.proofs.Names.{Silence, AckStart, Nak, HeaderParts, HeaderFault, Zero, Confirm, OpenFile, Stage, AwaitHeader, InFile, Receiver, Begins, Adds, goes_on, stays, ends, opened, covered_eot, MOST_FILES}
use Rattle.ym_frame.specs.declared.control.Reply.TheVariants.{Ack}
use Rattle.ym_frame.specs.declared.frame.Item.TheVariants as item
use Rattle.ym_header.specs.declared.reading.Zero.TheVariants.{File}
use Rattle.ym_core.specs.declared.delivery.Heard.TheVariants as heard
use Rattle.ym_core.specs.declared.state.RecvState.TheVariants as state
use Rattle.ym_core.specs.Receiver.{hears}

pub yes : (a : ℕ) → (a == a) ≡ true
yes a = grind (arith, nat_tests)

pub differ : (a b : ℕ) → a ≢ b → (a == b) ≡ false
differ a b h = grind (arith, nat_tests)

-- numbers that follow one another differ, modulo 256 too
follows : (k : ℕ) → k % 256 ≢ (k + 1) % 256
follows k = omega arith

-- a running receiver
abbrev pub running_at : Confirm → Stage → ℕ → ℕ → Receiver
running_at confirm stage files retries = record { confirm = confirm; stage = stage; files = files; retries = retries; state = state.Running }

abbrev pub file_of : ℕ → ℕ → ℕ → Bool → OpenFile
file_of len taken blocks first_eot = record { length = len; taken = taken; blocks = blocks; first_eot = first_eot }

module _ (confirm : Confirm) (files retries : ℕ) where
  pub row-opening : (header : HeaderParts) (body : List ℕ) → files < MOST_FILES
      → hears (running_at confirm AwaitHeader files retries) (Ok (File header)) (heard.Item (item.Block (record { number = 0; body = body })))
      ≡ goes_on (record (running_at confirm AwaitHeader files retries) { stage = InFile (opened header) }) AckStart (Begins header)
  row-opening header body few = rw (lt-ltb files MOST_FILES few) refl

  module _ (zero : Result Zero HeaderFault) where
    pub row-cancel : (stage : Stage) → hears (running_at confirm stage files retries) zero (heard.Item item.Cancel) ≡ ends (running_at confirm stage files retries) state.Cancelled Silence
    row-cancel AwaitHeader = refl
    row-cancel (InFile file) = refl

    pub row-bad-later : (len taken k : ℕ) (eot : Bool) → hears (running_at confirm (InFile (file_of len taken (k + 1) eot)) files retries) zero heard.Bad ≡ stays (running_at confirm (InFile (file_of len taken (k + 1) eot)) files retries) Nak
    row-bad-later len taken k eot = rw (differ (k + 1) 0 (omega arith)) refl

    pub row-piece : (len taken k : ℕ) (eot : Bool) (body : List ℕ) → taken < len
        → hears (running_at confirm (InFile (file_of len taken k eot)) files retries) zero (heard.Item (item.Block (record { number = (k + 1) % 256; body = body })))
        ≡ goes_on (running_at confirm (InFile (file_of len (taken + min (len - taken) (length body)) (k + 1) eot)) files retries) Ack (Adds (take (len - taken) body))
    row-piece len taken k eot body more = rw (yes ((k + 1) % 256), lt-ltb taken len more) refl

    -- the last data block once more, whatever wraps
    pub row-piece-again : (len taken k : ℕ) (eot : Bool) (body : List ℕ)
        → hears (running_at confirm (InFile (file_of len taken (k + 1) eot)) files retries) zero (heard.Item (item.Block (record { number = (k + 1) % 256; body = body })))
        ≡ stays (running_at confirm (InFile (file_of len taken (k + 1) eot)) files retries) Ack
    row-piece-again len taken k eot body = rw (differ ((k + 1) % 256) ((k + 1 + 1) % 256) (follows (k + 1)), yes ((k + 1) % 256), differ (k + 1) 0 (omega arith)) refl

    pub row-eot : (len taken k : ℕ) (eot : Bool) → len ≤ taken
        → hears (running_at confirm (InFile (file_of len taken k eot)) files retries) zero (heard.Item item.Eot)
        ≡ covered_eot (running_at confirm (InFile (file_of len taken k eot)) files retries) confirm (file_of len taken k eot) eot
    row-eot len taken k eot all = rw (le-ltb taken len all) refl

    pub row-eot-again : 0 < files → hears (running_at confirm AwaitHeader files retries) zero (heard.Item item.Eot) ≡ stays (running_at confirm AwaitHeader files retries) AckStart
    row-eot-again some = rw (lt-ltb 0 files some) refl
