use Rattle.std.proofs.Common.{◌≡◌, ℕ, List, [], ◌∷◌, ◌++◌, append-nil, inl, inr, refl, sym, replicate}
use Rattle.ym_pair.proofs.Names.{verdict_of, Item, Delivery, Reply, Round, Spoke, Answered, ArrivesBack, ArrivesThere, PairUp, up_to_start}
use Rattle.ym_frame.specs.Control.{reply_bytes}
use Rattle.ym_frame.specs.Frame.{IsFrame}
use Rattle.ym_frame.specs.declared.control.Reply.TheVariants.{Silence, Start, Ack, AckStart, Nak}
use Rattle.ym_core.specs.Hearing.{heard_of}
use Rattle.ym_core.specs.Scan.{controls_in}
use Rattle.ym_core.specs.declared.delivery.Heard.TheVariants as heard
use Rattle.ym_line.specs.declared.delivery.Delivery.TheVariants.{Whole}
use Rattle.ym_pair.specs.Pairing.{WaitsInVain}
use Rattle.ym_pair.specs.PairingExamples.{Blocks, Framed, eot, ending, spoke, answered, unwritten, spoke_first, spoke_then, whole_round, vain_round}
use Rattle.ym_pair.proofs.Paired.{SilenceBack, nothing-back}
use Rattle.ym_pair.proofs.laws.examples.waits_in_vain_pair_up.Goals as goal

abbrev Brought : Type 0
Brought = (item : Item) (frame more : List ℕ) → IsFrame item frame → heard_of (frame ++ more) ≡ heard.Item item

-- a whole frame is heard as its item
whole : Brought → (one : Framed) → ArrivesThere Whole one.bytes (heard.Item one.item)
whole brought one = record { bytes = tt; shows = tt; short = tt; heard_is = sym (rw (append-nil one.bytes) at (brought one.item one.bytes [] one.is)) }

whole-eot : ArrivesThere Whole eot ending
unfolding verdict_of
whole-eot = record { bytes = tt; shows = tt; short = tt; heard_is = refl }

-- nothing was written, and nothing is heard
nothing : ArrivesThere Whole [] heard.Bad
unfolding verdict_of
nothing = record { bytes = tt; shows = tt; short = tt; heard_is = refl }

reply : (wrote : Reply) (came : List ℕ) → up_to_start (controls_in came) ≡ controls_in (reply_bytes wrote) → ArrivesBack Whole wrote came
reply wrote came is = record { shows = tt; short = tt; heard_is = is }

vain : WaitsInVain vain_round []
vain = record { there = refl; back = refl; nothing = refl }

-- from block 2 on
abbrev then-answered : Blocks → List Answered
then-answered b =
    answered (heard.Item b.two.item) Ack ∷ answered (heard.Item b.three.item) Ack ∷ answered ending Nak ∷ answered ending AckStart ∷ answered (heard.Item b.end.item) Ack ∷ []

then-pairs : Brought → (b : Blocks) → PairUp (spoke_then b) [] (then-answered b) (replicate 5 whole_round)
then-pairs brought b =
    inl (
      whole brought b.two,
      inl (
        reply Ack (6 ∷ []) refl,
        inl (
          whole brought b.three,
          inl (
            reply Ack (6 ∷ []) refl,
            inl (
              whole-eot,
              inl (
                reply Nak (21 ∷ []) refl,
                inl (
                  whole-eot,
                  inl (
                    reply AckStart (6 ∷ 67 ∷ []) refl,
                    inl (whole brought b.end, inl (reply Ack (6 ∷ []) refl, tt)),
                  ),
                ),
              ),
            ),
          ),
        ),
      ),
    )

-- up to block 1
first-pairs : Brought → (b : Blocks) (more : List Spoke) (others : List Answered) (rounds : List Round) → PairUp more [] others rounds →
    PairUp (spoke_first b ++ more) [] (answered heard.Bad Start ∷ answered (heard.Item b.zero.item) AckStart ∷ answered (heard.Item b.one.item) Ack ∷ others) (whole_round ∷ whole_round ∷ whole_round ∷ rounds)
first-pairs brought b more others rounds later =
    inl (
      nothing,
      inl (
        reply Start (67 ∷ []) refl,
        inl (
          whole brought b.zero,
          inl (
            reply AckStart (6 ∷ 67 ∷ []) refl,
            inl (whole brought b.one, inl (reply Ack (6 ∷ []) refl, later)),
          ),
        ),
      ),
    )

pub returns-clause-late : goal.returns-clause-late
returns-clause-late c blocks =
    let brought : Brought = c.a_delivery_brings_its_frame.ensures.brought in
    inr (vain, first-pairs brought blocks (spoke_then blocks) (then-answered blocks) (replicate 5 whole_round) (then-pairs brought blocks))

pub returns-clause-stalled : goal.returns-clause-stalled
returns-clause-stalled c blocks =
    let brought : Brought = c.a_delivery_brings_its_frame.ensures.brought in
    first-pairs brought blocks (spoke blocks.two.bytes [] ∷ spoke_then blocks) (then-answered blocks) (vain_round ∷ replicate 5 whole_round) (inr (vain, then-pairs brought blocks))

-- of silence no ACK comes
no-ack : SilenceBack → (delivery : Delivery) → ArrivesBack delivery Silence (6 ∷ []) → ⊥
no-ack silence delivery back = let none = nothing-back silence delivery (6 ∷ []) back in cc

no-rounds : SilenceBack → (rounds : List Round) → PairUp (spoke eot (6 ∷ []) ∷ []) [] unwritten rounds → ⊥
no-rounds silence [] pairs = pairs
no-rounds silence (round ∷ rounds) (inl (there, inl (back, later))) = no-ack silence round.back back
no-rounds silence (round ∷ []) (inl (there, inr (lost, later))) = later
no-rounds silence (round ∷ next ∷ rounds) (inl (there, inr (lost, later))) = no-ack silence next.back later.1
no-rounds silence (round ∷ rounds) (inr (vain, later)) = let none = vain.nothing in cc

pub returns-clause-refused : goal.returns-clause-refused
returns-clause-refused c = no-rounds c.nothing_comes_back_of_silence.ensures
