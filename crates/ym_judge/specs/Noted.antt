-- What a case shows: the first step at which the peer does something else than the reference, and
-- where there is none the step of the case.
use Rattle.std.specs.Prelude.{Bool, true, false, ◌&&◌, ◌||◌, not, if◌then◌else◌}
use Rattle.ym_frame.specs.declared.control.Reply.{Reply}
use Rattle.ym_frame.specs.declared.control.Reply.TheVariants.{Silence, Start, Ack, AckStart, Nak, Cancel}
use Rattle.ym_judge.specs.declared.act.Act.{Act}
use Rattle.ym_judge.specs.declared.act.Act.TheVariants as act
use Rattle.ym_judge.specs.declared.notes.Fits.{Fits}
use Rattle.ym_judge.specs.declared.notes.Notes.{Notes}
use Rattle.ym_judge.specs.declared.notes.Passage.{Passage}

abbrev pub is_something : Act → Bool
is_something act.Nothing = false
is_something act.Header = true
is_something (act.Block number) = true
is_something act.Eot = true
is_something act.End = true
is_something act.Cancel = true
is_something act.Noise = true
is_something (act.Answer reply) = true
is_something (act.Answers first second) = true
is_something (act.Form form) = true

-- a reply that acknowledges
abbrev pub is_ack : Reply → Bool
is_ack Silence = false
is_ack Start = false
is_ack Ack = true
is_ack AckStart = true
is_ack Nak = false
is_ack Cancel = false

-- a reply that cancels
abbrev pub is_cancel : Reply → Bool
is_cancel Silence = false
is_cancel Start = false
is_cancel Ack = false
is_cancel AckStart = false
is_cancel Nak = false
is_cancel Cancel = true

-- an ACK, and CAN CAN right behind it
abbrev pub has_taken_back : Act → Bool
has_taken_back act.Nothing = false
has_taken_back act.Header = false
has_taken_back (act.Block number) = false
has_taken_back act.Eot = false
has_taken_back act.End = false
has_taken_back act.Cancel = false
has_taken_back act.Noise = false
has_taken_back (act.Answer reply) = false
has_taken_back (act.Answers first second) = is_ack first && is_cancel second
has_taken_back (act.Form form) = false

abbrev pub no_turn : Passage
no_turn =
    record { asked = act.Nothing; did = act.Nothing; tenths = 0; fits = true; here = false }

abbrev pub no_notes : Notes
no_notes = record {
  shown = no_turn;
  fits = true;
  tried = false;
  answered = false;
  takes_back = false;
}

abbrev pub notes_behind : Passage → Notes → Notes
notes_behind turn it = record {
  shown = if it.fits && (turn.here || not turn.fits) then turn else it.shown;
  fits = it.fits && turn.fits;
  tried = it.tried || turn.here;
  answered = it.answered || is_something turn.did;
  takes_back = it.takes_back || has_taken_back turn.did;
}

abbrev pub fits_behind : Bool → Bool → Fits → Fits
fits_behind twice once it = record { twice = it.twice && twice; once = it.once && once }

-- two answers, of which either may be none
abbrev pub asks_one : Reply → Act
asks_one Silence = act.Nothing
asks_one Start = act.Answer Start
asks_one Ack = act.Answer Ack
asks_one AckStart = act.Answer AckStart
asks_one Nak = act.Answer Nak
asks_one Cancel = act.Answer Cancel

abbrev pub behind_first : Reply → Reply → Act
behind_first first Silence = act.Answer first
behind_first first second = act.Answers first second

abbrev pub asks_both : Reply → Reply → Act
asks_both Silence second = asks_one second
asks_both first second = behind_first first second
