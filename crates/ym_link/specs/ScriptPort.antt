-- A port that plays a list of events.
use Rattle.std.specs.Prelude.{ℕ, Bool, true, false, if◌then◌else◌, List, [], ◌∷◌, ◌++◌, drop, Option, None, Some}
use Rattle.ym_file.specs.Counts.{Tally, new_tally, counted, raised}
use Rattle.ym_link.specs.Port.{read_leaves}
use Rattle.ym_link.specs.declared.event.Event.{Event}
use Rattle.ym_link.specs.declared.event.Event.TheVariants as event
use Rattle.ym_link.specs.declared.port.Wait.{Wait}

-- the events still to come, the bytes written, the waits that reads were given where there was
-- memory to keep all of them, the count down to the write that is to fail with the calls that
-- failed, and how many of these found no memory
pub record PortParts : Type 0 where
  pub coming : List Event
  pub written : List ℕ
  pub waits : Option (List Wait)
  pub tally : Tally
  pub refused : ℕ

abbrev pub new_port : List Event → Option ℕ → PortParts
new_port events failing_write = record {
  coming = events;
  written = [];
  waits = Some [];
  tally = new_tally failing_write;
  refused = 0;
}

abbrev pub kept_waits : Bool → List Wait → Option (List Wait)
kept_waits true waits = Some waits
kept_waits false waits = None

-- after a read into a buffer of this length, which failed or not
abbrev pub after_read : Bool → ℕ → PortParts → PortParts
after_read ok room p = record p {
  coming = read_leaves room p.coming;
  tally =
      if ok
      then p.tally
      else record { failing = p.tally.failing; failures = raised p.tally.failures };
}

-- after a read that found no memory to keep its wait: none is kept any more, and nothing was read
abbrev pub after_losing : PortParts → PortParts
after_losing p = record p {
  waits = None;
  tally = record { failing = p.tally.failing; failures = raised p.tally.failures };
  refused = raised p.refused;
}

-- after a write that was made
abbrev pub after_writing : List ℕ → PortParts → PortParts
after_writing bytes p = record p { written = p.written ++ bytes; tally = counted p.tally }

-- after the write that is to fail
abbrev pub after_failing : PortParts → PortParts
after_failing p = record p { tally = counted p.tally }

-- after a write that found no memory
abbrev pub after_refusing : PortParts → PortParts
after_refusing p = record p {
  tally = record { failing = (counted p.tally).failing; failures = raised p.tally.failures };
  refused = raised p.refused;
}

-- the first events are read, and of the next one the first bytes
abbrev pub cut_event : ℕ → Event → Event
cut_event used (event.Piece bytes) = event.Piece (drop used bytes)
cut_event used event.Quiet = event.Quiet
cut_event used event.Closed = event.Closed
cut_event used event.Fault = event.Fault

abbrev pub cut_prefix : ℕ → List Event → List Event
cut_prefix used [] = []
cut_prefix used (e ∷ rest) = cut_event used e ∷ rest

abbrev pub coming_of : ℕ → ℕ → List Event → List Event
coming_of used next events = cut_prefix used (drop next events)
