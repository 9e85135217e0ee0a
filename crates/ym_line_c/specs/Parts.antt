-- The parts of the machine that their numbers stand for.
use Rattle.ym_heard.specs.declared.ear.Ear.{Ear}
use Rattle.ym_timing.specs.declared.arrivals.Arrivals.{Arrivals}
use Rattle.ym_heard.specs.declared.hold.Hold.{Hold}
use Rattle.ym_timing.specs.declared.out.Out.{Out}
use Rattle.ym_timing.specs.declared.pace.Pace.{Pace}
use Rattle.ym_heard.specs.declared.sent.Sent.{Sent}
use Rattle.ym_line_c.specs.LineCodes.{flag_of, trust_of, owed_of, kind_of, first_ack_of, echo_of}
use Rattle.ym_line_c.specs.declared.parts.YmEar.{YmEar}
use Rattle.ym_line_c.specs.declared.parts.YmHeard.{YmHeard}
use Rattle.ym_line_c.specs.declared.parts.YmHold.{YmHold}
use Rattle.ym_line_c.specs.declared.parts.YmOut.{YmOut}
use Rattle.ym_line_c.specs.declared.parts.YmPace.{YmPace}
use Rattle.ym_line_c.specs.declared.parts.YmSent.{YmSent}

abbrev pub pace_of : YmPace → Pace
pace_of k = record { slowest = k.slowest; trust = trust_of k.trust }

abbrev pub out_of : YmOut → Out
out_of k = record {
  owed = owed_of k.owed;
  copies = k.copies;
  first_at = k.first_at;
  last_at = k.last_at;
  gap = k.gap;
}

abbrev pub sent_of : YmSent → Sent
sent_of k = record { length = k.length; first = k.first; second = k.second; kind = kind_of k.kind }

abbrev pub heard_of : YmHeard → Arrivals
heard_of k = record {
  count = k.count;
  since = k.since;
  last = k.last;
  answered_at = k.answered_at;
  first = k.first;
  second = k.second;
  answers = k.answers;
  is_ack = flag_of k.is_ack;
  is_quiet = flag_of k.is_quiet;
  waits = k.waits;
  is_late = flag_of k.is_late;
}

abbrev pub ear_of : YmEar → Ear
ear_of k = record { echo = echo_of k.echo k.first k.number k.place; others = k.others; at = k.at }

abbrev pub hold_of : YmHold → Hold
hold_of k = record {
  is_held = flag_of k.is_held;
  at = k.at;
  first_ack = first_ack_of k.first_ack;
  asks_left = k.asks_left;
  asked_at = k.asked_at;
}
