-- The machine that the numbers of a line stand for, its clock, and how far it is clear.
use Rattle.ym_timing.specs.declared.purge.Purge.{Purge}
use Rattle.ym_heard.specs.declared.clock.Clock.{Clock}
use Rattle.ym_timing.specs.declared.timing.Timing.{Timing}
use Rattle.ym_line_c.specs.LineCodes.{flag_of, role_of, need_of, heed_of}
use Rattle.ym_line_c.specs.Parts.{pace_of, out_of, sent_of, heard_of, ear_of, hold_of}
use Rattle.ym_line_c.specs.declared.clearing.YmClearing.{YmClearing}
use Rattle.ym_line_c.specs.declared.line.YmLine.{YmLine}

abbrev pub timing_of : YmLine → Timing
timing_of k = record {
  role = role_of k.role;
  pace = pace_of k.pace;
  out = out_of k.out;
  sent = sent_of k.sent;
  led_at = k.led_at;
  heard = heard_of k.heard;
  ear = ear_of k.ear;
  hold = hold_of k.hold;
  echoed = k.echoed;
  prefix = record {
    is_there = flag_of k.front_is_there;
    first = k.front_first;
    second = k.front_second;
  };
  shaken = k.shaken;
  is_refused = flag_of k.is_refused;
  vain = k.vain;
  has_cancel = flag_of k.has_cancel;
}

abbrev pub clock_of : YmLine → Clock
clock_of k = record { at = k.clock_at; behind = k.clock_behind }

abbrev pub purge_of : YmClearing → Purge
purge_of k = record {
  need = need_of k.need;
  from = k.from;
  owed = k.owed;
  answered_at = k.answered_at;
  end_at = k.end_at;
  has_brought = flag_of k.has_brought;
  heed = heed_of k.heed;
}
