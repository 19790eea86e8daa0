-- What the structs of this crate stand for in the definitions of crate rules. Field by field, so nothing is lost.
use Rattle.units.specs.declared.Millis.{Millis}
use Rattle.rules.specs.Begin as begins
use Rattle.rules.specs.Lines as lines
use Rattle.rules.specs.Pairs as pairs
use Rattle.rules.specs.Reply as replies
use Rattle.rules.specs.State as state
use Rattle.parts.specs.declared.lines.Lines.{Lines}
use Rattle.parts.specs.declared.moments.Moment.{Moment}
use Rattle.parts.specs.declared.replies.Reply.{Reply}
use Rattle.parts.specs.declared.samples.Pair.{Pair}
use Rattle.parts.specs.declared.samples.Previous.{Previous}
use Rattle.parts.specs.declared.settings.Settings.{Settings}

-- a time or a start
abbrev pub as_moment : Moment → state.Moment
as_moment m = record { set = m.set; time = m.time.0 }

-- the previous sample with its verdict
abbrev pub as_previous : Previous → state.Previous
as_previous p = record { kept = p.kept; verdict = p.verdict }

-- this and the previous sample
abbrev pub as_pair : Pair → pairs.Pair
as_pair p = record { sampled = p.sampled; this = p.this; previous = as_previous p.previous }

-- rated, pause, ventilation and mark
abbrev pub as_settings : Settings → state.Settings
as_settings s = record { rated = s.rated.0; pause = s.pause.0; ventilation = s.ventilation; digital = s.digital }

-- begin's values, the pause as it is given
abbrev pub begins_with : Millis → Settings → begins.Begin
begins_with time given =
    record { time = time.0; rated = given.rated.0; pause = given.pause.0; ventilation = given.ventilation; digital = given.digital }

-- the current on each line
abbrev pub as_lines : Lines → lines.Lines
as_lines l = record { line1 = l.line1.0; line2 = l.line2.0; line3 = l.line3.0 }

-- the reply
abbrev pub as_reply : Reply → replies.Reply
as_reply r =
    record {
      refusal = r.refusal;
      letter = r.letter;
      digit = r.digit;
      wave = r.wave;
      closed = r.closed;
      fault = r.fault;
      closings = r.closings;
      lines = as_lines r.lines;
    }
