-- What the controller stands for in the definitions of crate rules: each field for itself, so that an equation about the view
-- fixes the whole controller.
use Rattle.std.specs.Prelude.{Bool, ℕ}
use Rattle.units.specs.declared.Millis.{Millis}
use Rattle.rules.specs.Accepted.{accept, closes_at}
use Rattle.rules.specs.Calls.{EvaluatedCall}
use Rattle.rules.specs.Altered.{Lent}
use Rattle.rules.specs.Pairs.{Pair}
use Rattle.rules.specs.State.{State}
use Rattle.rules.specs.Step5Closing.{closes, step_closing}
use Rattle.events.specs.declared.Event.{Event}
use Rattle.parts.specs.Counted.{counted}
use Rattle.parts.specs.Views.{as_moment, as_previous, as_settings, as_lines}
use Rattle.faults.specs.Views.{as_faults}
use Rattle.events.specs.Views.{as_event}
use Rattle.controller.specs.declared.Controller.{Controller}

-- the state that a controller stands for
abbrev pub state_of : Controller → State
state_of c =
    record {
      settings = as_settings c.settings;
      limit = c.limit.0;
      grant = c.grant.0;
      wave = c.wave;
      closed = c.closed;
      settled = c.settled;
      faults = as_faults c.faults;
      last = c.last.0;
      sound = as_moment c.sound;
      opening = as_moment c.opening;
      overrun = as_moment c.overrun;
      stop = as_moment c.stop;
      previous = as_previous c.previous;
      lines = as_lines c.lines;
    }

-- a controller as it is lent to a call: its state, and the closings that it carries
abbrev pub view : Controller → Lent
view c = record { state = state_of c; closings = c.closings }

-- a step works on what is kept, and the count stays
abbrev pub on_state : (State → State) → Lent → Lent
on_state step lent = record { state = step lent.state; closings = lent.closings }

-- step 5, with the count as 32 bits hold it
abbrev pub on_closing : Bool → ℕ → Pair → Lent → Lent
on_closing opened time pair lent =
    record { state = step_closing opened time pair lent.state; closings = counted (closes opened time pair lent.state) lent.closings }

-- an accepted call, with the count as 32 bits hold it
abbrev pub on_accepted : EvaluatedCall → Lent → Lent
on_accepted call lent =
    record { state = accept lent.state call; closings = counted (closes_at lent.state call) lent.closings }

-- a call of the code: its time, kind and arguments
abbrev pub evaluated_at : Millis → Event → EvaluatedCall
evaluated_at time event = record { time = time.0; event = as_event event }
