-- A measure's currents, or those that are stored: told by whether the call is a measure.
use mathlib.Core.Path.{◌≡◌, refl}
use mathlib.Core.Bool.{cond}
use Rattle.window.specs.Evaluation.{Evaluation}
use Rattle.rules.specs.Calls.{Event, sample, limit, measure, link, fault, clear, tick, is_measure}
use Rattle.rules.specs.Lines.{Lines, no_currents}
use Rattle.rules.specs.Step1Event.{lines_by}

pub chosen : (event : Event Evaluation) (stored : Lines) → cond (is_measure event) (lines_by event no_currents) stored ≡ lines_by event stored
unfolding lines_by
chosen (sample window) stored = refl
chosen (limit current) stored = refl
chosen (measure lines) stored = refl
chosen (link granted) stored = refl
chosen (fault kind) stored = refl
chosen clear stored = refl
chosen tick stored = refl
