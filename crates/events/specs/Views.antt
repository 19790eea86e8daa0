-- What a call's kind and arguments stand for in the definitions of crate rules.
use Rattle.window.specs.Evaluation.{Evaluation}
use Rattle.window.specs.Numbers.{as_evaluation}
use Rattle.rules.specs.Calls as calls
use Rattle.parts.specs.Views.{as_lines}
use Rattle.events.specs.declared.Event.{Event}
use Rattle.events.specs.declared.Event.TheVariants.{Sample, Limit, Measure, Link, Fault, Clear, Tick}

-- a call's kind and arguments, its window evaluated
abbrev pub as_event : Event → calls.Event Evaluation
as_event (Sample window) = calls.sample (as_evaluation window)
as_event (Limit current) = calls.limit current.0
as_event (Measure lines) = calls.measure (as_lines lines)
as_event (Link granted) = calls.link granted.0
as_event (Fault kind) = calls.fault kind
as_event Clear = calls.clear
as_event Tick = calls.tick
