-- For each case of the answer, document 01's number and values.
use Rattle.std.specs.Prelude.{Option, Some, None, Result, Ok, Err}
use Rattle.units.specs.declared.Levels.{Levels}
use Rattle.window.specs.Evaluation.{Evaluation, levels, refused}
use Rattle.window.specs.declared.Refused.{Refused}
use Rattle.window.specs.declared.Refused.TheVariants.{Length, Range, Support}

-- the high and the low level of a window; refusals 4, 5 and 6
abbrev pub as_evaluation : Result Levels Refused → Evaluation
as_evaluation (Ok found) = levels found.high.0 found.low.0
as_evaluation (Err Length) = refused 4
as_evaluation (Err Range) = refused 5
as_evaluation (Err Support) = refused 6

-- the same for the levels found so far
abbrev pub as_found : Option Levels → Evaluation
as_found None = refused 6
as_found (Some found) = levels found.high.0 found.low.0
