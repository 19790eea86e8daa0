-- One latch after the other.
use mathlib.Core.Path.{◌∙◌, ap}
use Rattle.rules.specs.Faults.{overcurrent, latch_if}
use Rattle.faults.proofs.Faults.with_latches.Goals as goal

pub returns : goal.returns
returns c = c.latch_if.ensures ∙ ap (latch_if c.args.overcurrent overcurrent) c.latch_if-one.ensures
