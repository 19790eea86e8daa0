-- The parts come to an end, and the number is one.
use Rattle.std.proofs.Common.{◌<◌}
use Rattle.tables.proofs.text.Run.read.Given as goal

abbrev pub invariant-loop-part : goal.invariant-loop-part
invariant-loop-part l =
    (goal.iterator-loop-part).can_next l.part-iterator ×
    (goal.iterator-loop-part).is_finite l.part-iterator ×
    (l.number.1.0 < 1000000000000000)
