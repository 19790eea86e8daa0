-- The window ends within the space.
use Rattle.std.proofs.Common.{length, ◌≤◌}
use Rattle.tables.proofs.readings.window.Given as goal

abbrev pub invariant-loop-run : goal.invariant-loop-run
invariant-loop-run l =
    (goal.iterator-loop-run).can_next l.run-iterator ×
    (goal.iterator-loop-run).is_finite l.run-iterator ×
    (l.end ≤ length l.space)
