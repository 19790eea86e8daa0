-- It comes behind those that are latched, of which there are at most five.
use native.Mathlib.Omega.{arith}
use Rattle.rules.proofs.Counts.{many_most}
use Rattle.faults.specs.Views.{as_faults}
use Rattle.faults.proofs.Faults.latch.Goals as goal

pub overflow_add-last : goal.overflow_add-last
overflow_add-last c = omega (arith, c.how_many-last.ensures, many_most (as_faults c.args.self))
