-- The faults that the host tells, by their numbers: 3 residual current, 4 welded contact, 5 over-temperature.
use Rattle.std.specs.Prelude.{cond, ℕ, eqb, Option, Some, None}
use Rattle.faults.specs.declared.Fault.{Fault}
use Rattle.faults.specs.declared.Fault.TheVariants.{Residual, Welded, Temperature}

-- the fault of a number, or none
abbrev pub told : ℕ → Option Fault
told kind = cond (eqb kind 3) (Some Residual) (cond (eqb kind 4) (Some Welded) (cond (eqb kind 5) (Some Temperature) None))
